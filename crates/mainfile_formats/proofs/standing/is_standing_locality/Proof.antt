-- `mainfile_formats::standing::is_standing_locality` meets its contract. Assumes nothing.
use borrow.Author.Rules.{rules}
use Prim.Native.Nat.{◌-◌}
use mathlib.Core.Path.{refl}
use native.Mathlib.Omega.{arith}
use lib.Dec.{eqb, lit≤}
use Rattle.field.proofs.Tests.{and_left, and_right}
use Rattle.file.specs.Mainfile.{localities}
use Rattle.file.proofs.Laws.{judged-fine}
use Rattle.mainfile_formats.proofs.Sequence.{long, or-known}
use Rattle.mainfile_formats.proofs.standing.is_standing_locality.Statement.{statement}
use Rattle.mainfile_formats.proofs.standing.is_standing_locality.Tie as tie

is-rising-short-requires : tie.Need-is_rising_short-above-requires
is-rising-short-requires c κs =
    let rec = c.before in
    let start = rec.before.before in
    let file = start.args.file.now in
    let i = start.args.i in
    (lit≤ tt, rw c.whole_record-before.ensures (long 151 8 file (i - 1) (omega (arith, start.requires.high)) (lit≤ tt)), rw rec.whole_record-rec.ensures (long 151 8 file i (omega (arith, start.requires.high)) (lit≤ tt)))

returns : tie.Need-returns
returns c =
    let rising = c in
    let prior = rising in
    let rec = prior in
    let start = rec in
    let i = start.args.i in
    λ e.
    let fine = c.is_fine_locality.result in
    judged-fine localities start.args.file.now i
    (rw rec.whole_record-rec.ensures at (c.is_fine_locality.ensures (and_left fine _ e)))
    (or-known (eqb i 1) rising.is_rising_short-above.result _
    (rw (rec.whole_record-rec.ensures, prior.whole_record-before.ensures) at rising.is_rising_short-above.ensures) (and_right fine _ e))
    refl

pub is_standing_locality_spec : {M : Type 1} → statement M
is_standing_locality_spec =
    tie.close
    (tie.spec
    (search rules)
    (search rules)
    (search rules)
    is-rising-short-requires
    (search rules)
    returns)
