-- `mainfile_formats::standing::is_standing_address` meets its contract. Assumes nothing.
use borrow.Author.Rules.{rules}
use Prim.Native.Nat.{◌-◌}
use mathlib.Core.Path.{refl, sym, ap, ◌∙◌}
use mathlib.Core.Bool.{not, false≢true}
use native.Mathlib.Omega.{arith}
use borrow.Author.Tests.{eq-eqb}
use lib.Dec.{eqb, lit≤}
use Rattle.field.proofs.Tests.{and_left, and_right}
use Rattle.file.specs.Mainfile.{addresses}
use Rattle.file.proofs.Laws.{judged-fine}
use Rattle.file.proofs.Accepted.{judged-record}
use Rattle.mainfile_formats.proofs.Sequence.{long, or-known}
use Rattle.mainfile_formats.proofs.standing.is_standing_address.Statement.{statement}
use Rattle.mainfile_formats.proofs.standing.is_standing_address.Tie as tie

is-rising-address-requires : tie.Need-is_rising_address-above-requires
is-rising-address-requires c κs =
    let rec = c.before in
    let start = rec.before.before in
    let file = start.args.file.now in
    let i = start.args.i in
    (rw c.whole_record-before.ensures (long 88 88 file (i - 1) (omega (arith, start.requires.high)) (lit≤ tt)), rw rec.whole_record-rec.ensures (long 88 88 file i (omega (arith, start.requires.high)) (lit≤ tt)))

is-fine-requires : tie.Need-is_fine-requires
is-fine-requires c κs =
    let prior = c.before in
    let rec = prior.before in
    let start = rec.before.before in
    let walk = start.requires in
    let file = start.args.file.now in
    let i = start.args.i in (
      rw rec.whole_record-rec.ensures (long 88 88 file i (omega (arith, walk.high)) (lit≤ tt)),
      λ e. rw prior.whole_record-before.ensures
          (judged-record addresses file (i - 1) (walk.last_fine (λ one. false≢true (sym (ap not (eq-eqb i 1 one)) ∙ e)))).well_formed,
    )

returns : tie.Need-returns
returns c =
    let rising = c in
    let prior = rising in
    let rec = prior in
    let start = rec in
    let i = start.args.i in
    λ e.
    let fine = c.is_fine.result in
    judged-fine addresses start.args.file.now i
    (rw rec.whole_record-rec.ensures at (c.is_fine.ensures (and_left fine _ e)))
    (or-known (eqb i 1) rising.is_rising_address-above.result _
    (rw (rec.whole_record-rec.ensures, prior.whole_record-before.ensures) at rising.is_rising_address-above.ensures) (and_right fine _ e))
    refl

pub is_standing_address_spec : {M : Type 1} → statement M
is_standing_address_spec =
    tie.close
    (tie.spec
    (search rules)
    (search rules)
    (search rules)
    is-rising-address-requires
    is-fine-requires
    returns)
