-- `file_formats::standing::is_standing_row` meets its contract. Assumes nothing.
use borrow.Author.Rules.{rules}
use Prim.Native.Nat.{◌-◌}
use mathlib.Core.Path.{refl}
use mathlib.Core.Bool.{false≢true}
use native.Mathlib.Omega.{arith}
use lib.Dec.{lit≤}
use Rattle.file.specs.Formats.{table_format}
use Rattle.file.proofs.Laws.{judged-fine}
use Rattle.file_formats.proofs.Places.{front_length}
use Rattle.file_formats.proofs.standing.is_standing_row.Statement.{statement}
use Rattle.file_formats.proofs.standing.is_standing_row.Tie as tie

returns : tie.Need-returns-then-not-is_fine
returns c = λ e. absurd (false≢true e)

is-above-24-requires : tie.Need-is_above_24-above-requires
is-above-24-requires c κs =
    let one = c in
    let prior = one in
    let rec = prior in
    let start = rec.before.before in
    let file = start.args.file.now in
    let i = start.args.i in (
      rw (one.part_of.ensures, rec.whole_record-rec.ensures) (omega (arith, front_length 169 24 file i (omega (arith, start.requires.high)) (lit≤ tt))),
      rw (c.part_of-2.ensures, prior.whole_record-before.ensures) (omega (arith, front_length 169 24 file (i - 1) (omega (arith, start.requires.high)) (lit≤ tt))),
    )

returns-2 : tie.Need-returns
returns-2 c =
    let two = c in
    let one = two in
    let prior = one in
    let kept = prior in
    let fine = kept in
    let rec = fine in
    let start = rec in
    λ e.
    judged-fine table_format start.args.file.now start.args.i
    (rw rec.whole_record-rec.ensures at (fine.is_fine.ensures (kept.if-not-is_fine.false)))
    (rw (
      c.is_above_24-above.ensures,
      one.part_of.ensures,
      two.part_of-2.ensures,
      rec.whole_record-rec.ensures,
      prior.whole_record-before.ensures,
    ) at e) refl

pub is_standing_row_spec : {M : Type 1} → statement M
is_standing_row_spec =
    tie.close
    (tie.spec
    (search rules)
    (search rules)
    returns
    (search rules)
    (search rules)
    (search rules)
    (search rules)
    is-above-24-requires
    returns-2)
