-- `file_formats::standing::is_standing_view` meets its contract. Assumes nothing.
use borrow.Author.Rules.{rules}
use Prim.Native.Nat.{◌+◌, ◌-◌}
use mathlib.Core.Path.{◌≡◌, sym, ap, ◌∙◌}
use mathlib.Core.Bool.{not, false≢true}
use native.Mathlib.Omega.{arith}
use borrow.Author.Tests.{eq-eqb}
use lib.Dec.{eqb, lit≤}
use Rattle.file_record.proofs.Records.{record-length}
use Rattle.file_fault.specs.Point.{point_fault}
use Rattle.file.specs.Check.{at}
use Rattle.file.specs.Formats.{point_format}
use Rattle.file.proofs.Laws.{judged-fine}
use Rattle.file.proofs.Accepted.{judged-record}
use Rattle.file_formats.proofs.Places.{front_length, in_order, viewed, view-placed}
use Rattle.file_formats.proofs.standing.is_standing_view.Statement.{statement}
use Rattle.file_formats.proofs.standing.is_standing_view.Tie as tie

is-fine-requires : tie.Need-is_fine-requires
is-fine-requires c κs =
    let start = c.before.before.before in
    let walk = start.requires.0 in
    let file = start.args.file.now in
    let i = start.args.i in
    λ e. rw c.whole_record-before.ensures
    (judged-record point_format file (i - 1) (walk.last_fine (λ one. false≢true (sym (ap not (eq-eqb i 1 one)) ∙ e)))).well_formed

returns : tie.Need-returns-then-not-is_fine
returns c = λ e. absurd (false≢true e)

is-above-42-requires : tie.Need-is_above_42-above-requires
is-above-42-requires c κs =
    let one = c in
    let prior = one in
    let rec = prior in
    let start = rec in
    let walk = start.requires.0 in
    let file = start.args.file.now in
    let i = start.args.i in (
      rw (one.part_of.ensures, rec.whole_record-rec.ensures)
          (omega (arith, front_length 168 42 file i (omega (arith, walk.high)) (lit≤ tt))),
      rw (c.part_of-2.ensures, prior.whole_record-before.ensures)
          (omega (arith, front_length 168 42 file (i - 1) (omega (arith, walk.high)) (lit≤ tt))),
    )

returns-2 : tie.Need-returns-then-i-above
returns-2 c = λ e. absurd (false≢true e)

-- the view has no fault
good : (next : tie.After-whole_record) → let start = next in
    point_fault (at point_format start.args.file.now start.args.i) ≡ 0
good next =
    let kept = next in
    let fine = kept in
    rw fine.whole_record-rec.ensures at (fine.is_fine.ensures (kept.if-not-is_fine.false))

is-followed-requires : tie.Need-is_followed-requires
is-followed-requires next κs =
    let rec = next in
    let start = rec in
    let file = start.args.file.now in
    let i = start.args.i in
    let high = start.requires.0.high in (
      rw rec.whole_record-rec.ensures
          (viewed (at point_format file i) (record-length 168 file i (omega (arith, high))) start.requires.1 (good next)),
      rw next.whole_record.ensures (omega (arith, record-length 168 file (i + 1) high)),
    )

returns-3 : tie.Need-returns
returns-3 c =
    let next = c in
    let over = next in
    let higher = over in
    let two = higher in
    let one = two in
    let prior = one in
    let rec = prior in
    let start = rec in
    let file = start.args.file.now in
    let i = start.args.i in
    λ e.
    judged-fine point_format file i (good next.before)
    (in_order (eqb i 1) _
    (rw (
      higher.is_above_42-above.ensures,
      one.part_of.ensures,
      two.part_of-2.ensures,
      rec.whole_record-rec.ensures,
      prior.whole_record-before.ensures,
    ) at over.if-i-above.false))
    (view-placed (at point_format file (i - 1)) (at point_format file i) (at point_format file (i + 1)) start.requires.1
    (rw (rec.whole_record-rec.ensures, next.whole_record.ensures) at (c.is_followed.ensures e)))

pub is_standing_view_spec : {M : Type 1} → statement M
is_standing_view_spec =
    tie.close
    (tie.spec
    (search rules)
    (search rules)
    (search rules)
    is-fine-requires
    returns
    (search rules)
    (search rules)
    is-above-42-requires
    returns-2
    (search rules)
    (search rules)
    is-followed-requires
    returns-3)
