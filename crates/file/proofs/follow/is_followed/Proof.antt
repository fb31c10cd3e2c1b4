-- `file::follow::is_followed` meets its contract. Assumes nothing.
use borrow.Author.Rules.{rules}
use Rattle.file.proofs.Owners.{view-needs, followed-by}
use mathlib.Core.Path.{◌∙◌}
use Rattle.file_record.proofs.Records.{part_length}
use lib.Dec.{lit≤}
use native.Mathlib.Omega.{arith}
use Rattle.file.proofs.follow.is_followed.Statement.{statement}
use Rattle.file.proofs.follow.is_followed.Tie as tie

is-same-41-requires : tie.Need-is_same_41-same-requires
is-same-41-requires c κs =
    let one = c.before in
    let start = one.before.before.before.before.before.before.before in
    let view = start.args.view.now in
    let next = start.args.next.now in (
      rw one.part_of.ensures (part_length next 0 41 (lit≤ tt) (omega (arith, start.requires.1))),
      rw c.part_of-2.ensures (part_length view 0 41 (lit≤ tt) (omega (arith, start.requires.0.long))),
    )

returns : tie.Need-returns
returns c =
    let two = c in
    let one = two in
    let kind = one in
    let need = kind in
    let zero = need in
    let large = zero in
    let start = large in
    let view = start.args.view.now in
    let next = start.args.next.now in
    λ e.
    followed-by view next need.needed_by-need.result c.is_same_41-same.result
    (need.needed_by-need.ensures ∙ rw (zero.eight_zero.ensures, large.byte_of-large.ensures) (view-needs view start.requires.0))
    (rw (one.part_of.ensures, two.part_of-2.ensures) at c.is_same_41-same.ensures) (rw kind.byte_of-kind.ensures at e)

pub is_followed_spec : {M : Type 1} → statement M
is_followed_spec =
    tie.close
    (tie.spec
    (search rules)
    (search rules)
    (search rules)
    (search rules)
    (search rules)
    (search rules)
    is-same-41-requires
    returns)
