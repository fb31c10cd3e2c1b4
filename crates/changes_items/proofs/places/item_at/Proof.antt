-- `changes_items::places::item_at` meets its contract. Assumes nothing.
use borrow.Author.Rules.{rules}
use Prim.Native.Nat.{ℕ, ◌≤◌}
use mathlib.Core.Path.{ap, ◌∙◌}
use mathlib.Core.List.{◌++◌}
use lib.ListN.{length, take}
use Rattle.label.proofs.Puts.{lent, given_back}
use Rattle.item_write.specs.Headed.{headed}
use Rattle.item_write.proofs.Headed.{cut-within}
use Rattle.changes_items.proofs.Laws.{asked-small, asked-item}
use Rattle.changes_items.proofs.places.item_at.Statement.{statement}
use Rattle.changes_items.proofs.places.item_at.Tie as tie

within : (c : tie.After-room_before-room) → c.room_before-room.result ≤ length c.args.out.now
within c =
    let a = c.args in
    rw c.room_before-room.ensures (cut-within a.heading.now a.out.now)

part-label-at-start : tie.Need-slice_bounds-label_at-start
part-label-at-start c = let h = within c in search rules

headed-item-requires : tie.Need-headed_item-requires
headed-item-requires c κs =
    let label = c in
    let room = label in
    let start = room in
    let a = start.args in
    let asked = rw room.room_before-room.ensures at (rw (lent a.out.now room.room_before-room.result) at label.label_at-answer.ensures) in
    (start.requires.1, asked-small a.table.now a.points.now a.place a.heading.now a.out.now start.requires.0 asked)

returns : tie.Need-returns
returns c =
    let whole = c in
    let label = whole in
    let room = label in
    let start = room in
    let a = start.args in
    let asked = rw room.room_before-room.ensures at (rw (lent a.out.now room.room_before-room.result) at label.label_at-answer.ensures) in
    whole.headed_item.ensures
    ∙ (ap (headed a.heading.now label.label_at-answer.result)
    (given_back a.out.now _ room.room_before-room.result
    ∙ ap (λ (n : ℕ). take n a.out.now ++ label.label_at-answer.new.out) room.room_before-room.ensures)
    ∙ asked-item a.table.now a.points.now a.place a.heading.now a.out.now start.requires.0 asked)

pub item_at_spec : {M : Type 1} → statement M
item_at_spec =
    tie.close
    (tie.spec (search rules) within part-label-at-start (search rules) (λ c κs. search rules) headed-item-requires
    (search rules) returns)
