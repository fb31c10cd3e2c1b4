-- `pack_items::points::item_at` meets its contract. Assumes nothing.
use borrow.Author.Rules.{rules}
use Prim.Native.Nat.{ℕ, ◌≤◌}
use mathlib.Core.Path.{◌≡◌, sym, ap, ◌∙◌}
use mathlib.Core.List.{◌++◌}
use native.Mathlib.Omega.{arith}
use lib.ListN.{length, take, drop}
use lib.Seq.{length-take-le}
use Rattle.label.proofs.Puts.{lent, given_back}
use Rattle.item.specs.Lines.{point_line}
use Rattle.item_write.specs.Headed.{before, headed}
use Rattle.item_write.proofs.Headed.{cut-within}
use Rattle.pack.specs.Points.{point_label}
use Rattle.pack_open.proofs.Opened.{opened-all, opened-sized}
use Rattle.pack_items.proofs.Laws.{asked-small, asked-item}
use Rattle.pack_items.proofs.points.item_at.Statement.{statement}
use Rattle.pack_items.proofs.points.item_at.Tie as tie

slice-aggregate-heading : tie.Need-slice_bounds-heading-end
slice-aggregate-heading c = sym (length-take-le _ _ c.point_line-line.ensures.within)

-- once the room for the heading is found
module _ (c : tie.After-room_before-room) where
  abbrev line : tie.After-point_line-line
  line = c.before.before.before

  abbrev start : tie.Start
  start = line.before.before.before

  room : c.room_before-room.result ≡ before (point_line start.args.k) (length start.args.out.now)
  room = rw line.point_line-line.ensures.is at c.room_before-room.ensures

  within : c.room_before-room.result ≤ length start.args.out.now
  within = omega (arith, room, cut-within (point_line start.args.k) start.args.out.now)

part-label-at-start : tie.Need-slice_bounds-label_at-start
part-label-at-start c = let h = within c in search rules

label-at-requires : tie.Need-label_at-answer-requires
label-at-requires c κs =
    let s = start c.before in
    (opened-sized s.args.pack.now _ s.requires, (opened-all s.args.pack.now _ s.requires).counted)

headed-item-requires : tie.Need-headed_item-requires
headed-item-requires c κs =
    let label = c in
    let found = label in
    let s = start found.before.before.before.before.before in
    let a = s.args in
    let asked =
    rw (lent a.out.now found.room_before-room.result) at label.label_at-answer.ensures
    ∙ ap (λ (n : ℕ). point_label a.pack.now a.k (drop n a.out.now)) (room found.before.before.before.before.before) in (
      rw (line found.before.before.before.before.before).point_line-line.ensures.is (line found.before.before.before.before.before).point_line-line.ensures.short,
      asked-small point_line a.pack.now a.k a.out.now s.requires asked,
    )

returns : tie.Need-returns
returns c =
    let whole = c in
    let label = whole in
    let found = label in
    let s = start found.before.before.before.before.before.before.before.before in
    let a = s.args in
    let asked =
    rw (lent a.out.now found.room_before-room.result) at label.label_at-answer.ensures
    ∙ ap (λ (n : ℕ). point_label a.pack.now a.k (drop n a.out.now)) (room found.before.before.before.before.before.before.before.before) in
    rw (line found.before.before.before.before.before.before.before.before).point_line-line.ensures.is at whole.headed_item.ensures
    ∙ (ap (headed (point_line a.k) label.label_at-answer.result)
    (given_back a.out.now _ found.room_before-room.result
    ∙ ap (λ (n : ℕ). take n a.out.now ++ label.label_at-answer.new.out) (room found.before.before.before.before.before.before.before.before))
    ∙ asked-item point_line a.pack.now a.k a.out.now s.requires asked)

pub item_at_spec : {M : Type 1} → statement M
item_at_spec =
    tie.close
    (tie.spec (search rules) (search rules) slice-aggregate-heading (search rules) within part-label-at-start
    (search rules) label-at-requires headed-item-requires (search rules) returns)
