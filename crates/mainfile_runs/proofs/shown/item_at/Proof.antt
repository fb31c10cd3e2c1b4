-- `mainfile_runs::shown::item_at` meets its contract. Assumes nothing.
use borrow.Author.Rules.{rules}
use Prim.Native.Nat.{ℕ, ◌≤◌}
use mathlib.Core.Path.{◌≡◌, sym, ap, ◌∙◌}
use mathlib.Core.List.{◌++◌}
use native.Mathlib.Omega.{arith}
use lib.ListN.{length, take, drop}
use lib.Seq.{length-take-le}
use Rattle.label.proofs.Puts.{lent, given_back}
use Rattle.refusal.specs.Outcome.{said}
use Rattle.item_write.specs.Headed.{before, headed}
use Rattle.item_write.proofs.Headed.{cut-within}
use Rattle.mainfile.specs.Set.{Set, set_of}
use Rattle.mainfile.specs.Main.{number_line}
use Rattle.mainfile_label.specs.Places.{place_label}
use Rattle.mainfile_runs.proofs.Laws.{asked-small, asked-item}
use Rattle.mainfile_runs.proofs.shown.item_at.Statement.{statement}
use Rattle.mainfile_runs.proofs.shown.item_at.Tie as tie

slice-aggregate-heading : tie.Need-slice_bounds-heading-end
slice-aggregate-heading c = sym (length-take-le _ _ c.worded_line-line.ensures.within)

-- once the room for the line is found
module _ (c : tie.After-room_before-room) where
  abbrev line : tie.After-worded_line-line
  line = c.before.before.before

  abbrev start : tie.Start
  start = line.before.before.before.before.before.before.before.before.before.before.before

  abbrev files : Set
  files =
      let a = start.args in
      set_of a.localities.now a.thoroughfares.now a.descriptors.now a.buildings.now a.subs.now
      a.organisations.now a.addresses.now

  room : c.room_before-room.result ≡ before (number_line start.args.place) (length start.args.out.now)
  room = rw line.worded_line-line.ensures.is at c.room_before-room.ensures

  within : c.room_before-room.result ≤ length start.args.out.now
  within = omega (arith, room, cut-within (number_line start.args.place) start.args.out.now)

-- once the label was asked
module _ (l : tie.After-label_at-answer) where
  abbrev found : tie.After-room_before-room
  found = l.before.before

  asked : let a = (start found).args in
      said l.label_at-answer.result l.label_at-answer.new.out
      ≡ place_label (files found) a.place (drop (before (number_line a.place) (length a.out.now)) a.out.now)
  asked =
      let a = (start found).args in
      rw (lent a.out.now found.room_before-room.result) at l.label_at-answer.ensures
      ∙ ap (λ (n : ℕ). place_label (files found) a.place (drop n a.out.now)) (room found)

part-label-at-start : tie.Need-slice_bounds-label_at-start
part-label-at-start c = let h = within c in search rules

headed-item-requires : tie.Need-headed_item-requires
headed-item-requires c κs =
    let l = c in
    let s = start (found l.before.before.before) in
    let written = (line (found l.before.before.before)).worded_line-line.ensures in (
      rw written.is written.short,
      asked-small (files (found l.before.before.before)) s.args.place s.args.out.now s.requires (asked l.before.before.before),
    )

returns : tie.Need-returns
returns c =
    let whole = c in
    let l = whole in
    let s = start (found l.before.before.before.before.before.before) in
    let a = s.args in
    rw (line (found l.before.before.before.before.before.before)).worded_line-line.ensures.is at whole.headed_item.ensures
    ∙ (ap (headed (number_line a.place) l.label_at-answer.result)
    (given_back a.out.now _ (found l.before.before.before.before.before.before).room_before-room.result
    ∙ ap (λ (n : ℕ). take n a.out.now ++ l.label_at-answer.new.out) (room (found l.before.before.before.before.before.before)))
    ∙ asked-item (files (found l.before.before.before.before.before.before)) a.place a.out.now s.requires (asked l.before.before.before.before.before.before))

pub item_at_spec : {M : Type 1} → statement M
item_at_spec =
    tie.close
    (tie.spec (search rules) (search rules) slice-aggregate-heading (search rules) within part-label-at-start (search rules) (λ c κs. search rules) headed-item-requires (search rules) returns)
