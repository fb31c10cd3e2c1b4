-- `book_label::shown::item_from` meets its contract. Assumes nothing.
use borrow.Author.Rules.{rules}
use Prim.Native.Nat.{ℕ, ◌≤◌}
use mathlib.Core.Path.{◌≡◌, sym, ap, ◌∙◌}
use mathlib.Core.Bool.{true, false}
use mathlib.Core.List.{List, ◌++◌}
use native.Mathlib.Omega.{arith}
use lib.ListN.{length, take, drop}
use lib.Seq.{length-take-le}
use Rattle.label.proofs.Puts.{lent, given_back}
use Rattle.refusal.specs.Outcome.{said}
use Rattle.item_write.specs.Headed.{before, headed}
use Rattle.item_write.proofs.Headed.{cut-within}
use Rattle.book_source.specs.Source.{place_line}
use Rattle.book_source.specs.Starts.{place_before}
use Rattle.book_label.specs.Shown.{shown_from}
use Rattle.book_label.proofs.Laws.{shown-none, asked-small, asked-item}
use Rattle.book_label.proofs.shown.item_from.Statement.{statement}
use Rattle.book_label.proofs.shown.item_from.Tie as tie

returns : tie.Need-returns-then-at-eq0
returns c =
    let a = c.args in
    rw c.into.ensures (sym (shown-none true a.table.now a.book.now a.at a.out.now c.if-at-eq0.true))

-- once the room for the line is found

module _ (c : tie.After-room_before-room) where
  abbrev written : tie.After-worded_line-line
  written = c.before.before.before

  abbrev there : tie.Else-at-eq0
  there = written.before.before.before.before

  abbrev start : tie.Start
  start = there.before.before.before.before

  abbrev line : List ℕ
  line = place_line (place_before start.args.book.now start.args.at)

  line-is : take written.worded_line-line.result.len written.worded_line-line.result.bytes ≡ line
  line-is = written.worded_line-line.ensures.is ∙ ap place_line written.place_before.ensures

  room : c.room_before-room.result ≡ before line (length start.args.out.now)
  room = c.room_before-room.ensures ∙ ap (λ (l : List ℕ). before l (length start.args.out.now)) line-is

  within : c.room_before-room.result ≤ length start.args.out.now
  within = omega (arith, room, cut-within line start.args.out.now)

-- once the label was asked
module _ (l : tie.After-label_from-answer) where
  abbrev found : tie.After-room_before-room
  found = l.before.before

  asked : let a = (start found).args in
      said l.label_from-answer.result l.label_from-answer.new.out
      ≡ shown_from false a.table.now a.book.now a.at
      (drop (before (line found) (length a.out.now)) a.out.now)
  asked =
      let a = (start found).args in
      rw (lent a.out.now found.room_before-room.result) at l.label_from-answer.ensures
      ∙ ap (λ (n : ℕ). shown_from false a.table.now a.book.now a.at (drop n a.out.now)) (room found)

headed-item-requires : tie.Need-headed_item-requires
headed-item-requires c κs =
    let l = c in
    let s = start (found l.before.before.before) in (
      rw (written (found l.before.before.before)).worded_line-line.ensures.is (written (found l.before.before.before)).worded_line-line.ensures.short,
      asked-small s.args.table.now s.args.book.now s.args.at s.args.out.now s.requires
          (there (found l.before.before.before)).if-at-eq0.false (asked l.before.before.before),
    )

returns-2 : tie.Need-returns
returns-2 c =
    let whole = c in
    let l = whole in
    let s = start (found l.before.before.before.before.before.before) in
    let a = s.args in
    rw (line-is (found l.before.before.before.before.before.before)) at whole.headed_item.ensures
    ∙ (ap (headed (line (found l.before.before.before.before.before.before)) l.label_from-answer.result)
    (given_back a.out.now _ (found l.before.before.before.before.before.before).room_before-room.result
    ∙ ap (λ (n : ℕ). take n a.out.now ++ l.label_from-answer.new.out) (room (found l.before.before.before.before.before.before)))
    ∙ asked-item a.table.now a.book.now a.at a.out.now s.requires (there (found l.before.before.before.before.before.before)).if-at-eq0.false (asked l.before.before.before.before.before.before))

pub item_from_spec : {M : Type 1} → statement M
item_from_spec =
    tie.close
    (tie.spec (search rules) returns (λ c κs. c.requires.inside c.if-at-eq0.false) (λ c κs. search rules) (search rules) (λ c. sym (length-take-le _ _ c.worded_line-line.ensures.within)) (λ c κs. search rules) within (λ c. let h = within c in search rules) (search rules) (λ c κs. search rules) headed-item-requires (search rules) returns-2)
