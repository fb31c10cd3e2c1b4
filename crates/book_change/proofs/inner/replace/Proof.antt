-- `book_change::inner::replace` meets its contract. Assumes nothing.
use borrow.Author.Rules.{rules}
use Prim.Native.Nat.{ℕ}
use mathlib.Core.Path.{refl, sym, ap, ◌∙◌}
use Rattle.refusal.proofs.Outcomes.{said-as}
use Rattle.book.specs.Layout.{slot_at, place_of}
use Rattle.book_change.specs.Slotted.{present}
use Rattle.book_change.proofs.Writes.{upto-laid}
use Rattle.book_change.proofs.Changes.{replacement-none, replacement-done}
use Rattle.book_change.proofs.inner.replace.Statement.{statement}
use Rattle.book_change.proofs.inner.replace.Tie as tie

returns : tie.Need-returns-then-s-ge-SLOTS
returns c =
    let behind-if1 = c in
    let behind-keeper-of = behind-if1 in
    let start = behind-keeper-of in
    let a = start.args in
    let absent = rw behind-keeper-of.keeper_of-s.ensures at behind-if1.if-s-ge-SLOTS.true in
    said-as c.refused.ensures refl
    ∙ sym (replacement-none a.book.now (present a.view.now a.follower.now) absent)

returns-2 : tie.Need-returns
returns-2 c =
    let behind-short-at = c in
    let behind-replace-all = behind-short-at in
    let behind-place-in = behind-replace-all in
    let behind-count-of = behind-place-in in
    let behind-if1 = behind-count-of in
    let behind-keeper-of = behind-if1 in
    let start = behind-keeper-of in
    let a = start.args in
    let book = a.book.now in
    let kept = rw behind-keeper-of.keeper_of-s.ensures at behind-if1.if-s-ge-SLOTS.false in
    let place =
    behind-place-in.place_in-place.ensures.0 ∙ ap (λ (s : ℕ). place_of (slot_at book s)) behind-keeper-of.keeper_of-s.ensures in
    let count = behind-count-of.count_of-count.result in
    replacement-done book (present a.view.now a.follower.now) kept _ count _ place behind-count-of.count_of-count.ensures.0
    (upto-laid count behind-replace-all.replace_all.ensures behind-short-at.short_at.ensures)

pub replace_spec : {M : Type 1} → statement M
replace_spec =
    tie.close
    (tie.spec (search rules) (search rules) (search rules) (search rules) (search rules) (search rules) returns
    (search rules) (search rules) (search rules) (search rules) (search rules) returns-2)
