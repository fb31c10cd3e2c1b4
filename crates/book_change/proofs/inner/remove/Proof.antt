-- `book_change::inner::remove` meets its contract. Assumes nothing.
use borrow.Author.Rules.{rules}
use Prim.Native.Nat.{ℕ, ◌-◌}
use mathlib.Core.Path.{refl, sym, ap, ◌∙◌}
use Rattle.refusal.proofs.Outcomes.{said-as}
use Rattle.book.specs.Layout.{slot_at, place_of}
use Rattle.book_change.proofs.Writes.{upto-laid}
use Rattle.book_change.proofs.Changes.{removal-none, removal-done}
use Rattle.book_change.proofs.inner.remove.Statement.{statement}
use Rattle.book_change.proofs.inner.remove.Tie as tie

returns : tie.Need-returns-then-s-ge-SLOTS
returns c =
    let behind-if1 = c in
    let behind-keeper-of = behind-if1 in
    let start = behind-keeper-of in
    let a = start.args in
    let absent = rw behind-keeper-of.keeper_of-s.ensures at behind-if1.if-s-ge-SLOTS.true in
    said-as c.refused.ensures refl ∙ sym (removal-none a.book.now a.id.now absent)

returns-2 : tie.Need-returns
returns-2 c =
    let behind-short-at = c in
    let behind-above = behind-short-at in
    let behind-remove-all = behind-above in
    let behind-place-in = behind-remove-all in
    let behind-count-of = behind-place-in in
    let behind-if1 = behind-count-of in
    let behind-keeper-of = behind-if1 in
    let start = behind-keeper-of in
    let a = start.args in
    let book = a.book.now in
    let kept = rw behind-keeper-of.keeper_of-s.ensures at behind-if1.if-s-ge-SLOTS.false in
    let place =
    behind-place-in.place_in-place.ensures.0 ∙ ap (λ (s : ℕ). place_of (slot_at book s)) behind-keeper-of.keeper_of-s.ensures in
    let count = behind-above.above.ensures.0 ∙ ap (λ (n : ℕ). n - 1) behind-count-of.count_of-count.ensures.0 in
    removal-done book a.id.now kept _ _ _ place count
    (upto-laid behind-above.above.result behind-remove-all.remove_all.ensures behind-short-at.short_at.ensures)

pub remove_spec : {M : Type 1} → statement M
remove_spec =
    tie.close
    (tie.spec (search rules) (search rules) (search rules) returns (search rules) (search rules) (search rules)
    (search rules) (search rules) (search rules) returns-2)
