-- `book_change::inner::insert` meets its contract. Assumes nothing.
use borrow.Author.Rules.{rules}
use Prim.Native.Nat.{suc, ◌+◌}
use mathlib.Core.Path.{◌≡◌, refl, sym, ◌∙◌}
use native.Mathlib.Omega.{arith}
use Rattle.refusal.proofs.Outcomes.{said-as}
use Rattle.book.specs.Layout.{count_of}
use Rattle.book_change.specs.Slotted.{present}
use Rattle.book_change.proofs.Writes.{inserted, upto-laid}
use Rattle.book_change.proofs.Changes.{insertion-twice, insertion-full, insertion-done}
use Rattle.book_change.proofs.inner.insert.Statement.{statement}
use Rattle.book_change.proofs.inner.insert.Tie as tie

-- no goal is called by its test, so that another test is refused for what it means
pub insert_spec : {M : Type 1} → statement M
insert_spec =
    tie.close
    (tie.spec (search rules) (search rules) (search rules) (search rules) (search rules) (search rules)
    (λ c.
    said-as c.refused.ensures refl
    ∙ sym (insertion-twice c.args.book.now (present c.args.view.now c.args.follower.now) (omega (arith, c.keeper_of-kept.ensures))))
    (search rules) (search rules) (search rules)
    (λ c.
    said-as (search rules) refl
    ∙ sym
    (insertion-full c.args.book.now (present c.args.view.now c.args.follower.now) (omega (arith, c.keeper_of-kept.ensures))
    (omega (arith, c.free_slot-free.ensures))))
    (search rules) (search rules) (search rules) (search rules) (search rules)
    (λ c.
    let book = c.args.book.now in
    let new = present c.args.view.now c.args.follower.now in
    let count = c.count_of-count.result in
    let more : count + 1 ≡ suc (count_of book) = omega (arith, c.count_of-count.ensures.0) in
    let done = inserted book _ new more c.free_slot-free.ensures c.keep_in.ensures in
    insertion-done book new (omega (arith, c.keeper_of-kept.ensures)) (omega (arith, c.free_slot-free.ensures)) (count + 1) _ more
    (upto-laid (count + 1) done c.short_at.ensures)))
