-- A delivery point that is looked up first: refused where it is not present, by the bytes and by what they mean.
-- Assumes nothing.
use Prim.Native.Nat.{ℕ, ◌<◌}
use mathlib.Core.Path.{◌≡◌, refl}
use mathlib.Core.Bool.{Bool, true, false, cond}
use mathlib.Core.List.{List}
use native.Mathlib.Omega.{arith}
use borrow.Author.Tests.{ltb-true, ltb-false, eq-eqb, ne_eqb}
use lib.Dec.{eqb}
use Rattle.refusal.specs.declared.Reason.TheVariants.{Later}
use Rattle.refusal.specs.declared.LaterReason.TheVariants.{NotPresent}
use Rattle.refusal.specs.Outcome.{Outcome, said}
use Rattle.book.specs.Layout.{slots, slot_at}
use Rattle.book.specs.Book.{keeper}
use Rattle.book.specs.Meaning.{Present, means}
use Rattle.book.specs.Event.{Step, unchanged, changed, place_from, place_kept, is_kept}
use Rattle.book.specs.Agrees.{Changed, StepAgrees}
use Rattle.book.proofs.Good.{BookFacts, keeps-used, keeper-of}
use Rattle.book.proofs.Again.{means-kept, means-unkept}
use Rattle.std.specs.Prelude.{Ok}
use Rattle.refusal.specs.Answer.{Answer, refusal}

module _ (book : List ℕ) (facts : BookFacts book) (id : List ℕ) (memory : List ℕ) (next : ℕ → List Present) where
  abbrev outcome : Outcome Answer
  outcome = cond (is_kept book id) (said (Ok (place_kept book id)) memory) (said (refusal 0 (Later NotPresent)) book)

  abbrev step : Step
  step =
      cond (eqb (place_from id 1 (means book)) 0) (unchanged (Later NotPresent))
      (changed (place_from id 1 (means book)) (next (place_from id 1 (means book))))

  pub lookup-agrees :
      (keeper (slot_at book) id < slots
      → Changed (said (Ok (place_kept book id)) memory) (place_kept book id) (next (place_kept book id)))
      → StepAgrees book outcome step
  lookup-agrees there = by-test (is_kept book id) refl
    where
      by-test : (t : Bool) → is_kept book id ≡ t → StepAgrees book outcome step
      by-test true z =
          let found : keeper (slot_at book) id < slots = ltb-true (keeper (slot_at book) id) slots z in
          let used = keeps-used (slot_at book) id (keeper (slot_at book) id) (keeper-of (slot_at book) id found) in
          rw (z, means-kept book facts id found, ne_eqb (place_kept book id) 0 (λ y. omega arith)) (there found)
      by-test false z =
          let none = means-unkept book facts id (ltb-false (keeper (slot_at book) id) slots z) in
          rw (z, eq-eqb (place_from id 1 (means book)) 0 none) refl
