-- An insertion on the bytes is the insertion among what is present.
-- Assumes nothing.
use Prim.Native.Nat.{ℕ, suc, ◌+◌, ◌≤◌, ◌<◌}
use mathlib.Core.Path.{◌≡◌, refl, sym, ap, ap₂, subst₂, ◌∙◌}
use mathlib.Core.Bool.{Bool, true, false}
use mathlib.Core.List.{List, [], ◌∷◌, ◌++◌}
use native.Mathlib.Omega.{arith}
use borrow.Author.Tests.{ltb-true, ltb-false, eq-eqb, ne_eqb}
use lib.Dec.{ltb, eqb}
use lib.ListN.{length}
use Rattle.refusal.specs.declared.Reason.TheVariants.{Later}
use Rattle.refusal.specs.declared.LaterReason.TheVariants.{InsertedTwice, NoFreeSlot}
use Rattle.refusal.specs.Outcome.{said}
use Rattle.book.specs.Layout.{slots, slot_width, slot_at, count_of, laid}
use Rattle.book.specs.Book.{identity, keeper}
use Rattle.book.specs.Meaning.{Present, present_from, means}
use Rattle.book.specs.Event.{
  insert,
  unchanged,
  changed,
  place_from,
  step_of,
  slot_bytes,
  free_in,
  slot_inserted,
  is_kept,
  insertion,
}
use Rattle.book.specs.Agrees.{Keepable, Changed, StepAgrees}
use Rattle.book.proofs.Laid.{slot-long, slot-place, slot-present, slot-wide}
use Rattle.book.proofs.Good.{
  Good,
  BookFacts,
  keeps-yes,
  keeps-used,
  keeper-of,
  keeper-found,
  free_of,
  at_place,
  present-each,
}
use Rattle.book.proofs.Count.{free-test}
use Rattle.book.proofs.Listed.{present-last}
use Rattle.book.proofs.OnePut.{PutFine, put-wide, put-good, put-present, put-others}
use Rattle.book.proofs.Again.{laid-book, laid-means, means-long, means-kept, means-unkept}
use Rattle.std.specs.Prelude.{Ok}
use Rattle.refusal.specs.Answer.{refusal}

module _ (book : List ℕ) (facts : BookFacts book) (e : Present) (keep : Keepable e) where
  abbrev slot : ℕ → List ℕ
  slot = slot_at book

  abbrev n : ℕ
  n = count_of book

  abbrev id : List ℕ
  id = identity e.view

  abbrev new : List ℕ
  new = slot_bytes (suc n) e

  module _ (other : slots ≤ keeper slot id) (free : free_in slot < slots) (room : n < slots) where
    fine : PutFine slot n (free_in slot) new (suc n) e (suc n)
    fine =
        record {
          slot-low = free;
          place_is = slot-place (suc n) e (omega arith);
          present-is = slot-present (suc n) e keep.view_long keep.follower_long;
          kept = keep.kept;
          some = omega arith;
          most = omega arith;
          more = omega arith;
          new-place = λ s h z. absurd (omega (arith, facts.good.placed s h));
          new-point = λ s h u z. absurd (omega (arith, keeper-found slot id s h (keeps-yes slot id s u z)));
          old-place = λ p h k z. (omega arith, λ c. omega (arith, free_of slot free));
        }

    wide : (s : ℕ) → s < slots → length (slot_inserted book e s) ≡ slot_width
    wide s h =
        put-wide slot (free_in slot) new slot_width (slot-wide (suc n) e keep.view_long keep.follower_long) s
        (slot-long book facts.long s h)

    good : Good (slot_inserted book e) (suc n)
    good = put-good slot n facts.good (free_in slot) new (suc n) e (suc n) fine

    listed : present_from (slot_inserted book e) (suc n) 1 ≡ means book ++ (e ∷ [])
    unfolding means
    listed =
        let last : 1 + n ≡ suc n = omega arith in
        present-last (slot_inserted book e) n 1
        ∙ ap₂ (λ l x. l ++ (x ∷ []))
        (present-each (slot_inserted book e) slot n 1 1
        (λ i h.
        put-others slot n facts.good (free_in slot) new (suc n) e (suc n) fine (1 + i) (omega arith) (omega arith)
        (λ z. omega arith)))
        (ap (at_place (slot_inserted book e)) last
        ∙ put-present slot n facts.good (free_in slot) new (suc n) e (suc n) fine)

    inserted-agrees : Changed (said (Ok (suc n)) (laid (slot_inserted book e) (suc n))) (suc n) (means book ++ (e ∷ []))
    inserted-agrees =
        record {
          answer = refl;
          book = laid-book (slot_inserted book e) (suc n) wide room good;
          meaning = laid-means (slot_inserted book e) (suc n) wide room good ∙ listed;
        }

  -- ---- the three outcomes

  module _ (kept : is_kept book id ≡ true) where
    outcome-twice : insertion book e ≡ said (refusal 0 (Later InsertedTwice)) book
    unfolding insertion
    outcome-twice = simp kept

    step_twice : step_of (insert e) (means book) ≡ unchanged (Later InsertedTwice)
    step_twice =
        let found : keeper slot id < slots = ltb-true (keeper slot id) slots kept in
        let used = keeps-used slot id (keeper slot id) (keeper-of slot id found) in
        simp (ne_eqb (place_from id 1 (means book)) 0 (λ z. omega (arith, means-kept book facts id found, used)))

    pub twice-agrees : StepAgrees book (insertion book e) (step_of (insert e) (means book))
    twice-agrees = subst₂ (StepAgrees book) (sym outcome-twice) (sym step_twice) refl

  module _ (unkept : is_kept book id ≡ false) where
    other : slots ≤ keeper slot id
    other = ltb-false (keeper slot id) slots unkept

    not-placed : eqb (place_from id 1 (means book)) 0 ≡ true
    not-placed = eq-eqb (place_from id 1 (means book)) 0 (means-unkept book facts id other)

    room-test : ltb (length (means book)) slots ≡ ltb (free_in slot) slots
    room-test = ap (λ k. ltb k slots) (means-long book facts) ∙ sym (free-test slot n facts.good)

    module _ (none : ltb (free_in slot) slots ≡ false) where
      outcome-full : insertion book e ≡ said (refusal 0 (Later NoFreeSlot)) book
      unfolding insertion
      outcome-full = simp (unkept, none)

      step-full : step_of (insert e) (means book) ≡ unchanged (Later NoFreeSlot)
      step-full = simp (not-placed, room-test ∙ none)

      pub full-agrees : StepAgrees book (insertion book e) (step_of (insert e) (means book))
      full-agrees = subst₂ (StepAgrees book) (sym outcome-full) (sym step-full) refl

    module _ (one : ltb (free_in slot) slots ≡ true) where
      outcome-value : insertion book e ≡ said (Ok (suc n)) (laid (slot_inserted book e) (suc n))
      unfolding insertion
      outcome-value = simp (unkept, one)

      step_value : step_of (insert e) (means book) ≡ changed (suc n) (means book ++ (e ∷ []))
      step_value =
          simp (not-placed, room-test ∙ one)
          (ap (λ k. changed (suc k) (means book ++ (e ∷ []))) (means-long book facts))

      pub value-agrees : StepAgrees book (insertion book e) (step_of (insert e) (means book))
      value-agrees =
          subst₂ (StepAgrees book) (sym outcome-value) (sym step_value)
          (inserted-agrees other (ltb-true (free_in slot) slots one)
          (ltb-true n slots (sym (free-test slot n facts.good) ∙ one)))

  pub insertion-agrees : StepAgrees book (insertion book e) (step_of (insert e) (means book))
  insertion-agrees = by_tests (is_kept book id) (ltb (free_in slot) slots) refl refl
    where
      by_tests : (s t : Bool) → is_kept book id ≡ s → ltb (free_in slot) slots ≡ t
          → StepAgrees book (insertion book e) (step_of (insert e) (means book))
      by_tests true t p q = twice-agrees p
      by_tests false false p q = full-agrees p q
      by_tests false true p q = value-agrees p q
