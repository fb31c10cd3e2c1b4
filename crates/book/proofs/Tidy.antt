-- A tidied book is a book that means the same, with its places in the first slots, in order.
-- Assumes nothing.
use Prim.Native.Nat.{ℕ, suc, ◌+◌, ◌-◌, ◌≤◌, ◌<◌}
use mathlib.Core.Path.{◌≡◌, refl, sym, ap, subst, ◌∙◌}
use mathlib.Core.Bool.{Bool, true, false, cond}
use mathlib.Core.List.{List}
use native.Mathlib.Omega.{arith}
use borrow.Author.Tests.{lt-ltb, ltb-true}
use lib.Dec.{ltb}
use lib.ListN.{length}
use Rattle.field.specs.Test.{only}
use Rattle.refusal.specs.Outcome.{said}
use Rattle.book.specs.Layout.{slots, slot_width, slot_at, count_of, place_of, view_of, follower_of, zeros, laid}
use Rattle.book.specs.Book.{identity, well_kept, holder, is_book, book_judged}
use Rattle.book.specs.Meaning.{present_in, present_from, means}
use Rattle.book.specs.Event.{slot_tidied, tidy_outcome}
use Rattle.book.specs.Agrees.{Tidied}
use Rattle.book.proofs.Laid.{slot-long, zeros-long, zeros-only, zeros-place, laid-slot, laid-count}
use Rattle.book.proofs.Good.{Good, BookFacts, book-facts, holder-of, holder-found, at_place, present-slot, present-each}
use Rattle.book.proofs.Again.{laid-book, laid-means}
use Rattle.std.specs.Prelude.{Ok}

module _ (f : ℕ → List ℕ) (n : ℕ) (good : Good f n) (few : n ≤ slots) where
  abbrev tidied : ℕ → List ℕ
  tidied s = cond (ltb s n) (f (holder f (suc s))) (zeros slot_width)

  -- the slot from which one of the first comes
  from_low : (s : ℕ) → s < n → holder f (suc s) < slots
  from_low s h =
      let (t, low, e) = good.held (suc s) (omega arith) h in
      rw (sym e) (omega (arith, holder-found f t low))

  from_place : (s : ℕ) → s < n → place_of (f (holder f (suc s))) ≡ suc s
  from_place s h = holder-of f (suc s) (from_low s h)

  tidy-cases : (P : List ℕ → Type 0) (s : ℕ) → (s < n → P (f (holder f (suc s)))) → P (zeros slot_width)
      → P (tidied s)
  tidy-cases P s first behind = by-test (ltb s n) refl
    where
      by-test : (t : Bool) → ltb s n ≡ t → P (cond t (f (holder f (suc s))) (zeros slot_width))
      by-test true e = first (ltb-true s n e)
      by-test false e = behind

  tidy-is : (s : ℕ) → s < n → tidied s ≡ f (holder f (suc s))
  tidy-is s h = simp (lt-ltb s n h)

  pub tidy-place : (s : ℕ) → s < n → place_of (tidied s) ≡ suc s
  tidy-place s h = ap place_of (tidy-is s h) ∙ from_place s h

  -- only the first are used
  tidy-used : (s : ℕ) → 1 ≤ place_of (tidied s) → s < n
  tidy-used s = tidy-cases (λ l. 1 ≤ place_of l → s < n) s (λ h u. h) (λ u. absurd (omega (arith, zeros-place)))

  pub tidy-wide : ((s : ℕ) → s < slots → length (f s) ≡ slot_width) → (s : ℕ) → length (tidied s) ≡ slot_width
  tidy-wide wide s =
      tidy-cases (λ l. length l ≡ slot_width) s (λ h. wide (holder f (suc s)) (from_low s h)) (zeros-long slot_width)

  pub tidy-good : Good tidied n
  tidy-good =
      record {
        placed =
            λ s h. tidy-cases (λ l. place_of l ≤ n) s (λ k. omega (arith, from_place s k)) (omega (arith, zeros-place));
        once =
            λ s t h k u q.
            let first = tidy-used s u in
            let second = tidy-used t (subst (1 ≤◌) q u) in
            omega (arith, tidy-place s first, tidy-place t second);
        held =
            λ p h k.
            let z : suc (p - 1) ≡ p = omega arith in
            (p - 1, omega arith, tidy-place (p - 1) (omega arith) ∙ z);
        kept =
            λ s h u.
            let first = tidy-used s u in
            ap (λ l. well_kept (view_of l) (follower_of l)) (tidy-is s first)
            ∙ good.kept (holder f (suc s)) (from_low s first) (omega (arith, from_place s first));
        apart =
            λ s t h k u v q.
            let first = tidy-used s u in
            let second = tidy-used t v in
            let id : List ℕ → List ℕ = λ l. identity (view_of l) in
            let one : holder f (suc s) ≡ holder f (suc t) =
            good.apart (holder f (suc s)) (holder f (suc t)) (from_low s first) (from_low t second)
            (omega (arith, from_place s first)) (omega (arith, from_place t second))
            (ap id (sym (tidy-is s first)) ∙ (q ∙ ap id (tidy-is t second))) in
            omega (arith, from_place s first, from_place t second, ap (λ r. place_of (f r)) one);
        free =
            λ s h.
            tidy-cases (λ l. place_of l ≡ 0 → only 0 l ≡ true) s (λ k z. absurd (omega (arith, from_place s k)))
            (λ z. zeros-only slot_width);
      }

  pub tidy-listed : present_from tidied n 1 ≡ present_from f n 1
  tidy-listed =
      present-each tidied f n 1 1
      (λ i h.
      let z : suc i ≡ 1 + i = omega arith in
      present-slot tidied n tidy-good i (1 + i) (omega arith) (tidy-place i h ∙ z) (omega arith)
      ∙ (ap present_in (tidy-is i h) ∙ ap (at_place f) z))

-- "Tidying changes no meaning."
module _ (book : List ℕ) (is : is_book book ≡ true) where
  abbrev slot : ℕ → List ℕ
  slot = slot_at book

  abbrev n : ℕ
  n = count_of book

  facts : BookFacts book
  facts = book-facts book is

  wide : (s : ℕ) → s < slots → length (slot_tidied book s) ≡ slot_width
  wide s h = tidy-wide slot n facts.good facts.few (slot-long book facts.long) s

  good : Good (slot_tidied book) n
  good = tidy-good slot n facts.good facts.few

  outcome-is : tidy_outcome book ≡ said (Ok n) (laid (slot_tidied book) n)
  unfolding tidy_outcome book_judged
  outcome-is = simp is

  means-same : means (laid (slot_tidied book) n) ≡ means book
  unfolding means
  means-same = laid-means (slot_tidied book) n wide facts.few good ∙ tidy-listed slot n facts.good facts.few

  pub tidy-tidied : Tidied book (tidy_outcome book)
  tidy-tidied =
      subst (Tidied book) (sym outcome-is)
      (record {
        answer = refl;
        book_again = laid-book (slot_tidied book) n wide facts.few good;
        meaning = means-same;
        count = laid-count (slot_tidied book) n wide (omega (arith, facts.few));
        in_order =
            λ s h.
            ap place_of (laid-slot (slot_tidied book) n wide s (omega (arith, facts.few)))
            ∙ tidy-place slot n facts.good facts.few s h;
      })
