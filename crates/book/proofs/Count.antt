-- A slot is free exactly when fewer delivery points are present than there are slots.
-- Assumes nothing.
use Prim.Native.Nat.{ℕ, zero, suc, ◌-◌, ◌≤◌, ◌<◌}
use mathlib.Core.Path.{◌≡◌, refl, sym, ap, ◌∙◌}
use mathlib.Core.Bool.{Bool, true, false, cond}
use mathlib.Core.List.{List}
use native.Mathlib.Omega.{arith}
use borrow.Author.Tests.{lt-ltb, ltb-true, ltb-false, eq-eqb, ne_eqb}
use lib.Dec.{ltb, eqb}
use Rattle.book.specs.Layout.{slots, place_of}
use Rattle.book.specs.Book.{holder}
use Rattle.book.specs.Event.{free_in}
use Rattle.book.proofs.Search.{equal-or}
use Rattle.book.proofs.Good.{Good, holder-of, holder-found, free_of, free-found}

-- numbers below b, all different, are at most b
pub pigeons : (a b : ℕ) (f : ℕ → ℕ) → ((i : ℕ) → i < a → f i < b)
    → ((i j : ℕ) → i < a → j < a → f i ≡ f j → i ≡ j)
    → a ≤ b
pigeons zero b f below apart = omega arith
pigeons (suc a) zero f below apart = absurd (omega (arith, below 0 (omega arith)))
pigeons (suc a) (suc b) f below apart =
    let fewer : a ≤ b = pigeons a b g g-below g-apart in
    omega arith
  where
    -- the last stands in for the one that is b
    g : ℕ → ℕ
    g i = cond (eqb (f i) b) (f a) (f i)

    at : (i : ℕ) → f i ≡ b → g i ≡ f a
    at i e = simp (eq-eqb (f i) b e)

    off : (i : ℕ) → (f i ≡ b → ⊥) → g i ≡ f i
    off i n = simp (ne_eqb (f i) b n)

    other : (i : ℕ) → i < a → f i ≡ f a → ⊥
    other i h e = omega (arith, apart i a (omega arith) (omega arith) e)

    g-below : (i : ℕ) → i < a → g i < b
    g-below i h =
        equal-or (f i) b
        (λ e.
        let least : f a ≡ b → ⊥ = λ z. other i h (e ∙ sym z) in
        rw (at i e) (omega (arith, below a (omega arith))))
        (λ n. rw (off i n) (omega (arith, below i (omega arith))))

    g-apart : (i j : ℕ) → i < a → j < a → g i ≡ g j → i ≡ j
    g-apart i j h k q =
        equal-or (f i) b
        (λ e.
        equal-or (f j) b (λ d. apart i j (omega arith) (omega arith) (e ∙ sym d))
        (λ m. absurd (other j k (sym (off j m) ∙ (sym q ∙ at i e)))))
        (λ n.
        equal-or (f j) b (λ d. absurd (other i h (sym (off i n) ∙ (q ∙ at j d))))
        (λ m. apart i j (omega arith) (omega arith) (sym (off i n) ∙ (q ∙ off j m))))

module _ (slot : ℕ → List ℕ) (n : ℕ) (good : Good slot n) where
  pub free-there : n < slots → free_in slot < slots
  free-there few = by-test (ltb (free_in slot) slots) refl
    where
      by-test : (t : Bool) → ltb (free_in slot) slots ≡ t → free_in slot < slots
      by-test true e = ltb-true (free_in slot) slots e
      by-test false e =
          let all : slots ≤ n = pigeons slots n (λ s. place_of (slot s) - 1) below apart in
          absurd (omega arith)
        where
          some : (s : ℕ) → s < slots → 1 ≤ place_of (slot s)
          some s h =
              equal-or (place_of (slot s)) 0
              (λ z. absurd (omega (arith, free-found slot s h z, ltb-false (free_in slot) slots e)))
              (λ z. omega arith)

          below : (s : ℕ) → s < slots → place_of (slot s) - 1 < n
          below s h = omega (arith, some s h, good.placed s h)

          apart : (s t : ℕ) → s < slots → t < slots → place_of (slot s) - 1 ≡ place_of (slot t) - 1 → s ≡ t
          apart s t h k q = good.once s t h k (some s h) (omega (arith, some s h, some t k))

  pub free-few : free_in slot < slots → n < slots
  free-few free = pigeons (suc n) slots (holder slot) below apart
    where
      below : (p : ℕ) → p < suc n → holder slot p < slots
      below p h =
          equal-or p 0
          (λ z. rw (z ∙ sym (free_of slot free)) (omega (arith, holder-found slot (free_in slot) free)))
          (λ z.
          let (s, low, e) = good.held p (omega arith) (omega arith) in
          rw (sym e) (omega (arith, holder-found slot s low)))

      apart : (p q : ℕ) → p < suc n → q < suc n → holder slot p ≡ holder slot q → p ≡ q
      apart p q h k e = sym (holder-of slot p (below p h)) ∙ (ap (λ s. place_of (slot s)) e ∙ holder-of slot q (below q k))

  -- so that either test decides
  pub free-test : ltb (free_in slot) slots ≡ ltb n slots
  free-test = by-test (ltb n slots) refl
    where
      by-test : (t : Bool) → ltb n slots ≡ t → ltb (free_in slot) slots ≡ t
      by-test true e = lt-ltb (free_in slot) slots (free-there (ltb-true n slots e))
      by-test false e = by-free (ltb (free_in slot) slots) refl
        where
          by-free : (u : Bool) → ltb (free_in slot) slots ≡ u → u ≡ false
          by-free true d = absurd (omega (arith, free-few (ltb-true (free_in slot) slots d), ltb-false n slots e))
          by-free false d = refl
