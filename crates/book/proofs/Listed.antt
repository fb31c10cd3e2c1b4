-- What is present as a list: its length, one more, one without, one replaced, and the place of a delivery point.
-- Assumes nothing.
use Prim.Native.Nat.{ℕ, zero, suc, ◌+◌, ◌-◌, ◌≤◌, ◌<◌}
use mathlib.Core.Path.{◌≡◌, refl, sym, ap, ap₂, subst, ◌∙◌}
use mathlib.Core.Bool.{false}
use mathlib.Core.List.{List, [], ◌∷◌, ◌++◌}
use native.Mathlib.Omega.{arith}
use native.Mathlib.Nat.{add-zero}
use borrow.Author.Tests.{eq-eqb, ne_eqb}
use lib.ListN.{length}
use Rattle.file_compare.specs.Order.{order, same}
use Rattle.book.specs.Layout.{slots, place_of, view_of}
use Rattle.book.specs.Book.{identity, keeper}
use Rattle.book.specs.Meaning.{Present, present_in, present_from}
use Rattle.book.specs.Event.{place_from, without, replaced}
use Rattle.book.proofs.Good.{
  Good,
  same-yes,
  same-is,
  keeps-yes,
  keeps-used,
  keeps-id,
  keeper-of,
  keeper-found,
  further,
  at_place,
  present-slot,
  present-each,
}

module _ (f : ℕ → List ℕ) where
  pub present-long : (n p : ℕ) → length (present_from f n p) ≡ n
  present-long zero p = refl
  present-long (suc n) p = ap suc (present-long n (suc p))

  pub present-last : (n p : ℕ) → present_from f (suc n) p ≡ present_from f n p ++ (at_place f (p + n) ∷ [])
  present-last zero p = ap (λ q. at_place f q ∷ []) (sym (add-zero p))
  present-last (suc n) p =
      ap (at_place f p ∷◌)
      (present-last n (suc p) ∙ ap (λ q. present_from f n (suc p) ++ (at_place f q ∷ [])) (further p n))

-- what stands elsewhere, or one place on, after a change at place p + k
module _ (f g : ℕ → List ℕ) where
  pub present-replaced : (k n p : ℕ) (e : Present) → k < n → at_place g (p + k) ≡ e
      → ((i : ℕ) → i < n → (i ≡ k → ⊥) → at_place g (p + i) ≡ at_place f (p + i))
      → present_from g n p ≡ replaced (suc k) e (present_from f n p)
  present-replaced k zero p e h here there = absurd (omega arith)
  present-replaced zero (suc n) p e h here there =
      ap₂ ◌∷◌ (ap (at_place g) (sym (add-zero p)) ∙ here)
      (present-each g f n (suc p) (suc p)
      (λ i l.
      ap (at_place g) (further p i)
      ∙ (there (suc i) (omega arith) (λ z. omega arith) ∙ ap (at_place f) (sym (further p i)))))
  present-replaced (suc k) (suc n) p e h here there =
      ap₂ ◌∷◌
      (ap (at_place g) (sym (add-zero p))
      ∙ (there 0 (omega arith) (λ z. omega arith) ∙ ap (at_place f) (add-zero p)))
      (present-replaced k n (suc p) e (omega arith) (ap (at_place g) (further p k) ∙ here)
      (λ i l m.
      ap (at_place g) (further p i)
      ∙ (there (suc i) (omega arith) (λ z. m (omega arith)) ∙ ap (at_place f) (sym (further p i)))))

  pub present-without : (k n p : ℕ) → k ≤ n
      → ((i : ℕ) → i < k → at_place g (p + i) ≡ at_place f (p + i))
      → ((i : ℕ) → k ≤ i → i < n → at_place g (p + i) ≡ at_place f (p + suc i))
      → present_from g n p ≡ without (suc k) (present_from f (suc n) p)
  present-without zero n p h before behind =
      present-each g f n p (suc p) (λ i l. behind i (omega arith) l ∙ ap (at_place f) (sym (further p i)))
  present-without (suc k) zero p h before behind = absurd (omega arith)
  present-without (suc k) (suc n) p h before behind =
      ap₂ ◌∷◌
      (ap (at_place g) (sym (add-zero p)) ∙ (before 0 (omega arith) ∙ ap (at_place f) (add-zero p)))
      (present-without k n (suc p) (omega arith)
      (λ i l. ap (at_place g) (further p i) ∙ (before (suc i) (omega arith) ∙ ap (at_place f) (sym (further p i))))
      (λ i l m.
      ap (at_place g) (further p i)
      ∙ (behind (suc i) (omega arith) (omega arith) ∙ ap (at_place f) (sym (further p (suc i))))))

-- ---- the place of a delivery point

module _ (f : ℕ → List ℕ) (id : List ℕ) where
  -- what is present at a place has this delivery point
  abbrev Has : ℕ → Type 0
  Has p = identity (at_place f p).view ≡ id

  same-no : (p : ℕ) → (Has p → ⊥) → same (identity (at_place f p).view) id ≡ false
  same-no p not =
      ne_eqb (order (identity (at_place f p).view) id) 0
      (λ z. not (same-is (identity (at_place f p).view) id (eq-eqb (order (identity (at_place f p).view) id) 0 z)))

  place_none : (n p : ℕ) → ((i : ℕ) → i < n → Has (p + i) → ⊥) → place_from id p (present_from f n p) ≡ 0
  place_none zero p none = refl
  place_none (suc n) p none =
      rw (same-no p (λ e. none 0 (omega arith) (subst Has (sym (add-zero p)) e)))
      (place_none n (suc p) (λ i h e. none (suc i) (omega arith) (subst Has (further p i) e)))

  place-some : (k n p : ℕ) → k < n → Has (p + k) → ((i : ℕ) → i < k → Has (p + i) → ⊥)
      → place_from id p (present_from f n p) ≡ p + k
  place-some k zero p h here before = absurd (omega arith)
  place-some zero (suc n) p h here before =
      rw (same-yes (identity (at_place f p).view) id (subst Has (add-zero p) here)) (sym (add-zero p))
  place-some (suc k) (suc n) p h here before =
      rw (same-no p (λ e. before 0 (omega arith) (subst Has (sym (add-zero p)) e)))
      (place-some k n (suc p) (omega arith) (subst Has (sym (further p k)) here)
      (λ i l e. before (suc i) (omega arith) (subst Has (further p i) e))
      ∙ further p k)

  module _ (n : ℕ) (good : Good f n) where
    -- the slot that has a place, with what it has
    has-slot : (p s : ℕ) → s < slots → place_of (f s) ≡ p → 1 ≤ p → Has p → identity (view_of (f s)) ≡ id
    has-slot p s low e u has = ap (λ x. identity x.view) (sym (present-slot f n good s p low e u)) ∙ has

    pub place-unkept : slots ≤ keeper f id → place_from id 1 (present_from f n 1) ≡ 0
    place-unkept h =
        place_none n 1
        (λ i l has.
        let (s, low, e) = good.held (1 + i) (omega arith) (omega arith) in
        let keeping = keeps-yes f id s (subst (1 ≤◌) (sym e) (omega arith)) (has-slot (1 + i) s low e (omega arith) has) in
        omega (arith, keeper-found f id s low keeping))

    pub place-kept : keeper f id < slots → place_from id 1 (present_from f n 1) ≡ place_of (f (keeper f id))
    place-kept h =
        let t = keeper f id in
        let u : 1 ≤ place_of (f t) = keeps-used f id t (keeper-of f id h) in
        let k = place_of (f t) - 1 in
        let again : 1 + k ≡ place_of (f t) = omega arith in
        let here : at_place f (1 + k) ≡ present_in (f t) = present-slot f n good t (1 + k) h (sym again) (omega arith) in
        place-some k n 1 (omega (arith, good.placed t h))
        (ap (λ x. identity x.view) here ∙ keeps-id f id t (keeper-of f id h))
        (λ i l has.
        let (s, low, e) = good.held (1 + i) (omega arith) (omega (arith, good.placed t h)) in
        let one : s ≡ t =
        good.apart s t low h (subst (1 ≤◌) (sym e) (omega arith)) u
        (has-slot (1 + i) s low e (omega arith) has ∙ sym (keeps-id f id t (keeper-of f id h))) in
        omega (arith, e, ap (λ x. place_of (f x)) one))
        ∙ again
