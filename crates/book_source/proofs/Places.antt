-- Slots taken from the last to the first: where each place starts first.
-- Assumes nothing.
use Prim.Native.Nat.{ℕ, suc, ◌-◌, ◌<◌}
use mathlib.Core.Path.{◌≡◌, refl, sym, ap, ◌∙◌}
use mathlib.Core.Bool.{Bool, true, false, cond}
use mathlib.Core.List.{List}
use native.Mathlib.Omega.{arith}
use borrow.Author.Tests.{eqb-true, eqb-false, eq-eqb, ne_eqb}
use lib.Dec.{eqb}
use lib.ListN.{length, get_or, set}
use lib.Seq.{get_or-set_same, get_or-set_other}
use Rattle.book.specs.Layout.{slots, place_of}
use Rattle.book.specs.Search.{first_from}
use Rattle.book.specs.Book.{has_place}
use Rattle.book_source.specs.Starts.{start_of}

module _ (slot : ℕ → List ℕ) where
  -- the first of the slots from s on that has place p + 1
  abbrev pub first_of : (s p : ℕ) → ℕ
  first_of s p = first_from (has_place slot (suc p)) (slots - s) s

  -- the slots from s on are taken
  abbrev pub TakenFrom : (s : ℕ) (starts : List ℕ) → Type 0
  TakenFrom s starts = (p : ℕ) → p < slots → first_of s p < slots → get_or starts p 0 ≡ start_of (first_of s p)

  pub none-taken : (starts : List ℕ) → TakenFrom slots starts
  none-taken starts p h k = absurd (omega arith)

  module _ (s : ℕ) (low : s < slots) where
    -- the search goes on from slot s
    first-here : (p : ℕ) → first_of s p ≡ cond (has_place slot (suc p) s) s (first_of (suc s) p)
    first-here p =
        let more : slots - s ≡ suc (slots - suc s) = omega arith in
        ap (λ n. first_from (has_place slot (suc p)) n s) more

    other_place : (p : ℕ) → (place_of (slot s) ≡ suc p → ⊥) → first_of s p ≡ first_of (suc s) p
    other_place p other = first-here p ∙ rw (ne_eqb (place_of (slot s)) (suc p) other)

    pub take_none : (starts : List ℕ) → ((p : ℕ) → p < slots → place_of (slot s) ≡ suc p → ⊥) → TakenFrom (suc s) starts
        → TakenFrom s starts
    take_none starts none taken p h k =
        let same = other_place p (none p h) in
        taken p h (omega arith) ∙ ap start_of (sym same)

    pub take-one : (starts : List ℕ) (q : ℕ) → q < length starts → place_of (slot s) ≡ suc q → TakenFrom (suc s) starts
        → TakenFrom s (set starts q (start_of s))
    take-one starts q fits place taken p h k = by-test (eqb q p) refl
      where
        by-test : (t : Bool) → eqb q p ≡ t → get_or (set starts q (start_of s)) p 0 ≡ start_of (first_of s p)
        by-test true e =
            let same = eqb-true q p e in
            let here : first_of s p ≡ s = first-here p ∙ rw (eq-eqb (place_of (slot s)) (suc p) (place ∙ ap suc same)) in
            ap (λ i. get_or (set starts i (start_of s)) p 0) same
            ∙ (get_or-set_same starts p (start_of s) 0 (omega arith) ∙ ap start_of (sym here))
        by-test false e =
            let other = eqb-false q p e in
            let same = other_place p (λ z. other (omega arith)) in
            get_or-set_other starts q p (start_of s) 0 (λ z. other (sym z)) ∙ (taken p h (omega arith) ∙ ap start_of (sym same))
