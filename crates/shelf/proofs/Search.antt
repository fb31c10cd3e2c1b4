-- The search by halves among numbers that are given by their places.
-- Assumes nothing.
use Prim.Native.Nat.{ℕ, ◌+◌, ◌-◌, ◌≤◌, ◌<◌}
use mathlib.Core.Path.{◌≡◌, refl, sym, ap, ◌∙◌}
use mathlib.Core.Bool.{Bool, true, false, cond, ◌&&◌}
use mathlib.Core.List.{List}
use native.Mathlib.Omega.{arith}
use native.Mathlib.Nat.{le_refl}
use native.Mathlib.Numerals.{add-one}
use borrow.Author.Tests.{lt-ltb, le-ltb, ltb-true, ltb-false, eq-eqb, ne_eqb, eqb-true, eqb-false}
use lib.Dec.{ltb, eqb}
use lib.ListN.{length, get_or, set}
use lib.Seq.{get_or-set_same, get_or-set_other}
use Rattle.shelf.specs.Search.{middle, bisect, upper_of, last_found_in}
use Rattle.shelf.proofs.Bisect.{bisect-fuel, bisect-end, bisect-to, bisect-low, bisect-high, bisect-as}

-- what is left to search gives the place that all gives: what a search keeps true
pub record Left (refs : ℕ → ℕ) (last r low high : ℕ) : Type 0 where
  pub to : high ≤ last
  pub is : bisect (λ i. ltb r (refs i)) (high - low) low high ≡ upper_of refs last r

module _ (refs : ℕ → ℕ) (r : ℕ) where
  abbrev passes : ℕ → Bool
  passes i = ltb r (refs i)

  pub left-all : (last : ℕ) → Left refs last r 1 last
  left-all last =
      record { to = le_refl last; is = bisect-fuel passes (last - 1) last 1 last (le_refl _) (omega arith) }

  module _ (last low high : ℕ) (left : Left refs last r low high) where
    pub left-none : high ≤ low → low ≡ upper_of refs last r
    left-none h = sym (bisect-end passes (high - low) low high h) ∙ left.is

    module _ (h : low < high) where
      pub left-low : r < refs (middle low high) → Left refs last r low (middle low high)
      left-low e =
          record {
            to = omega (arith, left.to);
            is = sym (bisect-low passes low high h (lt-ltb r (refs (middle low high)) e)) ∙ left.is;
          }

      pub left-high : refs (middle low high) ≤ r → Left refs last r (middle low high + 1) high
      left-high e =
          record {
            to = left.to;
            is = rw add-one (sym (bisect-high passes low high h (le-ltb r (refs (middle low high)) e)) ∙ left.is);
          }

  module _ (last : ℕ) where
    -- it ends no further than behind the last
    pub upper-to : 1 < upper_of refs last r → upper_of refs last r ≤ last
    upper-to h = by-test (ltb 0 last) refl
      where
        by-test : (t : Bool) → ltb 0 last ≡ t → upper_of refs last r ≤ last
        by-test true e = bisect-to passes last 1 last (ltb-true 0 last e)
        by-test false e =
            let none = ltb-false 0 last e in absurd (omega (arith, bisect-end passes last 1 last (omega arith)))

    pub found_none : upper_of refs last r ≤ 1 → last_found_in refs last r ≡ 0
    found_none h = simp (le-ltb 1 (upper_of refs last r) h)

    module _ (h : 1 < upper_of refs last r) where
      pub found_here : refs (upper_of refs last r - 1) ≡ r → last_found_in refs last r ≡ upper_of refs last r - 1
      found_here e = simp (lt-ltb 1 (upper_of refs last r) h, eq-eqb (refs (upper_of refs last r - 1)) r e)

      pub found-other : (refs (upper_of refs last r - 1) ≡ r → ⊥) → last_found_in refs last r ≡ 0
      found-other n = simp (lt-ltb 1 (upper_of refs last r) h, ne_eqb (refs (upper_of refs last r - 1)) r n)

    -- what the search gives stands before the end
    pub last-found-before : last_found_in refs last r ≤ last - 1
    last-found-before = by_place (ltb 1 (upper_of refs last r)) refl
      where
        by_number : upper_of refs last r ≤ last → (t : Bool) → cond t (upper_of refs last r - 1) 0 ≤ last - 1
        by_number h true = omega arith
        by_number h false = omega arith

        by_place : (t : Bool) → ltb 1 (upper_of refs last r) ≡ t
            → cond (t && eqb (refs (upper_of refs last r - 1)) r) (upper_of refs last r - 1) 0 ≤ last - 1
        by_place true e =
            by_number (upper-to (ltb-true 1 (upper_of refs last r) e)) (eqb (refs (upper_of refs last r - 1)) r)
        by_place false e = omega arith

-- numbers that agree where it is searched find the same
module _ (refs others : ℕ → ℕ) (last r : ℕ) (agree : (i : ℕ) → 1 ≤ i → i < last → refs i ≡ others i) where
  upper-as : upper_of refs last r ≡ upper_of others last r
  upper-as = bisect-as (λ i. ltb r (refs i)) (λ i. ltb r (others i)) last 1 last (λ i a b. ap (ltb r) (agree i a b))

  pub found_as : last_found_in refs last r ≡ last_found_in others last r
  found_as = by_place (ltb 1 (upper_of others last r)) refl
    where
      by_place : (t : Bool) → ltb 1 (upper_of others last r) ≡ t → last_found_in refs last r ≡ last_found_in others last r
      by_place true e =
          let h = ltb-true 1 (upper_of others last r) e in
          rw (upper-as, agree (upper_of others last r - 1) (omega arith) (omega (arith, upper-to others r last h))) refl
      by_place false e =
          let h = ltb-false 1 (upper_of others last r) e in
          found_none refs r last (omega (arith, upper-as)) ∙ sym (found_none others r last h)

-- an array has one number more
pub filled_on : (refs : List ℕ) (given : ℕ → ℕ) (from i v : ℕ) → i < length refs → v ≡ given i
    → ((j : ℕ) → from ≤ j → j < i → get_or refs j 0 ≡ given j)
    → (j : ℕ) → from ≤ j → j < i + 1 → get_or (set refs i v) j 0 ≡ given j
filled_on refs given from i v long is before j low high = by-test (eqb j i) refl
  where
    by-test : (t : Bool) → eqb j i ≡ t → get_or (set refs i v) j 0 ≡ given j
    by-test true e = rw (eqb-true j i e) (get_or-set_same refs i v 0 long ∙ is)
    by-test false e =
        let n = eqb-false j i e in
        get_or-set_other refs i j v 0 n ∙ before j low (omega (arith, n))
