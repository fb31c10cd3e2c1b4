-- Laws of bytes compared, as the library's orderings say it.
-- Assumes nothing.
use Prim.Native.Nat.{ℕ, zero, suc, ◌≤◌}
use mathlib.Core.Path.{◌≡◌, refl}
use mathlib.Core.Bool.{Bool, true, false, cond}
use mathlib.Core.List.{List, [], ◌∷◌}
use native.Mathlib.Omega.{arith}
use borrow.Author.Tests.{lt-ltb, le-ltb, ne_eqb}
use lib.Dec.{eqb}
use Rattle.std.specs.Ordering.{nat_cmp, is_eq, is_gt}
use Rattle.std.specs.Cmp.Lexicographic.{slice_cmp}
use Rattle.std.specs.declared.cmp.Ordering.TheVariants.{Less, Equal, Greater}
use Rattle.file_compare.specs.Order.{order, ordering, same, above}
use Rattle.file_compare.proofs.Order.{by_bytes, first_above, first-same, order-bound}

-- what an ordering tests
module _ (a b : List ℕ) where
  pub same_ordering : is_eq (ordering (order a b)) ≡ same a b
  same_ordering = by_tests (eqb (order a b) 0) (eqb (order a b) 1)
    where
      by_tests : (t u : Bool) → is_eq (cond t Equal (cond u Less Greater)) ≡ t
      by_tests true u = refl
      by_tests false true = refl
      by_tests false false = refl

  pub above_ordering : is_gt (ordering (order a b)) ≡ above a b
  above_ordering = by-number (order a b) (order-bound a b)
    where
      by-number : (n : ℕ) → n ≤ 2 → is_gt (ordering n) ≡ eqb n 2
      by-number zero h = refl
      by-number (suc zero) h = refl
      by-number (suc (suc zero)) h = refl
      by-number (suc (suc (suc n))) h = absurd (omega arith)

-- the library compares lists of bytes in the same way
pub slice_ordering : (a b : List ℕ) → slice_cmp nat_cmp a b ≡ ordering (order a b)
slice_ordering [] [] = refl
slice_ordering [] (y ∷ b) = refl
slice_ordering (x ∷ a) [] = refl
slice_ordering (x ∷ a) (y ∷ b) =
    by_bytes x y
    (λ h. simp (lt-ltb x y h))
    (λ e. rw (first-same x y a b e) (grind (arith, slice_ordering a b, e)))
    (λ h. rw (first_above x y a b h) (simp (le-ltb x y (omega arith), ne_eqb x y (λ z. omega arith))))
