-- Laws of a search and of a test of all, as what runs them says it.
-- Assumes nothing.
use Rattle.std.proofs.Common.{◌≡◌, ℕ, zero, suc, ◌+◌, ◌≤◌, ◌<◌, Bool, true, false, ltb, List, length, get_or, take, drop, refl, sym, ap, ◌∙◌, arith, add-one, drop-cons}
use mathlib.Core.Bool.{◌&&◌, true≢false}
use borrow.Author.Tests.{ltb-true, ltb-false}
use Rattle.std.specs.List.{range_with_len, list_all}
use Rattle.book.specs.Search.{first_from, all_from}
use Rattle.book.proofs.Search.{first-most, first-none, first_passes, all-each}

-- the one that passes, with none before it that does, is the first; likewise where none passes
pub first_found : (test : ℕ → Bool) (n r : ℕ) → r ≤ n → ((t : ℕ) → t < r → test t ≡ false) → (r < n → test r ≡ true)
    → r ≡ first_from test n 0
first_found test n r within before found = by-test (ltb r n) refl
  where
    by-test : (u : Bool) → ltb r n ≡ u → r ≡ first_from test n 0
    by-test true e =
        let low : r < n = ltb-true r n e in
        let most : first_from test n 0 ≤ r = first-most test n 0 r (omega arith) (omega arith) (found low) in
        by_order most (ltb (first_from test n 0) r) refl
      where
        by_order : first_from test n 0 ≤ r → (v : Bool) → ltb (first_from test n 0) r ≡ v → r ≡ first_from test n 0
        by_order most true k =
            let less : first_from test n 0 < r = ltb-true (first_from test n 0) r k in
            absurd (true≢false (sym (first_passes test n 0 (omega arith)) ∙ before (first_from test n 0) less))
        by_order most false k = omega (arith, ltb-false (first_from test n 0) r k)
    by-test false e =
        let all : r ≡ n = omega (arith, ltb-false r n e) in
        let none : first_from test n 0 ≡ 0 + n = first-none test n 0 (λ t low h. before t (omega (arith, all))) in
        omega (arith, all, none)

-- one that does not pass
pub all_fails : (test : ℕ → Bool) (n s t : ℕ) → s ≤ t → t < s + n → test t ≡ false → all_from test n s ≡ false
all_fails test n s t low high e = by-test (all_from test n s) refl
  where
    by-test : (u : Bool) → all_from test n s ≡ u → u ≡ false
    by-test true k = absurd (true≢false (sym (all-each test n s k t low high) ∙ e))
    by-test false k = refl

-- all numbers of a range pass
pub all_range : (test : ℕ → Bool) (n s : ℕ) → list_all test (range_with_len s n) ≡ all_from test n s
all_range test zero s = refl
all_range test (suc n) s = ap (λ (b : Bool). test s && b) (rw add-one (all_range test n (suc s)))

-- all of a part of a list pass, each by its number
module _ (test : ℕ → Bool) (xs : List ℕ) where
  pub all_part : (n s : ℕ) → s + n ≤ length xs → list_all test (take n (drop s xs)) ≡ all_from (λ k. test (get_or xs k 0)) n s
  all_part zero s h = refl
  all_part (suc n) s h =
      let low : s < length xs = omega arith in
      rw (drop-cons xs s 0)
      (ap (λ (b : Bool). test (get_or xs s 0) && b) (all_part n (suc s) (omega arith)))
