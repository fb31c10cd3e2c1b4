-- Laws of decimal digits: one digit more, and how many there are.
-- Assumes nothing.
use Prim.Native.Nat.{ℕ, zero, suc, ◌+◌, ◌/◌, ◌%◌, ◌^◌, ◌≤◌, ◌<◌}
use mathlib.Core.Path.{◌≡◌, refl, sym, ap, ◌∙◌}
use mathlib.Core.Bool.{Bool, true, false}
use mathlib.Core.List.{List, [], ◌∷◌, ◌++◌}
use native.Mathlib.Omega.{arith}
use native.Mathlib.Nat.{mod-eq_of_lt, div-lt_self, div-lt_iff_lt-mul, pow-suc}
use borrow.Author.Tests.{lt-ltb, le-ltb, ltb-true, ltb-false}
use lib.Dec.{ltb}
use lib.ListN.{length, length-append}
use Rattle.item.specs.Lines.{decimal_in, decimal}

-- below ten there is one digit
in_one : (most n : ℕ) → n < 10 → decimal_in most n ≡ (48 + n) ∷ []
in_one zero n h = rw (mod-eq_of_lt h)
in_one (suc most) n h = rw (lt-ltb n 10 h)

-- how many digits are allowed does not matter, where there are enough
enough : (f g n : ℕ) → n ≤ f → n ≤ g → decimal_in f n ≡ decimal_in g n
enough zero g n h k = in_one zero n (omega arith) ∙ sym (in_one g n (omega arith))
enough (suc f) zero n h k = in_one (suc f) n (omega arith) ∙ sym (in_one zero n (omega arith))
enough (suc f) (suc g) n h k = by-test (ltb n 10) refl (λ u v. enough f g (n / 10) u v)
  where
    by-test : (t : Bool) → ltb n 10 ≡ t → (n / 10 ≤ f → n / 10 ≤ g → decimal_in f (n / 10) ≡ decimal_in g (n / 10))
        → decimal_in (suc f) n ≡ decimal_in (suc g) n
    by-test true e same = rw e
    by-test false e same =
        let ten : 10 ≤ n = ltb-false n 10 e in
        let less : n / 10 < n = div-lt_self (omega arith) (omega arith) in
        rw e (ap (λ (l : List ℕ). l ++ ((48 + n % 10) ∷ [])) (same (omega arith) (omega arith)))

pub decimal-one : (n : ℕ) → n < 10 → decimal n ≡ (48 + n) ∷ []
unfolding decimal
decimal-one n h = in_one n n h

pub decimal-more : (n : ℕ) → 10 ≤ n → decimal n ≡ decimal (n / 10) ++ ((48 + n % 10) ∷ [])
unfolding decimal
decimal-more zero h = absurd (omega arith)
decimal-more (suc m) h =
    let less : suc m / 10 < suc m = div-lt_self (omega arith) (omega arith) in
    rw (le-ltb (suc m) 10 h)
    (ap (λ (l : List ℕ). l ++ ((48 + suc m % 10) ∷ [])) (enough m (suc m / 10) (suc m / 10) (omega arith) (omega arith)))

-- a number below ten to the k has at most k digits
pub decimal-size : (k n : ℕ) → n < 10 ^ suc k → length (decimal n) ≤ suc k
decimal-size zero n h = rw (decimal-one n h) (omega arith)
decimal-size (suc k) n h = by-test (ltb n 10) refl (decimal-size k (n / 10) below)
  where
    below : n / 10 < 10 ^ suc k
    below =
        let p = pow-suc 10 (suc k) in
        (div-lt_iff_lt-mul {k = 10} {x = n} {y = 10 ^ suc k} (omega arith)).1 (omega arith)

    by-test : (t : Bool) → ltb n 10 ≡ t → length (decimal (n / 10)) ≤ suc k → length (decimal n) ≤ suc (suc k)
    by-test true e rest = rw (decimal-one n (ltb-true n 10 e)) (omega arith)
    by-test false e rest =
        rw (decimal-more n (ltb-false n 10 e))
        (omega (arith, length-append (decimal (n / 10)) ((48 + n % 10) ∷ [])))

-- what a machine word holds has at most twenty
pub decimal-short : (n : ℕ) → n < 18_446_744_073_709_551_616 → length (decimal n) ≤ 20
decimal-short n h = decimal-size 19 n (omega (arith, h))
