-- Laws of Bools and of the tests of a byte.
-- Assumes nothing.
use Prim.Native.Nat.{ℕ, ◌≤◌}
use mathlib.Core.Path.{◌≡◌, refl, ◌∙◌}
use mathlib.Core.Bool.{Bool, true, false, not, ◌&&◌, ◌||◌}
use native.Mathlib.Omega.{arith}
use borrow.Author.Tests.{lt-ltb, le-ltb, le-leb, lt-leb, leb-true, leb-false, eqb-true, eqb-false}
use lib.Dec.{leb, ltb, eqb}
use Rattle.field.specs.Test.{within, member}

pub and_left : (a b : Bool) → a && b ≡ true → a ≡ true
and_left true b e = refl
and_left false b e = e

pub and_right : (a b : Bool) → a && b ≡ true → b ≡ true
and_right true b e = e
and_right false true e = refl
and_right false false e = e

pub and-true : (a : Bool) → a && true ≡ a
and-true true = refl
and-true false = refl

pub and-false : (a : Bool) → a && false ≡ false
and-false true = refl
and-false false = refl

-- a test is the other way round, turned
pub ltb-not : (a b : ℕ) → ltb a b ≡ not (leb b a)
ltb-not a b = by-test (leb b a) refl
  where
    by-test : (t : Bool) → leb b a ≡ t → ltb a b ≡ not t
    by-test true e = le-ltb a b (leb-true b a e)
    by-test false e = lt-ltb a b (leb-false b a e)

-- what a range test that held says
pub range-low : (low high b : ℕ) → within low high b ≡ true → low ≤ b
range-low low high b e = leb-true low b (and_left (leb low b) (leb b high) e)

pub range-high : (low high b : ℕ) → within low high b ≡ true → b ≤ high
range-high low high b e = leb-true b high (and_right (leb low b) (leb b high) e)

de-morgan : (a b c : Bool) → (not a || not b) || c ≡ not ((a && b) && not c)
de-morgan true true true = refl
de-morgan true true false = refl
de-morgan true false c = refl
de-morgan false b c = refl

pub outside-member : (low high from to b : ℕ)
    → (ltb b low || ltb high b) || within from to b ≡ not (member low high from to b)
outside-member low high from to b =
    rw (ltb-not b low, ltb-not high b) (de-morgan (leb low b) (leb b high) (within from to b))

-- 1 to 0 is no range
empty-range : (b : ℕ) → within 1 0 b ≡ false
empty-range b = by-test (leb 1 b) refl
  where
    by-test : (t : Bool) → leb 1 b ≡ t → t && leb b 0 ≡ false
    by-test true e = lt-leb b 0 (leb-true 1 b e)
    by-test false e = refl

pub one-range : (low high b : ℕ) → member low high 1 0 b ≡ within low high b
one-range low high b = rw (empty-range b) (and-true (within low high b))

pub one_byte : (b x : ℕ) → member b b 1 0 x ≡ eqb x b
one_byte b x = one-range b b x ∙ by-test (eqb x b) refl
  where
    above : (t : Bool) → (x ≡ b → ⊥) → leb b x ≡ t → t && leb x b ≡ false
    above true n e = lt-leb x b (omega (arith, leb-true b x e))
    above false n e = refl

    by-test : (t : Bool) → eqb x b ≡ t → within b b x ≡ t
    by-test true e =
        let h : x ≡ b = eqb-true x b e in
        simp (le-leb b x (omega arith), le-leb x b (omega arith))
    by-test false e = above (leb b x) (eqb-false x b e) refl

pub or-true : (a : Bool) → a || true ≡ true
or-true true = refl
or-true false = refl

pub or-false : (a : Bool) → a || false ≡ a
or-false true = refl
or-false false = refl

pub or_assoc : (a b c : Bool) → a || (b || c) ≡ (a || b) || c
or_assoc true b c = refl
or_assoc false b c = refl
