-- Where bytes that are too long for one line break.
-- Assumes nothing.
use Prim.Native.Nat.{ℕ, zero, suc, ◌+◌, ◌≤◌, ◌<◌}
use mathlib.Core.Path.{◌≡◌, refl, sym}
use mathlib.Core.Bool.{Bool, true, false}
use mathlib.Core.List.{List, ◌++◌}
use native.Mathlib.Omega.{arith}
use native.Mathlib.Numerals.{add-one}
use borrow.Author.Tests.{eqb-true, eqb-false}
use lib.Dec.{eqb}
use lib.ListN.{length, get_or, take, drop, length-drop, take-append-drop}
use lib.Seq.{split_at}
use Rattle.van.specs.Fold.{columns, space_within, printed_at, done_at, break_at, break_bytes, first_of, left_of}

pub space-low : (n : ℕ) (bytes : List ℕ) → space_within n bytes ≤ n
unfolding space_within
space-low zero bytes = omega arith
space-low (suc n) bytes = by-test (eqb (get_or bytes (suc n) 0) 32) refl (space-low n bytes)
  where
    by-test : (t : Bool) → eqb (get_or bytes (suc n) 0) 32 ≡ t → space_within n bytes ≤ n
        → space_within (suc n) bytes ≤ suc n
    by-test true e h = rw e (omega arith)
    by-test false e h = rw e (omega arith)

-- what stands there is a space
pub space-there : (n : ℕ) (bytes : List ℕ) → (space_within n bytes ≡ 0 → ⊥) → get_or bytes (space_within n bytes) 0 ≡ 32
unfolding space_within
space-there zero bytes some = absurd (some refl)
space-there (suc n) bytes some = by-test (eqb (get_or bytes (suc n) 0) 32) refl (space-there n bytes)
  where
    by-test : (t : Bool) → eqb (get_or bytes (suc n) 0) 32 ≡ t
        → ((space_within n bytes ≡ 0 → ⊥) → get_or bytes (space_within n bytes) 0 ≡ 32)
        → get_or bytes (space_within (suc n) bytes) 0 ≡ 32
    by-test true e lower = rw e (eqb-true (get_or bytes (suc n) 0) 32 e)
    by-test false e lower = rw e (lower (λ z. some (rw e z)))

-- so many bytes are printed before a break, and so many are done with it
pub record Broken (k : ℕ) : Type 0 where
  pub some : 1 ≤ printed_at k
  pub few : printed_at k ≤ columns
  pub low : printed_at k ≤ done_at k
  pub high : done_at k ≤ printed_at k + 1

pub broken : (k : ℕ) → k ≤ columns → Broken k
broken k h = by-test (eqb k 0) refl
  where
    by-test : (t : Bool) → eqb k 0 ≡ t → Broken k
    by-test true e =
        record { some = rw e (omega arith); few = rw e (omega arith); low = rw e (omega arith); high = rw e (omega arith) }
    by-test false e =
        record {
          some = rw e (omega (arith, eqb-false k 0 e));
          few = rw e h;
          low = rw e (omega arith);
          high = rw e (omega arith);
        }

broken-at : (bytes : List ℕ) (k : ℕ) → k < length bytes → ((k ≡ 0 → ⊥) → get_or bytes k 0 ≡ 32)
    → take (printed_at k) bytes ++ (break_bytes (break_at k) ++ drop (done_at k) bytes) ≡ bytes
broken-at bytes k h there = by-test (eqb k 0) refl
  where
    by-test : (t : Bool) → eqb k 0 ≡ t
        → take (printed_at k) bytes ++ (break_bytes (break_at k) ++ drop (done_at k) bytes) ≡ bytes
    by-test true e = rw e (take-append-drop columns bytes)
    by-test false e =
        rw (e, add-one, sym (there (eqb-false k 0 e))) (sym (split_at bytes k 0 h))

module _ (bytes : List ℕ) where
  pub broken-in : Broken (space_within columns bytes)
  broken-in = broken (space_within columns bytes) (space-low columns bytes)

  module _ (long : columns < length bytes) where
    -- what is left is shorter
    pub left-length : length (left_of bytes) < length bytes
    left-length =
        omega (arith, length-drop (done_at (space_within columns bytes)) bytes, broken-in.some, broken-in.low)

    -- line, break and what is left together
    pub broken-whole : (first_of bytes).bytes ++ (break_bytes (first_of bytes).behind ++ left_of bytes) ≡ bytes
    broken-whole =
        broken-at bytes (space_within columns bytes) (omega (arith, space-low columns bytes)) (space-there columns bytes)
