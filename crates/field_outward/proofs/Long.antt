-- A code without fault has its length.
-- Assumes nothing.
use Prim.Native.Nat.{ℕ}
use mathlib.Core.Path.{◌≡◌, refl}
use mathlib.Core.Bool.{Bool, true, false, cond}
use mathlib.Core.List.{List}
use native.Mathlib.Omega.{arith}
use borrow.Author.Tests.{eqb-true}
use lib.Dec.{eqb}
use lib.ListN.{length}
use Rattle.field.specs.Test.{elem}
use Rattle.field.proofs.Tests.{and_left}
use Rattle.field_outward.specs.Outward.{sequence_from, patterns, outward_fault}
use Rattle.field_outward.specs.Inward.{inward_fault, suffix_fault}

long_of : (n m more : ℕ) (t : Bool) → (t ≡ true → eqb n m ≡ true) → cond t more 1 ≡ 0 → n ≡ m
long_of n m more true is e = eqb-true n m (is refl)
long_of n m more false is e = absurd (omega arith)

pub outward-long : (s : List ℕ) → outward_fault s ≡ 0 → length s ≡ 4
unfolding outward_fault
outward-long s e = long_of (length s) 4 _ _ (and_left (eqb (length s) 4) (elem (sequence_from 0 s) patterns)) e

pub inward-long : (s : List ℕ) → inward_fault s ≡ 0 → length s ≡ 3
unfolding inward_fault
inward-long s e = long_of (length s) 3 _ (eqb (length s) 3) (λ h. h) e

pub suffix-long : (s : List ℕ) → suffix_fault s ≡ 0 → length s ≡ 2
unfolding suffix_fault
suffix-long s e = long_of (length s) 2 _ (eqb (length s) 2) (λ h. h) e
