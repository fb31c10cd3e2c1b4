-- Inward codes and delivery point suffixes.
-- Assumes nothing.
use Rattle.std.specs.Prelude.{ℕ, suc, Bool, cond, not, ◌&&◌, List, [], ◌∷◌, eqb, length}
use Rattle.field.specs.Test.{elem}
use Rattle.field.specs.Digits.{digit}
use Rattle.field.specs.Text.{letter}

-- the place of the first byte that fails its own test; a byte that is not there fails
abbrev pub fault_by : List (ℕ → Bool) → ℕ → List ℕ → ℕ
fault_by [] at s = 0
fault_by (ok ∷ oks) at [] = at
fault_by (ok ∷ oks) at (x ∷ xs) = cond (ok x) (fault_by oks (suc at) xs) at

-- "two letters, none of C I K M O V"
unfoldable pub inward_letter : ℕ → Bool
inward_letter b = letter b && not (elem b (67 ∷ 73 ∷ 75 ∷ 77 ∷ 79 ∷ 86 ∷ []))

-- "Inward: a digit, then two letters"; another length is at fault at byte 1
unfoldable pub inward_fault : List ℕ → ℕ
inward_fault s = cond (eqb (length s) 3) (fault_by (digit ∷ inward_letter ∷ inward_letter ∷ []) 1 s) 1

-- "Suffix: digit, letter A to Z"; another length is at fault at byte 1
unfoldable pub suffix_fault : List ℕ → ℕ
suffix_fault s = cond (eqb (length s) 2) (fault_by (digit ∷ letter ∷ []) 1 s) 1
