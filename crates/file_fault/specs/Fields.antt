-- A record as a row of fields, each with its width and its test.
-- Assumes nothing.
use Rattle.std.specs.Prelude.{ℕ, zero, suc, ◌+◌, cond, List, [], ◌∷◌, get_or}
use Rattle.field.specs.Test.{elem, only}
use Rattle.field.specs.Digits.{digits_fault}
use Rattle.field.specs.Text.{part}

-- a test answers the byte of the field at which its first fault stands, 0 where there is none
pub record Field : Type 0 where
  pub width : ℕ
  pub test : List ℕ → ℕ

abbrev pub field : ℕ → (List ℕ → ℕ) → Field
field w t = record { width = w; test = t }

-- a field's byte counted from the record's first; no fault stays none
abbrev pub place : ℕ → ℕ → ℕ
place start zero = zero
place start (suc n) = start + suc n

-- the first of two faults
abbrev pub first : ℕ → ℕ → ℕ
first zero rest = rest
first (suc n) rest = suc n

-- "Fields are tried in record order": the first fault of the fields that stand from `start` on
abbrev pub fault_in : ℕ → List Field → List ℕ → ℕ
fault_in start [] rec = 0
fault_in start (f ∷ fs) rec =
    first (place start (f.test (part rec start (start + f.width)))) (fault_in (start + f.width) fs rec)

-- "Not read"
abbrev pub unread : List ℕ → ℕ
unread s = 0

-- a byte that is one of some
unfoldable pub one_of : List ℕ → List ℕ → ℕ
one_of bytes s = cond (elem (get_or s 0 0) bytes) 0 1

-- "Table key: not zero"; a key of zeros is at fault at its first byte
unfoldable pub key_fault : List ℕ → ℕ
key_fault s = cond (only 48 s) 1 (digits_fault s)
