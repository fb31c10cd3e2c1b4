-- Text fields: when one is well formed, what it says without its padding, and which texts are numeric-like.
-- Assumes nothing.
use Rattle.std.specs.Prelude.{ℕ, ◌-◌, Bool, true, false, cond, ◌&&◌, ◌||◌, List, [], ◌∷◌, leb, eqb, length, take, drop, get_or}
use Rattle.field.specs.Test.{within, member, only, first_fault}
use Rattle.field.specs.Digits.{digit}

-- A to Z
abbrev pub letter : ℕ → Bool
letter b = within 65 90 b

-- "Text has bytes 32 to 126 without small letters"
abbrev pub text_byte : ℕ → Bool
text_byte b = member 32 126 97 122 b

abbrev pub blank : List ℕ → Bool
blank s = only 32 s

-- no byte, or a space first
abbrev pub starts_blank : List ℕ → Bool
starts_blank [] = true
starts_blank (x ∷ xs) = eqb x 32

-- ".. and a text that isn't blank doesn't begin with a space"
unfoldable pub text_fault : List ℕ → ℕ
text_fault s = cond (starts_blank s) (cond (blank s) 0 1) (first_fault text_byte s)

-- the same where the text may not be blank: "a blank that must not be blank counts as byte 1"
unfoldable pub filled_fault : List ℕ → ℕ
filled_fault s = cond (blank s) 1 (text_fault s)

-- "trailing spaces are padding, inner ones are kept": a byte before a trimmed rest goes where it is a space and the
-- rest is gone
abbrev pub keep : Bool → ℕ → List ℕ → List ℕ
keep true x [] = []
keep true x (y ∷ ys) = x ∷ y ∷ ys
keep false x ys = x ∷ ys

abbrev pub trim : List ℕ → List ℕ
trim [] = []
trim (x ∷ xs) = keep (eqb x 32) x (trim xs)

-- the bytes from `start` up to and without `end`
abbrev pub part : List ℕ → ℕ → ℕ → List ℕ
part rec start end = take (end - start) (drop start rec)

-- "A field's text is handed back as a part of the record without its padding"
unfoldable pub text_in : List ℕ → ℕ → ℕ → List ℕ
text_in rec start end = trim (part rec start end)

-- the k-th byte from the end, the last being the first
abbrev pub from_end : List ℕ → ℕ → ℕ
from_end s k = get_or s (length s - k) 0

-- "(i) its first and last bytes are digits, or (ii) it has two bytes or more, the first and last but one are digits and
-- the last is A to Z, or (iii) it has one byte"
unfoldable pub numeric_like : List ℕ → Bool
numeric_like s =
    (digit (get_or s 0 0) && digit (from_end s 1))
    || (leb 2 (length s) && digit (get_or s 0 0) && digit (from_end s 2) && letter (from_end s 1))
    || eqb (length s) 1
