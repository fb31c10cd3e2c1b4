-- The rows of a shelf. Records are counted from 0; the header is record 0, the trailer the last.
-- Assumes nothing.
use Rattle.std.specs.Prelude.{ℕ, zero, suc, ◌+◌, ◌-◌, ◌/◌, ◌≤◌, ◌<◌, Bool, cond, List, [], ◌∷◌, eqb, length, get_or}
use Rattle.field.specs.Test.{elem}
use Rattle.field.specs.Digits.{value}
use Rattle.field.specs.Text.{part, text_in}
use Rattle.file_record.specs.Parts.{record_at}
use Rattle.source.specs.Address.{kind_of}
use Rattle.shelf.specs.declared.Shelf.{Shelf}

-- what code may rest on: fields within the record, and numbers that fit
pub record Fit (s : Shelf) : Type 0 where
  pub some : 1 ≤ s.width
  pub narrow : s.width ≤ 1_000
  pub key_within : s.key + s.digits ≤ s.width
  pub nine : s.digits ≤ 9
  pub base_small : s.base ≤ 900_000_000
  pub letter_small : s.letter ≤ 1_000
  pub locality_small : s.locality ≤ 1_000
  pub text_small : s.text ≤ 1_000

-- "name 60", "text 20", "text 50", "text 30": how wide the text of a row is that is no locality
abbrev pub text_width : ℕ → ℕ
text_width kind = cond (eqb kind 2) 60 (cond (eqb kind 3) 20 (cond (eqb kind 4) 50 30))

-- "post town 30, dependent locality 35, double dependent locality 35"; of another kind one text
abbrev pub texts_in : Shelf → ℕ → List ℕ → List (List ℕ)
texts_in s kind rec =
    cond (eqb kind 1)
    (text_in rec s.locality (s.locality + 30)
    ∷ text_in rec (s.locality + 30) (s.locality + 65)
    ∷ text_in rec (s.locality + 65) (s.locality + 100)
    ∷ [])
    (text_in rec s.text (s.text + text_width kind) ∷ [])

-- the last of k places from i on that passes; 0 where none does
abbrev pub last_from : (ℕ → Bool) → ℕ → ℕ → ℕ
last_from ok zero i = 0
last_from ok (suc k) i = cond (eqb (last_from ok k (suc i)) 0) (cond (ok i) i 0) (last_from ok k (suc i))

module _ (s : Shelf) (file : List ℕ) where
  abbrev pub record_of : ℕ → List ℕ
  record_of i = record_at s.width file i

  -- the number of record i: what its row stands for
  unfoldable pub ref_at : ℕ → ℕ
  ref_at i = s.base + value (part (record_of i) s.key (s.key + s.digits))

  -- the trailer's place, behind which there is no record
  abbrev pub last_of : ℕ
  last_of = length file / s.width - 1

  -- its texts, by its kind
  unfoldable pub texts_at : ℕ → List (List ℕ)
  texts_at i = texts_in s (kind_of (ref_at i)) (record_of i)

  -- the last record that stands for r; 0 where there is none
  unfoldable pub last_row : ℕ → ℕ
  last_row r = last_from (λ i. eqb (ref_at i) r) (last_of - 1) 1

  -- "where that row's letter is B or D, none is in force": the record itself, or 0
  unfoldable pub in_force : ℕ → ℕ
  in_force row = cond (elem (get_or (record_of row) s.letter 0) (66 ∷ 68 ∷ [])) 0 row

  -- "The row in force for a key is the last one that stands for it": 0 where none is in force. This is what a row means
  -- wherever one is looked up.
  unfoldable pub row_of : ℕ → ℕ
  row_of r = in_force (last_row r)

-- between header and trailer the numbers never fall
pub record NeverFalls (s : Shelf) (file : List ℕ) : Type 0 where
  pub each : (i : ℕ) → 1 ≤ i → suc i < last_of s file → ref_at s file i ≤ ref_at s file (suc i)
