-- The rows of a pack, read back in order by the places of `Opening`.
-- Assumes nothing.
use Rattle.std.specs.Prelude.{ℕ, zero, suc, ◌+◌, List, [], ◌∷◌, ◌++◌}
use Rattle.source.specs.Address.{Lookup, Organisation, none_needed, named, lacking, Address, kind_of, key_of}
use Rattle.pack.specs.Layout.{Entry, texts_or}
use Rattle.pack.specs.Opening.{row_count, row_area, Slot, slots_of, text_end, text_at, row_kind, row_end}

-- what a row says: its type and its texts
pub record RowRead : Type 0 where
  pub kind : ℕ
  pub texts : List (List ℕ)

abbrev pub row_read : ℕ → List (List ℕ) → RowRead
row_read k ts = record { kind = k; texts = ts }

-- a text for each slot, one behind the other
abbrev pub texts_at : List ℕ → List Slot → ℕ → List (List ℕ)
texts_at rows [] at = []
texts_at rows (s ∷ ss) at = text_at rows at ∷ texts_at rows ss (text_end rows at)

abbrev pub row_at : List ℕ → ℕ → RowRead
row_at rows at = row_read (row_kind rows at) (texts_at rows (slots_of (row_kind rows at)) (at + 1))

-- n rows from a place on
abbrev pub rows_from : List ℕ → ℕ → ℕ → List RowRead
rows_from rows zero at = []
rows_from rows (suc n) at = row_at rows at ∷ rows_from rows n (row_end rows at)

-- as many as the trailer says
unfoldable pub rows_in : List ℕ → List RowRead
rows_in pack = rows_from (row_area pack) (row_count pack) 0

-- what was packed, as it is read
abbrev pub rows_of : List Entry → List RowRead
rows_of [] = []
rows_of (e ∷ es) = row_read (kind_of e.stands_for) e.texts ∷ rows_of es

-- "the table rows used by a packed view"
abbrev pub table_rows : Lookup → List ℕ → List RowRead
table_rows look [] = []
table_rows look (r ∷ rs) = row_read (kind_of r) (texts_or (look (kind_of r) (key_of r))) ∷ table_rows look rs

-- "one row of type 6 (organisation, department) for each packed view with a follower, in view order"
abbrev pub organisation_row : Organisation → List RowRead
organisation_row none_needed = []
organisation_row (named name department) = row_read 6 (name ∷ department ∷ []) ∷ []
organisation_row lacking = []

abbrev pub organisation_rows : List Address → List RowRead
organisation_rows [] = []
organisation_rows (a ∷ more) = organisation_row a.organisation ++ organisation_rows more
