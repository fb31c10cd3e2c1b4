-- The rows of a rewritten table file are those of the file.
-- Assumes nothing.
use Prim.Native.Nat.{ℕ, zero, suc, ◌-◌, ◌≤◌, ◌<◌}
use mathlib.Core.Path.{◌≡◌, refl, ap, ap₂, ◌∙◌, fun_ext}
use mathlib.Core.Bool.{cond}
use mathlib.Core.List.{List, [], ◌∷◌}
use mathlib.Core.Option.{none, some}
use native.Mathlib.Omega.{arith}
use lib.Dec.{eqb, lit≤}
use lib.ListN.{get_or}
use Rattle.field.specs.Test.{elem}
use Rattle.file_record.specs.Parts.{record_at}
use Rattle.file_record.specs.Names.Table
use Rattle.source.specs.Address.{kind_of, ref}
use Rattle.shelf.specs.Shelf.{ref_at, last_of, texts_in, texts_at, last_from, last_row, in_force, row_of}
use Rattle.shelf.specs.Stock.{texts_or_none, look_in}
use Rattle.shelf.proofs.Last.{last_as}
use Rattle.shelf.proofs.Stock.{stock-found}
use Rattle.changes_source.specs.Rows.{table_shelf, table_stock, table_lookup}
use Rattle.unspace_file.proofs.Records.{as_many, record-like, record-middle}
use Rattle.unspace_sound.specs.Sound.{new_table}

module _ (table : List ℕ) where
  abbrev new : List ℕ
  new = new_table table

  last-kept : last_of table_shelf new ≡ last_of table_shelf table
  last-kept = ap (λ (n : ℕ). n - 1) (as_many Table.width Table.identifier (lit≤ tt) table)

  middle : (i : ℕ) → 1 ≤ i → i < last_of table_shelf table → record_at Table.width new i ≡ record_at Table.width table i
  middle = record-middle Table.width Table.identifier (lit≤ tt) table

  ref-kept : (i : ℕ) → 1 ≤ i → i < last_of table_shelf table → ref_at table_shelf new i ≡ ref_at table_shelf table i
  unfolding ref_at
  ref-kept i low high = rw (middle i low high) refl

  last-row-kept : (r : ℕ) → last_row table_shelf new r ≡ last_row table_shelf table r
  unfolding last_row
  last-row-kept r =
      ap (λ (n : ℕ). last_from (λ i. eqb (ref_at table_shelf new i) r) (n - 1) 1) last-kept
      ∙ last_as (λ i. eqb (ref_at table_shelf new i) r) (λ i. eqb (ref_at table_shelf table i) r) (last_of table_shelf table - 1) 1
      (λ j p q. ap (λ (n : ℕ). eqb n r) (ref-kept j p (omega arith)))

  row_kept : (r : ℕ) → row_of table_shelf new r ≡ row_of table_shelf table r
  unfolding row_of in_force
  row_kept r =
      ap₂ (λ (letter row : ℕ). cond (elem letter (66 ∷ 68 ∷ [])) 0 row)
      (ap (λ (row : ℕ). get_or (record_at Table.width new row) Table.letter 0) (last-row-kept r)
      ∙ record-like Table.width Table.identifier (lit≤ tt) table (last_row table_shelf table r) Table.letter (lit≤ tt))
      (last-row-kept r)

  texts-kept : (i : ℕ) → 1 ≤ i → i < last_of table_shelf table → texts_at table_shelf new i ≡ texts_at table_shelf table i
  unfolding texts_at
  texts-kept i low high =
      ap₂ (λ (r : ℕ) (rec : List ℕ). texts_in table_shelf (kind_of r) rec) (ref-kept i low high) (middle i low high)

  -- the row that a kind and a key find: none, or one between header and trailer
  found-kept : (kind key : ℕ) → table_lookup new kind key ≡ table_lookup table kind key
  unfolding look_in
  found-kept kind key =
      ap (texts_or_none (table_stock new)) (row_kept (ref kind key)) ∙ by_row (row_of table_shelf table (ref kind key)) refl
    where
      by_row : (row : ℕ) → row_of table_shelf table (ref kind key) ≡ row
          → texts_or_none (table_stock new) row ≡ texts_or_none (table_stock table) row
      by_row zero e = refl
      by_row (suc p) e =
          ap (λ (texts : List (List ℕ)). cond (eqb (suc p) 0) none (some texts))
          (texts-kept (suc p) (omega arith) (stock-found table_shelf table (ref kind key) p e).0)

  pub look-kept : table_lookup new ≡ table_lookup table
  look-kept = fun_ext (λ kind. fun_ext (λ key. found-kept kind key))
