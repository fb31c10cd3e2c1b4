-- Every row that a key finds in an accepted table file is one that a pack may hold.
-- Assumes nothing.
use Prim.Native.Nat.{ℕ, zero, suc, ◌+◌, ◌≤◌, ◌<◌}
use mathlib.Core.Path.{◌≡◌, refl, ap, ◌∙◌}
use mathlib.Core.List.{List}
use native.Mathlib.Omega.{arith}
use lib.ListN.{get_or}
use Rattle.file_record.specs.Parts.{record_at}
use Rattle.file_fault.specs.Table.{table_rest}
use Rattle.file.specs.Formats.{table_format}
use Rattle.file.specs.Accepted.{Accepted}
use Rattle.source.specs.Address.{ref, kind_of}
use Rattle.source.proofs.Refs.{ref-kind}
use Rattle.shelf.specs.Shelf.{texts_in, ref_at, last_of}
use Rattle.changes_source.specs.Rows.{table_shelf, table_lookup}
use Rattle.changes_source.proofs.Table.{type_at}
use Rattle.file_fault.proofs.Passing.{Passes, table-passes}
use Rattle.pack.specs.Sound.{RowSound, RowsSound}
use Rattle.pack_sound.proofs.Rows.{locality-sound, one-sound, found-sound}

-- a record of each type, by the fields behind its 24th byte
row-sound : (rec : List ℕ) (kind : ℕ) → 1 ≤ kind → kind ≤ 5 → get_or rec 0 0 ≡ 48 + kind
    → Passes 24 (table_rest (get_or rec 0 0) rec) rec
    → RowSound kind (texts_in table_shelf kind rec)
row-sound rec zero low high e p = absurd (omega arith)
row-sound rec (suc zero) low high e p =
    let fields : Passes 24 (table_rest 49 rec) rec = rw e at p in
    locality-sound rec 69 fields.1.0 fields.1.1.0 fields.1.1.1.0
row-sound rec (suc (suc zero)) low high e p = one-sound rec 2 60 24 (omega arith) refl (rw e at p).0
row-sound rec (suc (suc (suc zero))) low high e p = one-sound rec 3 20 24 (omega arith) refl (rw e at p).0
row-sound rec (suc (suc (suc (suc zero)))) low high e p = one-sound rec 4 50 24 (omega arith) refl (rw e at p).0
row-sound rec (suc (suc (suc (suc (suc zero))))) low high e p =
    one-sound rec 5 30 24 (omega arith) refl (rw e at p).0
row-sound rec (suc (suc (suc (suc (suc (suc more)))))) low high e p = absurd (omega arith)

-- the row that a kind and a key find
pub rows-sound : (table : List ℕ) → Accepted table_format table → RowsSound (table_lookup table)
rows-sound table t kind key texts low high small = found-sound table_shelf table kind key small each texts
  where
    each : (i : ℕ) → 1 ≤ i → i < last_of table_shelf table → ref_at table_shelf table i ≡ ref kind key
        → RowSound kind (texts_in table_shelf kind (record_at 169 table i))
    each i p q is =
        let rec = record_at 169 table i in
        let of-kind : kind_of (ref_at table_shelf table i) ≡ kind = ap kind_of is ∙ ref-kind kind key small in
        let type = type_at table t i p q ∙ ap (λ (k : ℕ). 48 + k) of-kind in
        row-sound rec kind low high type (table-passes rec (t.each i p q).well_formed).1
