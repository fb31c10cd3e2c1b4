-- Every row that a key finds in an accepted set is one that a pack may hold.
-- Assumes nothing.
use Prim.Native.Nat.{ℕ, zero, suc, ◌+◌, ◌≤◌, ◌<◌}
use mathlib.Core.Path.{◌≡◌, refl, sym, ◌∙◌}
use mathlib.Core.Bool.{false}
use mathlib.Core.List.{List, [], ◌∷◌}
use mathlib.Core.Option.{some}
use native.Mathlib.Omega.{arith}
use native.Mathlib.Nat.{zero-add}
use Rattle.field.specs.Text.{filled_fault, text_in}
use Rattle.file_record.specs.Parts.{record_at}
use Rattle.file_fault.specs.Fields.{field, key_fault}
use Rattle.file_fault.proofs.Passing.{fields-pass}
use Rattle.mainfile_fault.specs.Faults.{locality_record, main_locality_fault, main_text_fault}
use Rattle.file.specs.Accepted.{Accepted}
use Rattle.file.specs.Mainfile.{text_file}
use Rattle.shelf.specs.Shelf.{texts_in}
use Rattle.shelf.specs.Stock.{stock_of, look_in}
use Rattle.mainfile.specs.Set.{Set}
use Rattle.mainfile.specs.Rows.{row_shelf, shelf_of, set_lookup}
use Rattle.mainfile.specs.Accepted.{AcceptedRows}
use Rattle.mainfile_source.proofs.Joined.{look-1, look-2, look-3, look-4, look-5}
use Rattle.pack.specs.Opening.{slot, slots_of}
use Rattle.pack.specs.Sound.{RowSound, RowsSound}
use Rattle.pack_sound.proofs.Rows.{locality-sound, one-sound, found-sound}

-- a locality record without fault
locality-row : (rec : List ℕ) → main_locality_fault rec ≡ 0
    → RowSound 1 (text_in rec 51 81 ∷ text_in rec 81 116 ∷ text_in rec 116 151 ∷ [])
unfolding main_locality_fault
locality-row rec e =
    let p = fields-pass 0 (locality_record rec) rec e in
    locality-sound rec 51 p.1.1.0 p.1.1.1.0 p.1.1.1.1.0

-- a record of a key and one text
text-row : (kind digits bytes : ℕ) → 1 < kind → slots_of kind ≡ slot bytes false ∷ [] → (rec : List ℕ)
    → main_text_fault digits bytes rec ≡ 0
    → RowSound kind (text_in rec digits (digits + bytes) ∷ [])
unfolding main_text_fault
text-row kind digits bytes high one rec e =
    let p = fields-pass 0 (field digits key_fault ∷ field bytes filled_fault ∷ []) rec e in
    one-sound rec kind bytes digits high one (rw (zero-add digits) at p.1.0)

module _ (key : ℕ) (small : key ≤ 99_999_999) (texts : List (List ℕ)) where
  -- the row that a key finds in the file of such a kind
  text-found : (kind width digits bytes n : ℕ) (name file : List ℕ) → 1 < kind → slots_of kind ≡ slot bytes false ∷ []
      → ((rec : List ℕ)
      → texts_in (row_shelf kind width digits digits digits) kind rec ≡ text_in rec digits (digits + bytes) ∷ [])
      → Accepted (text_file n width digits bytes name) file
      → look_in (stock_of (row_shelf kind width digits digits digits) file) kind key ≡ some texts
      → RowSound kind texts
  text-found kind width digits bytes n name file high one same t =
      found-sound (row_shelf kind width digits digits digits) file kind key small
      (λ i p q is.
      let rec = record_at width file i in
      rw (same rec) (text-row kind digits bytes high one rec (t.each i p q).well_formed)) texts

  -- what the look-up of a set finds stands in the file of the kind
  row-found : (s : Set) → AcceptedRows s → (kind : ℕ) → 1 ≤ kind → kind ≤ 5 → set_lookup s kind key ≡ some texts
      → RowSound kind texts
  row-found s ok zero low high e = absurd (omega arith)
  row-found s ok (suc zero) low high e =
      found-sound (shelf_of 1) s.localities 1 key small
      (λ i p q is. locality-row (record_at 151 s.localities i) (ok.localities.each i p q).well_formed) texts
      (sym (look-1 s key (omega arith)) ∙ e)
  row-found s ok (suc (suc zero)) low high e =
      text-found 2 68 8 60 2 _ s.thoroughfares (omega arith) refl (λ rec. refl) ok.thoroughfares
      (sym (look-2 s key (omega arith)) ∙ e)
  row-found s ok (suc (suc (suc zero))) low high e =
      text-found 3 30 4 20 3 _ s.descriptors (omega arith) refl (λ rec. refl) ok.descriptors
      (sym (look-3 s key (omega arith)) ∙ e)
  row-found s ok (suc (suc (suc (suc zero)))) low high e =
      text-found 4 58 8 50 4 _ s.buildings (omega arith) refl (λ rec. refl) ok.buildings
      (sym (look-4 s key (omega arith)) ∙ e)
  row-found s ok (suc (suc (suc (suc (suc zero))))) low high e =
      text-found 5 38 8 30 5 _ s.sub_buildings (omega arith) refl (λ rec. refl) ok.sub_buildings
      (sym (look-5 s key (omega arith)) ∙ e)
  row-found s ok (suc (suc (suc (suc (suc (suc more)))))) low high e = absurd (omega arith)

pub rows-sound : (s : Set) → AcceptedRows s → RowsSound (set_lookup s)
rows-sound s ok kind key texts low high small e = row-found key small texts s ok kind low high e
