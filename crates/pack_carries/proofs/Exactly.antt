-- The rows of a pack, read back: each row that its addresses use, and no other.
-- Assumes nothing.
use Prim.Native.Nat.{ℕ, ◌+◌, ◌≤◌}
use mathlib.Core.Path.{◌≡◌, refl, ap, ap₂, ◌∙◌}
use mathlib.Core.List.{List, [], ◌∷◌, ◌++◌}
use native.Mathlib.Omega.{arith}
use lib.ListN.{length}
use Rattle.source.specs.Address.{Lookup, Organisation, none_needed, named, lacking, Address, kind_of}
use Rattle.pack.specs.Layout.{Entry, used_by, texts_bytes, entries_bytes, table_entries, organisation_entry, organisation_entries, entries_of, pack_of}
use Rattle.pack.specs.Opening.{Slot, slots_of, text_end, row_end}
use Rattle.pack.specs.Sound.{AddressesSound, Sound}
use Rattle.pack_carries.specs.Rows.{row_read, texts_at, rows_from, rows_in, rows_of, table_rows, organisation_row, organisation_rows}
use Rattle.pack_carries.proofs.Stands.{Stands, stands-all}
use Rattle.source.proofs.Refs.{ref-kind}
use Rattle.pack_carries.proofs.Rows.{EntriesSound, text-at, text-behind, row-kind, row-long, texts-stand, first-stands, others-stand}
use Rattle.pack_carries.proofs.Carried.{pack-rows}

module _ (rows : List ℕ) where
  texts-back : (ss : List Slot) (ts : List (List ℕ)) (at : ℕ) → length ts ≡ length ss → Stands rows at (texts_bytes ts)
      → texts_at rows ss at ≡ ts
  texts-back [] [] at e h = refl
  texts-back [] (t ∷ ts) at e h = absurd (omega arith)
  texts-back (s ∷ ss) [] at e h = absurd (omega arith)
  texts-back (s ∷ ss) (t ∷ ts) at e h =
      ap₂ ◌∷◌ (text-at rows at t (texts_bytes ts) h)
      (texts-back ss ts (text_end rows at) (omega arith) (text-behind rows at t (texts_bytes ts) h))

  rows_back : (es : List Entry) (low at : ℕ) → EntriesSound low es → Stands rows at (entries_bytes es)
      → rows_from rows (length es) at ≡ rows_of es
  rows_back [] low at g h = refl
  rows_back (e ∷ es) low at g h =
      let s = first-stands rows e es at g.1.0 h in
      let kind = row-kind rows e at g.1.0 s in
      ap₂ ◌∷◌
      (ap₂ row_read kind
      (ap (λ k. texts_at rows (slots_of k) (at + 1)) kind
      ∙ texts-back (slots_of (kind_of e.stands_for)) e.texts (at + 1) (row-long rows e at g.1.0 s)
      (texts-stand rows e at g.1.0 s)))
      (rows_back es (kind_of e.stands_for) (row_end rows at) g.1.1 (others-stand rows e es at g.1.0 h))

rows_append : (es more : List Entry) → rows_of (es ++ more) ≡ rows_of es ++ rows_of more
rows_append [] more = refl
rows_append (e ∷ es) more = ap (λ l. row_read (kind_of e.stands_for) e.texts ∷ l) (rows_append es more)

tables-read : (look : Lookup) (rs : List ℕ) → rows_of (table_entries look rs) ≡ table_rows look rs
tables-read look [] = refl
tables-read look (r ∷ rs) = ap₂ ◌∷◌ refl (tables-read look rs)

organisation-read : (view : ℕ) (o : Organisation) → view ≤ 99_999_999
    → rows_of (organisation_entry view o) ≡ organisation_row o
organisation-read view none_needed h = refl
organisation-read view (named name department) h =
    ap (λ k. row_read k (name ∷ department ∷ []) ∷ []) (ref-kind 6 view h)
organisation-read view lacking h = refl

organisations-read : (look : Lookup) (code : List ℕ) (low : ℕ) (addresses : List Address)
    → AddressesSound look code low addresses
    → rows_of (organisation_entries addresses) ≡ organisation_rows addresses
organisations-read look code low [] g = refl
organisations-read look code low (a ∷ more) g =
    rows_append (organisation_entry a.view a.organisation) (organisation_entries more)
    ∙ ap₂ ◌++◌ (organisation-read a.view a.organisation g.1.0.view)
    (organisations-read look code a.view more g.1.1)

module _ (look : Lookup) (addresses : List Address) (code : List ℕ) (g : Sound look addresses code) where
  rows-of-entries : rows_in (pack_of look addresses code) ≡ rows_of (entries_of look addresses)
  unfolding rows_in
  rows-of-entries =
      let said = pack-rows look addresses code g in
      ap₂ (λ l n. rows_from l n 0) said.area said.count
      ∙ rows_back (entries_bytes (entries_of look addresses)) (entries_of look addresses) 1 0 said.sound
      (stands-all (entries_bytes (entries_of look addresses)))

  -- "First the table rows used by a packed view, by type then key, each once", then the organisations
  pub rows-exactly : rows_in (pack_of look addresses code) ≡ table_rows look (used_by addresses) ++ organisation_rows addresses
  unfolding entries_of
  rows-exactly =
      rows-of-entries
      ∙ (rows_append (table_entries look (used_by addresses)) (organisation_entries addresses)
      ∙ ap₂ ◌++◌ (tables-read look (used_by addresses)) (organisations-read look code 0 addresses g.of_addresses))
