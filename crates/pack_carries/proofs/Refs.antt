-- The references of a point: an offset leads to the row that was packed for its key, and no offset stands for no row.
-- Assumes nothing.
use Prim.Native.Nat.{ℕ, ◌+◌, ◌≤◌, ◌<◌}
use mathlib.Core.Path.{◌≡◌, refl, ap, subst, ◌∙◌}
use mathlib.Core.Bool.{Bool, true, false, cond}
use mathlib.Core.List.{List, [], ◌∷◌}
use mathlib.Core.Option.{none, some}
use native.Mathlib.Omega.{arith}
use borrow.Author.Tests.{eq-eqb, ne_eqb}
use lib.Dec.{eqb}
use lib.ListN.{length, get_or}
use Rattle.source.specs.Address.{Lookup, Organisation, none_needed, named, lacking, Address, present, ref, kind_of}
use Rattle.source.specs.Resolve.{text_of, name_of, department_of}
use Rattle.pack.specs.Names.{offsets_at, absent}
use Rattle.pack.specs.Layout.{Entry, entry, entries_bytes, offset_of, organisation_ref, refs_of}
use Rattle.pack.specs.Opening.{row_count, row_area, slots_of, row_kind, row_text, offset_good, offset_of_point, given}
use Rattle.pack.specs.Points.{offset_text}
use Rattle.pack_carries.proofs.Stands.{stands-all}
use Rattle.source.proofs.Refs.{ref-kind}
use Rattle.pack_carries.proofs.Rows.{EntriesSound, and_both, row-kind, row-long, row-text}
use Rattle.pack_carries.proofs.Found.{texts_for, offset-within, FoundAt, found_at}
use Rattle.pack_carries.proofs.Entries.{KeyFound, OrganisationFound, RowsFound}
use Rattle.pack_carries.proofs.Points.{place_of, refs-back, PointRead}

-- what a pack's trailer has to say of its rows
pub record RowsSaid (pack : List ℕ) (es : List Entry) : Type 0 where
  pub sound : EntriesSound 1 es
  pub area : row_area pack ≡ entries_bytes es
  pub count : row_count pack ≡ length es
  pub small : length (entries_bytes es) < absent

-- the n-th offset of a rest leads to a row of this kind with these texts
pub record LeadsTo (pack : List ℕ) (rest n kind : ℕ) (texts : List (List ℕ)) : Type 0 where
  pub there : eqb (offset_of_point pack rest n) absent ≡ false
  pub good : offset_good (row_area pack) (row_count pack) kind (offset_of_point pack rest n) ≡ true
  pub text : (which : ℕ) → which < length (slots_of kind)
      → row_text (row_area pack) (offset_of_point pack rest n) which ≡ get_or texts which []

-- the n-th offset of a rest, by the key that it was packed for
pub record KeyRead (look : Lookup) (pack : List ℕ) (rest n kind key : ℕ) : Type 0 where
  pub is-given : given pack rest n ≡ present key
  pub good : offset_good (row_area pack) (row_count pack) kind (offset_of_point pack rest n) ≡ true
  pub text : (which : ℕ) → which < length (slots_of kind) → offset_text pack rest n which ≡ text_of look kind key which

-- the same of an organisation's offset
abbrev pub is_named : Organisation → Bool
is_named none_needed = false
is_named (named name department) = true
is_named lacking = false

pub record OrganisationRead (pack : List ℕ) (rest : ℕ) (o : Organisation) : Type 0 where
  pub is-given : given pack rest 7 ≡ is_named o
  pub good : offset_good (row_area pack) (row_count pack) 6 (offset_of_point pack rest 7) ≡ true
  pub name : offset_text pack rest 7 0 ≡ name_of o
  pub department : offset_text pack rest 7 1 ≡ department_of o
  pub first : is_named o ≡ true → row_text (row_area pack) (offset_of_point pack rest 7) 0 ≡ name_of o

module _ (pack : List ℕ) (es : List Entry) (g : RowsSaid pack es) where
  abbrev rows : List ℕ
  rows = entries_bytes es

  found-row : (r : ℕ) (texts : List (List ℕ)) → texts_for es r ≡ some texts
      → FoundAt rows (length es) 0 r texts (offset_of es r)
  found-row r texts f =
      subst (FoundAt rows (length es) 0 r texts) (let z : 0 + offset_of es r ≡ offset_of es r = omega arith in z)
      (found_at rows es 1 0 r texts g.sound (stands-all rows) f)

  module _ (rest n kind : ℕ) where
    leads : (r : ℕ) (texts : List (List ℕ)) → kind_of r ≡ kind → texts_for es r ≡ some texts
        → offset_of_point pack rest n ≡ offset_of es r
        → LeadsTo pack rest n kind texts
    unfolding offset_good
    leads r texts k f o =
        let row = found-row r texts f in
        let e = entry r texts in
        let apart : eqb (offset_of_point pack rest n) absent ≡ false =
        ne_eqb (offset_of_point pack rest n) absent (λ q. omega (arith, offset-within es r, g.small)) in
        let is-kind : row_kind rows (offset_of es r) ≡ kind = row-kind rows e (offset_of es r) row.sound row.stands ∙ k in
        record {
          there = apart;
          good = rw (apart, g.area, g.count, o) (and_both row.starts (eq-eqb (row_kind rows (offset_of es r)) kind is-kind));
          text = λ which l.
              rw (g.area, o)
              (row-text rows e (offset_of es r) row.sound row.stands which
              (omega (arith, row-long rows e (offset_of es r) row.sound row.stands, ap (λ m. length (slots_of m)) k)));
        }

    key-read : (look : Lookup) (key : ℕ) → (present key ≡ true → KeyFound look es kind key)
        → offset_of_point pack rest n ≡ place_of es (cond (present key) (some (ref kind key)) none)
        → KeyRead look pack rest n kind key
    unfolding offset_good
    key-read look key found o = by-test (present key) refl o
      where
        by-test : (t : Bool) → present key ≡ t → offset_of_point pack rest n ≡ place_of es (cond t (some (ref kind key)) none)
            → KeyRead look pack rest n kind key
        by-test true q o =
            let f = found q in
            let l = leads (ref kind key) f.texts (ref-kind kind key f.small) f.found o in
            record {
              is-given = rw (l.there, q);
              good = l.good;
              text = λ which h. rw (l.there, q, f.row) (l.text which h);
            }
        by-test false q o =
            let gone : eqb (offset_of_point pack rest n) absent ≡ true = eq-eqb (offset_of_point pack rest n) absent o in
            record { is-given = rw (gone, q); good = rw gone; text = λ which h. rw (gone, q) }

  organisation-read : (rest view : ℕ) (o : Organisation) → view ≤ 99_999_999 → OrganisationFound es view o
      → offset_of_point pack rest 7 ≡ place_of es (organisation_ref view o)
      → OrganisationRead pack rest o
  unfolding offset_good
  organisation-read rest view none_needed small f o =
      let gone : eqb (offset_of_point pack rest 7) absent ≡ true = eq-eqb (offset_of_point pack rest 7) absent o in
      record {
        is-given = rw gone;
        good = rw gone;
        name = rw gone;
        department = rw gone;
        first = λ e. let z : ◌≡◌ {A = ℕ} 0 1 = cc in absurd (omega arith);
      }
  organisation-read rest view (named name department) small f o =
      let l = leads rest 7 6 (ref 6 view) (name ∷ department ∷ []) (ref-kind 6 view small) f o in
      record {
        is-given = rw l.there;
        good = l.good;
        name = rw l.there (l.text 0 (omega arith));
        department = rw l.there (l.text 1 (omega arith));
        first = λ e. l.text 0 (omega arith);
      }
  organisation-read rest view lacking small f o = absurd f

-- the offsets of a rest, in order
pub record RefsRead (look : Lookup) (pack : List ℕ) (rest : ℕ) (a : Address) : Type 0 where
  pub of-locality : KeyRead look pack rest 0 1 a.locality
  pub of-thoroughfare : KeyRead look pack rest 1 2 a.thoroughfare
  pub of-descriptor : KeyRead look pack rest 2 3 a.descriptor
  pub of-dependent : KeyRead look pack rest 3 2 a.dependent
  pub of-dependent-descriptor : KeyRead look pack rest 4 3 a.dependent_descriptor
  pub of-building : KeyRead look pack rest 5 4 a.building
  pub of-sub-building : KeyRead look pack rest 6 5 a.sub_building
  pub of-organisation : OrganisationRead pack rest a.organisation

module _ (look : Lookup) (pack : List ℕ) (es : List Entry) (g : RowsSaid pack es) (at rest : ℕ) (a : Address)
    (small : a.view ≤ 99_999_999) (f : RowsFound look es a) (p : PointRead pack at rest es a) where
  offset-back : (n : ℕ) → n < length (refs_of a) → offset_of_point pack rest n ≡ place_of es (get_or (refs_of a) n none)
  offset-back n l = refs-back pack es g.small n (refs_of a) (rest + offsets_at) l p.of_refs

  pub refs-read : RefsRead look pack rest a
  refs-read =
      let k = f.keys in
      record {
        of-locality = key-read pack es g rest 0 1 look a.locality k.0 (offset-back 0 (omega arith));
        of-thoroughfare = key-read pack es g rest 1 2 look a.thoroughfare k.1.0 (offset-back 1 (omega arith));
        of-descriptor = key-read pack es g rest 2 3 look a.descriptor k.1.1.0 (offset-back 2 (omega arith));
        of-dependent = key-read pack es g rest 3 2 look a.dependent k.1.1.1.0 (offset-back 3 (omega arith));
        of-dependent-descriptor = key-read pack es g rest 4 3 look a.dependent_descriptor k.1.1.1.1.0
            (offset-back 4 (omega arith));
        of-building = key-read pack es g rest 5 4 look a.building k.1.1.1.1.1.0 (offset-back 5 (omega arith));
        of-sub-building = key-read pack es g rest 6 5 look a.sub_building k.1.1.1.1.1.1.0
            (offset-back 6 (omega arith));
        of-organisation = organisation-read pack es g rest a.view a.organisation small f.organisation
            (offset-back 7 (omega arith));
      }
