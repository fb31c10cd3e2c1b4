-- What an address resolves to is sound where its fields are well formed and the rows that its keys find are: of every view
-- of a source, live or not.
-- Assumes nothing.
use Prim.Native.Nat.{ℕ, zero, suc, ◌≤◌, ◌<◌}
use mathlib.Core.Path.{◌≡◌, refl, sym, subst}
use mathlib.Core.Bool.{Bool, true, false, cond, not, ◌&&◌, ◌||◌, true≢false}
use mathlib.Core.List.{List, [], ◌∷◌}
use mathlib.Core.Option.{Option, none, some}
use native.Mathlib.Omega.{arith}
use borrow.Author.Tests.{le-leb, eqb-true, eqb-false}
use lib.Dec.{eqb, leb}
use lib.ListN.{length, get_or}
use lib.Seq.{take_all}
use Rattle.field.specs.Test.{every}
use Rattle.field.specs.Text.{text_byte, text_fault, trim, from_end, part, text_in}
use Rattle.field.proofs.Tests.{and_left, and_right}
use Rattle.source.specs.Address.{Lookup, Organisation, none_needed, named, lacking, Address, present, Asked, keys_of}
use Rattle.source.specs.Resolve.{forbidden, lacks, missing_from, lacks_organisation, missing, text_or, text_of, name_of, department_of, elements_of}
use Rattle.source.specs.Same.{AllOf}
use Rattle.source.proofs.Cases.{Resolving, mixed, lacking as without, fine, resolving}
use Rattle.label.specs.Lines.{is_empty}
use Rattle.csv_paf.specs.Ask.{filled}
use Rattle.pack.specs.Opening.{Slot, slot, slots_of, text_good}
use Rattle.pack.specs.Sound.{slots_good, RowsSound, OrganisationSound}
use Rattle.pack_sound.proofs.Texts.{may-be-blank}
use Rattle.pack_sound.proofs.Fields.{FieldsSound}
use Rattle.csv_back.specs.Back.{ElementsSound, EntrySound, entry_of, ViewSound}
use Rattle.csv_back.proofs.Texts.{good-empty}

-- ---- refusal 9: nothing is missing

-- a key that is not zero finds a row
abbrev EachFound : Lookup → List Asked → Type 0
EachFound look [] = Unit {0}
EachFound look (k ∷ ks) = (present k.key && lacks (look k.kind k.key) ≡ false) × EachFound look ks

each-found : (look : Lookup) (n : ℕ) (ks : List Asked) → missing_from look (suc n) ks ≡ 0 → EachFound look ks
each-found look n [] e = tt
each-found look n (k ∷ ks) e =
    by-test (present k.key && lacks (look k.kind k.key)) e (each-found look (suc n) ks)
  where
    by-test : (t : Bool) → cond t (suc n) (missing_from look (suc (suc n)) ks) ≡ 0
        → (missing_from look (suc (suc n)) ks ≡ 0 → EachFound look ks)
        → (t ≡ false) × EachFound look ks
    by-test true e more = absurd (omega arith)
    by-test false e more = (refl, more e)

record Found (look : Lookup) (a : Address) : Type 0 where
  locality : present a.locality ≡ true
  keys : EachFound look (keys_of a)
  organisation : lacks_organisation a.organisation ≡ false

all_found : (look : Lookup) (a : Address) → missing look a ≡ 0 → Found look a
unfolding missing
all_found look a e =
    by_tests (present a.locality) (lacks_organisation a.organisation) refl refl
    (eqb (missing_from look 1 (keys_of a)) 0) refl e
  where
    by_tests : (t u : Bool) → present a.locality ≡ t → lacks_organisation a.organisation ≡ u → (v : Bool)
        → eqb (missing_from look 1 (keys_of a)) 0 ≡ v
        → cond (not t) 1 (cond v (cond u 8 0) (missing_from look 1 (keys_of a))) ≡ 0
        → Found look a
    by_tests false u p q v r e = absurd (omega arith)
    by_tests true u p q false r e = absurd (eqb-false _ 0 r e)
    by_tests true true p q true r e = absurd (omega arith)
    by_tests true false p q true r e =
        record { locality = p; keys = each-found look 0 (keys_of a) (eqb-true _ 0 r); organisation = q }

-- ---- texts of rows

slot-good : (ss : List Slot) (ts : List (List ℕ)) (n : ℕ) (d : Slot) → slots_good ss ts ≡ true → n < length ss
    → text_good (get_or ss n d) (get_or ts n []) ≡ true
slot-good [] ts n d e h = absurd (omega arith)
slot-good (s ∷ ss) [] n d e h = absurd (true≢false (sym e))
slot-good (s ∷ ss) (t ∷ ts) zero d e h = and_left (text_good s t) (slots_good ss ts) e
slot-good (s ∷ ss) (t ∷ ts) (suc n) d e h = slot-good ss ts n d (and_right (text_good s t) (slots_good ss ts) e) (omega arith)

no_text : (w : ℕ) → text_good (slot w true) [] ≡ true
unfolding text_good
no_text w = rw (le-leb 0 w (omega arith))

-- a text that may not be empty is one that may
loosened : (a b c d x : Bool) → a && (b && (c && (d && x))) ≡ true → a && (b && (c && (d && true))) ≡ true
loosened true true true true x e = refl
loosened true true true false x e = e
loosened true true false d x e = e
loosened true false c d x e = e
loosened false b c d x e = e

may_be_empty : (w : ℕ) (t : List ℕ) → text_good (slot w false) t ≡ true → text_good (slot w true) t ≡ true
unfolding text_good
may_be_empty w t e =
    loosened (leb (length t) w) (every text_byte t) (not (eqb (get_or t 0 0) 32)) (not (eqb (from_end t 1) 32))
    (not (is_empty t)) e

-- the text of a key of one text: it is there where the key is
record KeyText (w key : ℕ) (t : List ℕ) : Type 0 where
  good : text_good (slot w true) t ≡ true
  there : filled t ≡ present key

module _ (look : Lookup) (rows : RowsSound look) where
  key-text : (kind w : ℕ) → 1 ≤ kind → kind ≤ 5 → slots_of kind ≡ slot w false ∷ [] → (key : ℕ) → key ≤ 99_999_999
      → present key && lacks (look kind key) ≡ false
      → KeyText w key (text_of look kind key 0)
  key-text kind w low high one key small found = by_tests (eqb key 0) (look kind key) refl refl found
    where
      by_tests : (z : Bool) (o : Option (List (List ℕ))) → eqb key 0 ≡ z → look kind key ≡ o → not z && lacks o ≡ false
          → KeyText w key (cond (not z) (text_or o 0) [])
      by_tests true o p q e = record { good = no_text w; there = rw p }
      by_tests false none p q e = absurd (true≢false e)
      by_tests false (some texts) p q e =
          let fit : slots_good (slot w false ∷ []) texts ≡ true = rw one at (rows kind key texts low high small q).fit in
          let good = slot-good (slot w false ∷ []) texts 0 (slot 0 true) fit (omega arith) in
          record {
            good = may_be_empty w (get_or texts 0 []) good;
            there = rw p (good-empty w false (get_or texts 0 []) good);
          }

  -- those of a locality, which is always there
  record LocalityTexts (key : ℕ) : Type 0 where
    town : text_good (slot 30 false) (text_of look 1 key 0) ≡ true
    dependent : text_good (slot 35 true) (text_of look 1 key 1) ≡ true
    double : text_good (slot 35 true) (text_of look 1 key 2) ≡ true
    own : not (is_empty (text_of look 1 key 1)) || is_empty (text_of look 1 key 2) ≡ true

  locality-texts : (key : ℕ) → key ≤ 99_999_999 → present key ≡ true → present key && lacks (look 1 key) ≡ false
      → LocalityTexts key
  locality-texts key small there found = by_row (look 1 key) refl (rw there at found)
    where
      by_row : (o : Option (List (List ℕ))) → look 1 key ≡ o → lacks o ≡ false → LocalityTexts key
      by_row none p e = absurd (true≢false e)
      by_row (some texts) p e =
          let r = rows 1 key texts (omega arith) (omega arith) small p in
          let slots = slots_of 1 in
          record {
            town = rw (there, p) (slot-good slots texts 0 (slot 0 true) r.fit (omega arith));
            dependent = rw (there, p) (slot-good slots texts 1 (slot 0 true) r.fit (omega arith));
            double = rw (there, p) (slot-good slots texts 2 (slot 0 true) r.fit (omega arith));
            own = rw (there, p) (r.double refl);
          }

-- ---- the organisation

record Names (type : ℕ) (o : Organisation) : Type 0 where
  name : text_good (slot 60 true) (name_of o) ≡ true
  department : text_good (slot 60 true) (department_of o) ≡ true
  own : type ≡ 83 → not (is_empty (name_of o)) || is_empty (department_of o) ≡ true

names : (type key : ℕ) (o : Organisation) → OrganisationSound type key o → Names type o
names type key none_needed h = record { name = no_text 60; department = no_text 60; own = λ is. refl }
names type key (named name department) h =
    record { name = h.0; department = h.1.0; own = λ is. rw (h.1.1 is).1 }
names type key lacking h = absurd h

-- ---- a field of six bytes without its padding

box-text : (box : List ℕ) → length box ≡ 6 → text_fault box ≡ 0 → text_good (slot 6 true) (trim box) ≡ true
unfolding text_in
box-text box long e =
    let whole : part box 0 6 ≡ box = take_all 6 box (omega arith) in
    subst (λ (t : List ℕ). text_good (slot 6 true) (trim t) ≡ true) whole
    (may-be-blank box 0 6 6 (omega arith) (rw whole e))

-- ---- elements

module _ (look : Lookup) (rows : RowsSound look) (a : Address) (f : FieldsSound a) where
  elements-sound : forbidden a ≡ 0 → missing look a ≡ 0 → ElementsSound a.postcode_type (elements_of look a)
  unfolding elements_of forbidden
  elements-sound mix none_missing =
      let found = all_found look a none_missing in
      let k = found.keys in
      let small = f.keys in
      let place = locality-texts look rows a.locality small.0 found.locality k.0 in
      let street = key-text look rows 2 60 (omega arith) (omega arith) refl in
      let descriptor = key-text look rows 3 20 (omega arith) (omega arith) refl in
      let thoroughfare = street a.thoroughfare small.1.0 k.1.0 in
      let its = descriptor a.descriptor small.1.1.0 k.1.1.0 in
      let dependent = street a.dependent small.1.1.1.0 k.1.1.1.0 in
      let its_own = descriptor a.dependent_descriptor small.1.1.1.1.0 k.1.1.1.1.0 in
      let building =
      key-text look rows 4 50 (omega arith) (omega arith) refl a.building small.1.1.1.1.1.0
      k.1.1.1.1.1.0 in
      let sub =
      key-text look rows 5 30 (omega arith) (omega arith) refl a.sub_building small.1.1.1.1.1.1.0
      k.1.1.1.1.1.1.0 in
      let organisation =
      names a.postcode_type a.organisation_key a.organisation (f.organisation found.organisation) in
      record {
        town = place.town;
        dependent_locality = place.dependent;
        double_locality = place.double;
        thoroughfare = thoroughfare.good;
        descriptor = its.good;
        dependent = dependent.good;
        dependent_descriptor = its_own.good;
        building = building.good;
        sub_building = sub.good;
        box = box-text a.box f.box_long f.box_good;
        department = organisation.department;
        organisation = organisation.name;
        number = f.number;
        code = a.outward;
        outward = refl;
        outward_good = f.outward;
        inward = f.inward;
        double = place.own;
        named = organisation.own;
        mix =
            rw (
              sub.there,
              building.there,
              thoroughfare.there,
              its.there,
              dependent.there,
              its_own.there,
            )
            mix;
      }

  view-sound : ViewSound look a
  view-sound e is = by-case (resolving look a)
    where
      by-case : Resolving look a → EntrySound (entry_of a e)
      by-case (mixed n r) = let z : ◌≡◌ {A = ℕ} 0 1 = cc in absurd (omega arith)
      by-case (without p n r) = let z : ◌≡◌ {A = ℕ} 0 1 = cc in absurd (omega arith)
      by-case (fine p q r) =
          let same : elements_of look a ≡ e = cc in
          record {
            type = f.type;
            suffix = f.suffix;
            texts = subst (ElementsSound a.postcode_type) same (elements-sound p q);
          }

pub views-sound : (look : Lookup) → RowsSound look → (views : List Address) → AllOf FieldsSound views
    → AllOf (ViewSound look) views
views-sound look rows [] f = tt
views-sound look rows (a ∷ more) f = (view-sound look rows a f.0, views-sound look rows more f.1)
