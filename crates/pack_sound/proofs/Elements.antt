-- What the label of an address is printed from, where the rows that its keys find are sound and its own fields are: no
-- text is longer than its field, and each has bytes of a text only.
-- Assumes nothing.
use Prim.Native.Nat.{ℕ, zero, suc, ◌≤◌}
use mathlib.Core.Path.{◌≡◌, refl, sym}
use mathlib.Core.Bool.{Bool, true, false, cond, not, true≢false}
use mathlib.Core.List.{List, [], ◌∷◌}
use mathlib.Core.Option.{Option, none, some}
use native.Mathlib.Omega.{arith}
use lib.Dec.{eqb}
use lib.ListN.{get_or}
use Rattle.field.proofs.Tests.{and_left, and_right}
use Rattle.field_outward.specs.Outward.{outward_fault}
use Rattle.source.specs.Address.{Lookup, Organisation, none_needed, named, lacking, Address, Elements}
use Rattle.source.specs.Resolve.{text_or, lacks_organisation, text_of, name_of, department_of, elements_of}
use Rattle.source.specs.Same.{AllOf}
use Rattle.label.specs.Widths.{Fits}
use Rattle.pack.specs.Opening.{Slot, slot, slots_of, text_good}
use Rattle.pack.specs.Sound.{slots_good, RowsSound, OrganisationSound}
use Rattle.field_outward.proofs.Long.{outward-long, inward-long}
use Rattle.pack_sound.proofs.Texts.{TextOf, good-text, trim-long}
use Rattle.pack_sound.proofs.Fields.{FieldsSound}

-- the texts of elements, each of at most its field's bytes
pub record TextsSound (e : Elements) : Type 0 where
  pub organisation : TextOf 60 e.organisation
  pub department : TextOf 60 e.department
  pub sub_building : TextOf 30 e.sub_building
  pub building : TextOf 50 e.building
  pub dependent : TextOf 60 e.dependent
  pub dependent_descriptor : TextOf 20 e.dependent_descriptor
  pub thoroughfare : TextOf 60 e.thoroughfare
  pub descriptor : TextOf 20 e.descriptor
  pub double_locality : TextOf 35 e.double_locality
  pub dependent_locality : TextOf 35 e.dependent_locality
  pub town : TextOf 30 e.town

-- nothing is a text of any width
no_text : (w : ℕ) → TextOf w []
no_text w = (omega arith, refl)

-- how wide the n-th text of these slots may be
abbrev width_at : List Slot → ℕ → ℕ
width_at ss n = (get_or ss n (slot 0 true)).width

slots-text : (ss : List Slot) (ts : List (List ℕ)) (n : ℕ) → slots_good ss ts ≡ true
    → TextOf (width_at ss n) (get_or ts n [])
slots-text [] [] n e = no_text 0
slots-text [] (t ∷ ts) n e = absurd (true≢false (sym e))
slots-text (s ∷ ss) [] n e = absurd (true≢false (sym e))
slots-text (s ∷ ss) (t ∷ ts) zero e = good-text s t (and_left (text_good s t) (slots_good ss ts) e)
slots-text (s ∷ ss) (t ∷ ts) (suc n) e = slots-text ss ts n (and_right (text_good s t) (slots_good ss ts) e)

organisation-text : (type key : ℕ) (o : Organisation) → (lacks_organisation o ≡ false → OrganisationSound type key o)
    → TextOf 60 (name_of o) × TextOf 60 (department_of o)
organisation-text type key none_needed h = (no_text 60, no_text 60)
organisation-text type key (named name department) h =
    let good = h refl in
    (good-text (slot 60 true) name good.0, good-text (slot 60 true) department good.1.0)
organisation-text type key lacking h = (no_text 60, no_text 60)

module _ (look : Lookup) (rows : RowsSound look) where
  -- the n-th text of the row that a key finds, or nothing
  key-text : (kind key n : ℕ) → 1 ≤ kind → kind ≤ 5 → key ≤ 99_999_999
      → TextOf (width_at (slots_of kind) n) (text_of look kind key n)
  key-text kind key n low high small = by_key (eqb key 0)
    where
      found : (o : Option (List (List ℕ))) → look kind key ≡ o → TextOf (width_at (slots_of kind) n) (text_or o n)
      found none e = no_text (width_at (slots_of kind) n)
      found (some texts) e = slots-text (slots_of kind) texts n (rows kind key texts low high small e).fit

      by_key : (z : Bool) → TextOf (width_at (slots_of kind) n) (cond (not z) (text_or (look kind key) n) [])
      by_key true = no_text (width_at (slots_of kind) n)
      by_key false = found (look kind key) refl

  module _ (a : Address) (f : FieldsSound a) where
    texts-sound : TextsSound (elements_of look a)
    unfolding elements_of
    texts-sound =
        let names = organisation-text a.postcode_type a.organisation_key a.organisation f.organisation in
        let k = f.keys in
        record {
          organisation = names.0;
          department = names.1;
          sub_building = key-text 5 a.sub_building 0 (omega arith) (omega arith) k.1.1.1.1.1.1.0;
          building = key-text 4 a.building 0 (omega arith) (omega arith) k.1.1.1.1.1.0;
          dependent = key-text 2 a.dependent 0 (omega arith) (omega arith) k.1.1.1.0;
          dependent_descriptor =
              key-text 3 a.dependent_descriptor 0 (omega arith) (omega arith) k.1.1.1.1.0;
          thoroughfare = key-text 2 a.thoroughfare 0 (omega arith) (omega arith) k.1.0;
          descriptor = key-text 3 a.descriptor 0 (omega arith) (omega arith) k.1.1.0;
          double_locality = key-text 1 a.locality 2 (omega arith) (omega arith) k.0;
          dependent_locality = key-text 1 a.locality 1 (omega arith) (omega arith) k.0;
          town = key-text 1 a.locality 0 (omega arith) (omega arith) k.0;
        }

    -- so that none is longer than its field
    elements-fit : Fits (elements_of look a)
    unfolding elements_of
    elements-fit =
        let t = texts-sound in
        record {
          organisation = t.organisation.0;
          department = t.department.0;
          box = omega (arith, trim-long a.box, f.box_long);
          sub_building = t.sub_building.0;
          building = t.building.0;
          dependent = t.dependent.0;
          dependent_descriptor = t.dependent_descriptor.0;
          thoroughfare = t.thoroughfare.0;
          descriptor = t.descriptor.0;
          double_locality = t.double_locality.0;
          dependent_locality = t.dependent_locality.0;
          town = t.town.0;
          outward = omega (arith, trim-long a.outward, outward-long a.outward f.outward);
          inward = omega (arith, inward-long a.inward f.inward);
        }

-- what a label is printed from begins no line with a small letter: texts have none, nor have digits and codes
pub record Printed (look : Lookup) (a : Address) : Type 0 where
  pub texts : TextsSound (elements_of look a)
  pub number : a.number ≤ 9_999
  pub outward : outward_fault a.outward ≡ 0

-- of every address whose fields are well formed, where the rows are sound
module _ (look : Lookup) (rows : RowsSound look) where
  pub all-fit : (views : List Address) → AllOf FieldsSound views → AllOf (λ a. Fits (elements_of look a)) views
  all-fit [] f = tt
  all-fit (a ∷ more) f = (elements-fit look rows a f.0, all-fit more f.1)

  pub all-printed : (views : List Address) → AllOf FieldsSound views → AllOf (Printed look) views
  all-printed [] f = tt
  all-printed (a ∷ more) f = (
    record { texts = texts-sound look rows a f.0; number = f.0.number; outward = f.0.outward },
    all-printed more f.1,
  )
