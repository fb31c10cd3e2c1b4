-- What every source gives to a pack: addresses whose fields are well formed and whose keys find rows that are.
-- Assumes nothing.
use Rattle.std.specs.Prelude.{ℕ, ◌≤◌, ◌<◌, ◌≡◌, Bool, true, false, not, ◌&&◌, ◌||◌, List, [], ◌∷◌, length, get_or}
use Rattle.std.proofs.Math.Option.{some}
use Rattle.field.specs.Test.{elem}
use Rattle.field.specs.Text.{text_fault}
use Rattle.field_outward.specs.Outward.{outward_fault}
use Rattle.field_outward.specs.Inward.{inward_fault, suffix_fault}
use Rattle.source.specs.Address.{Lookup, Organisation, none_needed, named, lacking, Address, Asked, keys_of}
use Rattle.source.specs.Resolve.{forbidden, missing}
use Rattle.label.specs.Lines.{is_empty}
use Rattle.pack.specs.Layout.{pack_of}
use Rattle.pack.specs.Opening.{Slot, slot, slots_of, text_good}

-- texts that fill the slots of their row
abbrev pub slots_good : List Slot → List (List ℕ) → Bool
slots_good [] [] = true
slots_good [] (t ∷ ts) = false
slots_good (s ∷ ss) [] = false
slots_good (s ∷ ss) (t ∷ ts) = text_good s t && slots_good ss ts

pub record RowSound (kind : ℕ) (texts : List (List ℕ)) : Type 0 where
  pub fit : slots_good (slots_of kind) texts ≡ true
  pub double : kind ≡ 1 → not (is_empty (get_or texts 1 [])) || is_empty (get_or texts 2 []) ≡ true

-- every row that a key finds
abbrev pub RowsSound : Lookup → Type 0
RowsSound look =
    (kind key : ℕ) (texts : List (List ℕ)) → 1 ≤ kind → kind ≤ 5 → key ≤ 99_999_999 → look kind key ≡ some texts
    → RowSound kind texts

-- "L has an organisation row, S has one with a name exactly when its organisation key is above zero, and otherwise none"
abbrev pub OrganisationSound : (type key : ℕ) → Organisation → Type 0
OrganisationSound type key none_needed = (type ≡ 83) × (key ≡ 0)
OrganisationSound type key (named name department) =
    (text_good (slot 60 true) name ≡ true)
    × ((text_good (slot 60 true) department ≡ true) × (type ≡ 83 → (0 < key) × (is_empty name ≡ false)))
OrganisationSound type key lacking = ⊥

abbrev pub KeysFit : List Asked → Type 0
KeysFit [] = Unit {0}
KeysFit (a ∷ more) = (a.key ≤ 99_999_999) × KeysFit more

pub record AddressSound (look : Lookup) (code : List ℕ) (a : Address) : Type 0 where
  pub mix : forbidden a ≡ 0
  pub rows : missing look a ≡ 0
  pub outward : a.outward ≡ code
  pub inward : inward_fault a.inward ≡ 0
  pub suffix : suffix_fault a.suffix ≡ 0
  pub type : elem a.postcode_type (83 ∷ 76 ∷ []) ≡ true
  pub address_key : a.address_key ≤ 99_999_999
  pub organisation_key : a.organisation_key ≤ 99_999_999
  pub number : a.number ≤ 9_999
  pub box_long : length a.box ≡ 6
  pub box_good : text_fault a.box ≡ 0
  pub view : a.view ≤ 99_999_999
  pub keys : KeysFit (keys_of a)
  pub organisation : OrganisationSound a.postcode_type a.organisation_key a.organisation

-- each of them, and the views rise
abbrev pub AddressesSound : Lookup → List ℕ → ℕ → List Address → Type 0
AddressesSound look code low [] = Unit {0}
AddressesSound look code low (a ∷ more) =
    (low < a.view) × (AddressSound look code a × AddressesSound look code a.view more)

pub record Sound (look : Lookup) (addresses : List Address) (code : List ℕ) : Type 0 where
  pub of_rows : RowsSound look
  pub of_addresses : AddressesSound look code 0 addresses
  pub of_code : outward_fault code ≡ 0
  -- an offset is told from an absent one
  pub small : length (pack_of look addresses code) < 4_294_967_295
