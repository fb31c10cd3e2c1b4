-- The records of a Mainfile set between header and trailer: "Fields are well formed as document 01 says, and an organisation
-- of type S needs a name."
-- Assumes nothing.
use Rattle.std.specs.Prelude.{ℕ, cond, List, [], ◌∷◌, eqb, get_or}
use Rattle.field.specs.Digits.{digits_fault}
use Rattle.field.specs.Text.{text_fault, filled_fault, part}
use Rattle.field_outward.specs.Outward.{outward_fault}
use Rattle.field_outward.specs.Inward.{inward_fault, suffix_fault}
use Rattle.mainfile_record.specs.Locality as MainLocality
use Rattle.mainfile_record.specs.Organisation as MainOrganisation
use Rattle.file_fault.specs.Fields.{Field, field, fault_in, unread, one_of, key_fault}
use Rattle.file_fault.specs.Table.{double_fault}

-- "Locality Key 6, Filler 30, Filler 15, Post Town 30, Dependent Locality 35, Double Dependent Locality 35"
abbrev pub locality_record : List ℕ → List Field
locality_record rec =
    field 6 key_fault
    ∷ field 45 unread
    ∷ field 30 filled_fault
    ∷ field 35 text_fault
    ∷ field 35 (double_fault (part rec MainLocality.dependent MainLocality.double))
    ∷ []

unfoldable pub main_locality_fault : List ℕ → ℕ
main_locality_fault rec = fault_in 0 (locality_record rec) rec

-- a key of so many digits and a text of so many bytes: thoroughfare 8 and 60, descriptor 4 and 20, building 8 and 50, sub
-- building 8 and 30; the abbreviation is "not read"
unfoldable pub main_text_fault : (digits bytes : ℕ) → List ℕ → ℕ
main_text_fault digits bytes rec = fault_in 0 (field digits key_fault ∷ field bytes filled_fault ∷ []) rec

-- "an organisation of type S needs a name"; "a large user's name may be" blank
abbrev pub name_fault : (type : ℕ) → List ℕ → ℕ
name_fault type name = cond (eqb type 83) (filled_fault name) (text_fault name)

-- "Organisation Key 8, Postcode Type 1, Organisation Name 60, Department Name 60"
abbrev pub organisation_record : List ℕ → List Field
organisation_record rec =
    field 8 key_fault
    ∷ field 1 (one_of (83 ∷ 76 ∷ []))
    ∷ field 60 (name_fault (get_or rec MainOrganisation.type 0))
    ∷ field 60 text_fault
    ∷ []

unfoldable pub main_organisation_fault : List ℕ → ℕ
main_organisation_fault rec = fault_in 0 (organisation_record rec) rec

-- "Outward Code 4, Inward Code 3, Address Key 8, Locality Key 6, Thoroughfare Key 8, Thoroughfare Descriptor Key 4, Dependent
-- Thoroughfare Key 8, Dependent Thoroughfare Descriptor Key 4, Building Number 4, Building Name Key 8, Sub Building Name Key 8,
-- Number of Households 4, Organisation Key 8, Postcode Type 1, Concatenation Indicator 1, Delivery Point Suffix 2, Small User
-- Organisation Indicator 1, PO Box Number 6"
abbrev pub address_record : List Field
address_record =
    field 4 outward_fault
    ∷ field 3 inward_fault
    ∷ field 8 digits_fault
    ∷ field 6 digits_fault
    ∷ field 8 digits_fault
    ∷ field 4 digits_fault
    ∷ field 8 digits_fault
    ∷ field 4 digits_fault
    ∷ field 4 digits_fault
    ∷ field 8 digits_fault
    ∷ field 8 digits_fault
    ∷ field 4 digits_fault
    ∷ field 8 digits_fault
    ∷ field 1 (one_of (83 ∷ 76 ∷ []))
    ∷ field 1 (one_of (89 ∷ 32 ∷ []))
    ∷ field 2 suffix_fault
    ∷ field 1 (one_of (89 ∷ 32 ∷ []))
    ∷ field 6 text_fault
    ∷ []

unfoldable pub main_address_fault : List ℕ → ℕ
main_address_fault rec = fault_in 0 address_record rec
