-- The seven formats of a Mainfile set: "Files are extracts with at most 1,000,000 records each"; "Refusals: 1 to 5 under the
-- new limit (5 by chapter 5's sequence), behind the file's number, 1 to 7 as listed".
-- Assumes nothing.
use Rattle.std.specs.Prelude.{ℕ, Bool, true, List, [], ◌∷◌, ◌++◌}
use Rattle.field.specs.Text.{part}
use Rattle.mainfile_record.specs.Locality as MainLocality
use Rattle.mainfile_record.specs.Text as MainText
use Rattle.mainfile_record.specs.Organisation as MainOrganisation
use Rattle.mainfile_record.specs.Address as MainAddress
use Rattle.mainfile_ends.specs.Ends.{main_header_ok, main_trailer_ok, address_header_ok, address_trailer_ok}
use Rattle.mainfile_fault.specs.Faults.{main_locality_fault, main_text_fault, main_organisation_fault, main_address_fault}
use Rattle.file.specs.Check.{Format}
use Rattle.file.specs.declared.MainKind.{MainKind}
use Rattle.file.specs.declared.MainKind.TheVariants.{
  Localities,
  Thoroughfares,
  Descriptors,
  Buildings,
  SubBuildings,
  Organisations,
  Addresses,
}

abbrev pub main_limit : ℕ
main_limit = 1_000_000

-- "6 doesn't occur": any record may stand beside any other
abbrev pub anywhere : List ℕ → List ℕ → List ℕ → Bool
anywhere before rec next = true

-- files 1 to 6: a name in the header, what the sequence compares, and the test of a record
abbrev pub main_file : (file width : ℕ) → (name : List ℕ) → (sequence : List ℕ → List ℕ) → (fault : List ℕ → ℕ) → Format
main_file file width name sequence fault =
    record {
      file = file;
      width = width;
      limit = main_limit;
      headed = main_header_ok name;
      ended = main_trailer_ok;
      sequence = sequence;
      fault = fault;
      between = anywhere;
    }

-- `LOCALITY`: "ascending sequence by Locality Key"
abbrev pub localities : Format
localities =
    main_file 1 MainLocality.width (76 ∷ 79 ∷ 67 ∷ 65 ∷ 76 ∷ 73 ∷ 84 ∷ 89 ∷ [])
    (λ rec. part rec MainLocality.key MainLocality.key_end) main_locality_fault

-- a file of one text: "ascending sequence by" its key, behind which the text begins
abbrev pub text_file : (file width text bytes : ℕ) → (name : List ℕ) → Format
text_file file width text bytes name =
    main_file file width name (λ rec. part rec MainText.key text) (main_text_fault text bytes)

-- `THOROUGH`, `THDESCRI`, `BUILDING`, `SUBBUILD`
abbrev pub thoroughfares : Format
thoroughfares =
    text_file 2 MainText.thoroughfare_width MainText.text 60 (84 ∷ 72 ∷ 79 ∷ 82 ∷ 79 ∷ 85 ∷ 71 ∷ 72 ∷ [])

abbrev pub descriptors : Format
descriptors =
    text_file 3 MainText.descriptor_width MainText.descriptor_text 20 (84 ∷ 72 ∷ 68 ∷ 69 ∷ 83 ∷ 67 ∷ 82 ∷ 73 ∷ [])

abbrev pub buildings : Format
buildings = text_file 4 MainText.building_width MainText.text 50 (66 ∷ 85 ∷ 73 ∷ 76 ∷ 68 ∷ 73 ∷ 78 ∷ 71 ∷ [])

abbrev pub sub_buildings : Format
sub_buildings = text_file 5 MainText.sub_building_width MainText.text 30 (83 ∷ 85 ∷ 66 ∷ 66 ∷ 85 ∷ 73 ∷ 76 ∷ 68 ∷ [])

-- `ORGANISA`: "ascending sequence of Postcode type followed by Organisation Key"
abbrev pub organisations : Format
organisations =
    main_file 6 MainOrganisation.width (79 ∷ 82 ∷ 71 ∷ 65 ∷ 78 ∷ 73 ∷ 83 ∷ 65 ∷ [])
    (λ rec. part rec MainOrganisation.type MainOrganisation.name ++ part rec MainOrganisation.key MainOrganisation.type)
    main_organisation_fault

-- `ADDRESS `: "ascending sequence by Postcode/Address Key/Organisation Key"
abbrev pub addresses : Format
addresses =
    record {
      file = 7;
      width = MainAddress.width;
      limit = main_limit;
      headed = address_header_ok (65 ∷ 68 ∷ 68 ∷ 82 ∷ 69 ∷ 83 ∷ 83 ∷ 32 ∷ []);
      ended = address_trailer_ok;
      sequence =
          λ rec.
          part rec MainAddress.outward MainAddress.locality
          ++ part rec MainAddress.organisation_key MainAddress.postcode_type;
      fault = main_address_fault;
      between = anywhere;
    }

-- the format of each file of a set
abbrev pub main_format : MainKind → Format
main_format Localities = localities
main_format Thoroughfares = thoroughfares
main_format Descriptors = descriptors
main_format Buildings = buildings
main_format SubBuildings = sub_buildings
main_format Organisations = organisations
main_format Addresses = addresses
