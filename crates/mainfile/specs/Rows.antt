-- The rows of a set: five files of texts, each a shelf, and the organisations.
-- Assumes nothing.
use Rattle.std.specs.Prelude.{ℕ, ◌*◌, ◌-◌, ◌/◌, Bool, cond, ◌&&◌, List, eqb, length, get_or}
use Rattle.field.specs.Digits.{value}
use Rattle.field.specs.Text.{part}
use Rattle.file_record.specs.Parts.{record_at}
use Rattle.mainfile_record.specs.Locality as MainLocality
use Rattle.mainfile_record.specs.Text as MainText
use Rattle.mainfile_record.specs.Organisation as MainOrganisation
use Rattle.source.specs.Address.{Lookup}
use Rattle.shelf.specs.declared.Shelf.{Shelf}
use Rattle.shelf.specs.Shelf.{last_from}
use Rattle.shelf.specs.Stock.{Stock, stock_of, joined, look_in}
use Rattle.mainfile.specs.Set.{Set}

-- a file of rows of one kind, whose key of so many digits stands first: the kind is added to the key. No row has a letter:
-- its place is behind the record.
abbrev pub row_shelf : (kind width digits locality text : ℕ) → Shelf
row_shelf kind width digits locality text =
    record {
      width = width;
      key = 0;
      digits = digits;
      base = kind * 100_000_000;
      letter = width;
      locality = locality;
      text = text;
    }

-- how the rows of each kind are read: 1 locality, 2 thoroughfare, 3 descriptor, 4 building name, 5 sub building name
abbrev pub shelf_of : ℕ → Shelf
shelf_of kind =
    cond (eqb kind 1) (row_shelf 1 MainLocality.width MainLocality.key_end MainLocality.town MainLocality.key_end)
    (cond (eqb kind 2) (row_shelf 2 MainText.thoroughfare_width MainText.text MainText.text MainText.text)
    (cond (eqb kind 3) (row_shelf 3 MainText.descriptor_width MainText.descriptor_text MainText.descriptor_text MainText.descriptor_text)
    (cond (eqb kind 4) (row_shelf 4 MainText.building_width MainText.text MainText.text MainText.text)
    (row_shelf 5 MainText.sub_building_width MainText.text MainText.text MainText.text))))

-- the file in which they stand
abbrev pub file_of : Set → ℕ → List ℕ
file_of s kind =
    cond (eqb kind 1) s.localities
    (cond (eqb kind 2) s.thoroughfares
    (cond (eqb kind 3) s.descriptors
    (cond (eqb kind 4) s.buildings
    s.sub_buildings)))

-- the rows of one kind
abbrev pub kind_stock : Set → ℕ → Stock
kind_stock s kind = stock_of (shelf_of kind) (file_of s kind)

-- all rows of a set, one file behind the other
unfoldable pub set_stock : Set → Stock
set_stock s =
    joined (kind_stock s 1) (joined (kind_stock s 2) (joined (kind_stock s 3) (joined (kind_stock s 4) (kind_stock s 5))))

-- what a kind and a key find: the texts of the row in force for them
abbrev pub set_lookup : Set → Lookup
set_lookup s = look_in (set_stock s)

-- "the Postcode Type (S or L) must also be used when accessing the Organisation file": whether record i has this type and
-- this key
abbrev pub organisation_is : (file : List ℕ) → (type key : ℕ) → ℕ → Bool
organisation_is file type key i =
    eqb (get_or (record_at MainOrganisation.width file i) MainOrganisation.type 0) type
    && eqb (value (part (record_at MainOrganisation.width file i) MainOrganisation.key MainOrganisation.type)) key

-- the last record that has; 0 where there is none
unfoldable pub organisation_row : (file : List ℕ) → (type key : ℕ) → ℕ
organisation_row file type key = last_from (organisation_is file type key) (length file / MainOrganisation.width - 2) 1
