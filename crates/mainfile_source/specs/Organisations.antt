-- The search for an organisation by halves. Over any bytes; that it finds the last record of a type and a key is a law about
-- accepted files.
-- Assumes nothing.
use Rattle.std.specs.Prelude.{ℕ, ◌+◌, ◌-◌, ◌*◌, ◌/◌, List, length, get_or}
use Rattle.field.specs.Digits.{value}
use Rattle.field.specs.Text.{part}
use Rattle.file_record.specs.Parts.{record_at}
use Rattle.mainfile_record.specs.Organisation as Row
use Rattle.shelf.specs.Search.{last_found_in}

-- type and key as one number, so that a rising order is "of Postcode type followed by Organisation Key"
abbrev pub organisation_number : (type key : ℕ) → ℕ
organisation_number type key = type * 100_000_000 + key

-- that of record i
unfoldable pub number_at : (file : List ℕ) → ℕ → ℕ
number_at file i =
    organisation_number (get_or (record_at Row.width file i) Row.type 0)
    (value (part (record_at Row.width file i) Row.key Row.type))

-- the trailer's place
abbrev pub last_in : (file : List ℕ) → ℕ
last_in file = length file / Row.width - 1

-- the record that the search gives; 0 where there is none
unfoldable pub organisation_found : (file : List ℕ) → (type key : ℕ) → ℕ
organisation_found file type key = last_found_in (number_at file) (last_in file) (organisation_number type key)
