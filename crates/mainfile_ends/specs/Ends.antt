-- Header and trailer of the Mainfile's files, "including header and trailer" in the count.
-- Assumes nothing.
use Rattle.std.specs.Prelude.{ℕ, ◌+◌, Bool, not, ◌&&◌, List, eqb}
use Rattle.field.specs.Test.{only}
use Rattle.field.specs.Digits.{digits_fault, value}
use Rattle.field.specs.Text.{part}
use Rattle.file_compare.specs.Order.{same}
use Rattle.file_ends.specs.Ends.{identifier}

-- the eight bytes of a file's name from a place on; the number of records in eight digits from a place on
abbrev pub named_at : ℕ → (name rec : List ℕ) → Bool
named_at at name rec = same (part rec at (at + 8)) name

abbrev pub counted_at : (at n : ℕ) → List ℕ → Bool
counted_at at n rec = eqb (digits_fault (part rec at (at + 8))) 0 && eqb (value (part rec at (at + 8))) n

-- eight digits from a place on, all of them the same, and behind them the name or the count
unfoldable pub zeros_named : ℕ → (name rec : List ℕ) → Bool
zeros_named at name rec = only 48 (part rec at (at + 8)) && named_at (at + 8) name rec

unfoldable pub nines_counted : (at n : ℕ) → List ℕ → Bool
nines_counted at n rec = only 57 (part rec at (at + 8)) && counted_at (at + 8) n rec

-- files 1 to 6: "Record Identifier = zeroes", "Record Identifier = 99999999"
abbrev pub main_header_ok : (name rec : List ℕ) → Bool
main_header_ok = zeros_named 0

abbrev pub main_trailer_ok : ℕ → List ℕ → Bool
main_trailer_ok = nines_counted 0

-- the address file: "Postcode = Low values (except for CD-Rom where Postcode = Spaces)", "Address Key = zeroes"; "Postcode =
-- High values (except for CD-Rom where Postcode = Spaces)", "Address Key = 99999999"
unfoldable pub address_header_ok : (name rec : List ℕ) → Bool
address_header_ok name rec = not (eqb (identifier 0 (part rec 0 7)) 0) && zeros_named 7 name rec

unfoldable pub address_trailer_ok : ℕ → List ℕ → Bool
address_trailer_ok n rec = not (eqb (identifier 255 (part rec 0 7)) 0) && nines_counted 7 n rec
