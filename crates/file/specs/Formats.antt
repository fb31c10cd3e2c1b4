-- The two formats of document 01: the table file (Changes1) and the point file (Changes2).
-- Assumes nothing.
use Rattle.std.specs.Prelude.{ℕ, ◌+◌, ◌-◌, Bool, true, cond, not, ◌&&◌, ◌||◌, List, [], ◌∷◌, eqb, get_or}
use Rattle.field.specs.Digits.{value}
use Rattle.field.specs.Text.{part}
use Rattle.file_record.specs.Parts.{record_at}
use Rattle.file_record.specs.Names.Table
use Rattle.file_record.specs.Names.Point
use Rattle.file_compare.specs.Order.{same}
use Rattle.file_ends.specs.Ends.{header_ok, trailer_ok}
use Rattle.file_fault.specs.Table.{table_fault}
use Rattle.file_fault.specs.Point.{point_fault}
use Rattle.file.specs.Check.{Format}
use Rattle.file.specs.declared.Kind.{Kind}
use Rattle.file.specs.declared.Kind.TheVariants.{Table, Points, Main}
use Rattle.file.specs.Mainfile.{main_format}

-- `CHANGES` and a digit
abbrev pub changes : ℕ → List ℕ
changes digit = 67 ∷ 72 ∷ 65 ∷ 78 ∷ 71 ∷ 69 ∷ 83 ∷ digit ∷ []

-- "Table file, 169 bytes a record. Header: identifier 9"; "Sequence in the table file is to be over the first 24 bytes
-- (type, key, date, time, letter), still strictly rising"
abbrev pub table_format : Format
table_format =
    record {
      file = 1;
      width = Table.width;
      limit = 20_000;
      headed = header_ok Table.identifier (changes 49);
      ended = trailer_ok Table.identifier;
      sequence = λ rec. part rec 0 Table.text;
      fault = table_fault;
      between = λ before rec next. true;
    }

-- "S with an organisation key above zero needs a type 2 next; L needs a type 3 next .. S with key zero has none": the type
-- that a record needs next, 0 where it needs none
unfoldable pub needed : List ℕ → ℕ
needed rec =
    cond (eqb (get_or rec Point.type 0) 49)
    (cond (eqb (get_or rec Point.postcode_type 0) 76)
    51
    (cond (eqb (value (part rec Point.organisation_key Point.letter)) 0) 0 50))
    0

-- "each has its owner's first 41 bytes"
unfoldable pub follows : List ℕ → List ℕ → Bool
follows owner rec =
    not (eqb (needed owner) 0)
    && (eqb (get_or rec Point.type 0) (needed owner) && same (part rec 0 Point.type) (part owner 0 Point.type))

-- "Refusal 6 names the type 1 that lacks its follower .. or the stray type 2 or 3". No header or trailer is an owner or a
-- follower: a record begins with the digits of its date, and an identifier has none.
unfoldable pub placed : List ℕ → List ℕ → List ℕ → Bool
placed before rec next =
    cond (eqb (get_or rec Point.type 0) 49) (eqb (needed rec) 0 || follows rec next) (follows before rec)

-- the same of record i of a point file
abbrev pub placed_at : List ℕ → ℕ → Bool
placed_at file i =
    placed (record_at Point.width file (i - 1)) (record_at Point.width file i) (record_at Point.width file (i + 1))

-- "Point file, 168 bytes a record. Header: identifier 14"; "the first 42 in the point file"
abbrev pub point_format : Format
point_format =
    record {
      file = 2;
      width = Point.width;
      limit = 20_000;
      headed = header_ok Point.identifier (changes 50);
      ended = trailer_ok Point.identifier;
      sequence = λ rec. part rec 0 Point.rest;
      fault = point_fault;
      between = placed;
    }

-- the format of each kind of file
abbrev pub format_of : Kind → Format
format_of Table = table_format
format_of Points = point_format
format_of (Main file) = main_format file
