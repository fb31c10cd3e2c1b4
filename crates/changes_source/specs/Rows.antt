-- The rows of a table file, as a shelf, and which of them a key finds.
-- Assumes nothing.
use Rattle.std.specs.Prelude.{ℕ, List}
use Rattle.file_record.specs.Names.Table
use Rattle.file_record.specs.Names.Locality
use Rattle.source.specs.Address.{Lookup}
use Rattle.shelf.specs.declared.Shelf.{Shelf}
use Rattle.shelf.specs.Stock.{Stock, stock_of, look_in}

-- "Table file, 169 bytes a record .. type 1, key 8, date 8, time 6, letter 1, then by type": type and key are one number of
-- nine digits. "filler 45, post town 30, dependent locality 35, double dependent locality 35"; the other texts stand behind
-- the letter.
abbrev pub table_shelf : Shelf
table_shelf =
    record {
      width = Table.width;
      key = Table.type;
      digits = 9;
      base = 0;
      letter = Table.letter;
      locality = Locality.town;
      text = Table.text;
    }

abbrev pub table_stock : List ℕ → Stock
table_stock table = stock_of table_shelf table

-- what a kind and a key find: the texts of the row in force for them, none where none is in force
abbrev pub table_lookup : List ℕ → Lookup
table_lookup table = look_in (table_stock table)
