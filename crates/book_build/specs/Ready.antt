-- What a builder knows as it goes: book and table file are judged, then the delivery points are chosen.
-- Assumes nothing.
use Rattle.std.specs.Prelude.{ℕ, ◌≡◌, true, List}
use Rattle.field_outward.specs.Outward.{outward_fault}
use Rattle.file.specs.Formats.{table_format}
use Rattle.file.specs.Accepted.{Accepted}
use Rattle.pack.specs.Layout.{pack_of}
use Rattle.changes_source.specs.Rows.{table_lookup}
use Rattle.changes_whole.specs.Marked.{Packable}
use Rattle.book.specs.Book.{is_book}
use Rattle.book_source.specs.Starts.{addresses_at}
use Rattle.book_build.specs.Chosen.{packed_all, Chosen}

-- book and table file are accepted and the code is well formed
pub record Judged (book table code : List ℕ) : Type 0 where
  pub of_book : is_book book ≡ true
  pub of_table : Accepted table_format table
  pub of_code : outward_fault code ≡ 0

-- the chosen may be packed
pub record MayPack (table book chosen code : List ℕ) : Type 0 where
  pub of_chosen : Chosen book chosen
  pub packable : Packable table book (packed_all book chosen) (addresses_at book chosen) code

abbrev pub chosen_pack : (table book chosen code : List ℕ) → List ℕ
chosen_pack table book chosen code = pack_of (table_lookup table) (addresses_at book chosen) code
