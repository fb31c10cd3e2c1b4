-- The source that a pair of files is.
-- Assumes nothing.
use Rattle.std.specs.Prelude.{ℕ, List}
use Rattle.refusal.specs.Outcome.{after}
use Rattle.file.specs.Check.{checked}
use Rattle.file.specs.Formats.{table_format, point_format}
use Rattle.ask.specs.Source.{Source}
use Rattle.item.specs.Lines.{view_line}
use Rattle.changes_source.specs.Rows.{table_lookup}
use Rattle.changes_source.specs.Addresses.{addresses_in, kept}

-- "table file, point file"; "A view is a type 1 record of the point file, numbered from 1 in file order. It is live if its
-- amendment letter is I or C."; "the line `view N L` (N the view's number in the file)"
abbrev pub pair_of : (table points : List ℕ) → Source
pair_of table points =
    record {
      judged = after (checked table_format table) (checked point_format points);
      look = table_lookup table;
      views = addresses_in points;
      live = kept (addresses_in points);
      heading = λ a. view_line a.view a.letter;
    }
