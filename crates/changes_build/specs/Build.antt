-- The pack of a code from a pair of files.
-- Assumes nothing.
use Rattle.std.specs.Prelude.{ℕ, List}
use Rattle.changes_source.specs.Rows.{table_lookup}
use Rattle.pack.specs.Layout.{pack_of}
use Rattle.changes_pair.specs.Live.{live_in}

abbrev pub live_pack : (table points code : List ℕ) → List ℕ
live_pack table points code = pack_of (table_lookup table) (live_in points code) code
