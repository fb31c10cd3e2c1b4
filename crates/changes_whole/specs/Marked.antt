-- What a builder knows as it goes, whose rows are a table file's and whose delivery points stand in one slice of texts: what may be
-- packed, then that no delivery point is refused and the rows are marked.
-- Assumes nothing.
use Rattle.std.specs.Prelude.{ℕ, ◌<◌, ◌≡◌, List, length, get_or}
use Rattle.field_outward.specs.Outward.{outward_fault}
use Rattle.file.specs.Formats.{table_format}
use Rattle.file.specs.Accepted.{Accepted}
use Rattle.source.specs.Address.{Address}
use Rattle.pack.specs.Layout.{pack_of}
use Rattle.changes_source.specs.Rows.{table_stock, table_lookup}
use Rattle.build.specs.Plan.{Packed, first_refused, mark_all}
use Rattle.build_exact.specs.Started.{AllSay, Rising}
use Rattle.build_exact.specs.Within.{AllWithin}
use Rattle.refusal.specs.Verdict.{Verdict, fine}

-- an accepted table file, a well formed code, and delivery points that say these addresses
pub record Packable (table texts : List ℕ) (ds : List Packed) (as' : List Address) (code : List ℕ) : Type 0 where
  pub of_table : Accepted table_format table
  pub of_code : outward_fault code ≡ 0
  pub said : AllSay texts texts ds as'
  pub within : AllWithin texts ds
  pub rising : Rising 0 ds
  -- an offset is told from an absent one
  pub small : length (pack_of (table_lookup table) as' code) < 4_294_967_295

-- what marking says, and the marks that it leaves: all that these refer to, where none is refused
pub record MarksAll (table : List ℕ) (ds : List Packed) (marks : List ℕ) (v : Verdict) (marked : List ℕ) : Type 0 where
  pub said : v ≡ first_refused (table_stock table) ds
  pub marks_all : v ≡ fine → marked ≡ mark_all (table_stock table) ds marks

-- none is refused, and the rows that they refer to are marked, from none
pub record Marked (table : List ℕ) (ds : List Packed) (marks : List ℕ) : Type 0 where
  pub none_refused : first_refused (table_stock table) ds ≡ fine
  pub fresh : List ℕ
  pub no_marks : (i : ℕ) → get_or fresh i 0 ≡ 0
  pub long : length fresh ≡ 20_000
  pub marked : marks ≡ mark_all (table_stock table) ds fresh
