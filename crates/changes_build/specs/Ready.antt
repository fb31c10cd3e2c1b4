-- What a builder knows as it goes: the files are judged, then the rows are marked.
-- Assumes nothing.
use Rattle.std.specs.Prelude.{ℕ, ◌≡◌, List, length, get_or}
use Rattle.field_outward.specs.Outward.{outward_fault}
use Rattle.file.specs.Formats.{table_format, point_format}
use Rattle.file.specs.Accepted.{Accepted}
use Rattle.changes_source.specs.Rows.{table_stock}
use Rattle.build.specs.Plan.{first_refused, mark_all}
use Rattle.changes_build.specs.Views.{packed_in}
use Rattle.refusal.specs.Verdict.{fine}

-- both files are accepted and the code is well formed
pub record Judged (table points code : List ℕ) : Type 0 where
  pub of_table : Accepted table_format table
  pub of_points : Accepted point_format points
  pub of_code : outward_fault code ≡ 0

-- no packed view is refused, and the rows that they refer to are marked, from none
pub record Marked (table points code marks : List ℕ) : Type 0 where
  pub judged : Judged table points code
  pub none_refused : first_refused (table_stock table) (packed_in points code) ≡ fine
  pub fresh : List ℕ
  pub no_marks : (i : ℕ) → get_or fresh i 0 ≡ 0
  pub long : length fresh ≡ 20_000
  pub marked : marks ≡ mark_all (table_stock table) (packed_in points code) fresh
