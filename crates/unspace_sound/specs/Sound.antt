-- What rewriting keeps: the reader accepts "its output exactly when" it accepts "its input, with the same labels" (document 02,
-- No. 9), for every byte string.
-- Assumes nothing.
use Rattle.std.specs.Prelude.{ℕ, ◌≡◌, List, length, get_or}
use Rattle.file_record.specs.Names.Table
use Rattle.file_record.specs.Names.Point
use Rattle.file.specs.Check.{checked}
use Rattle.file.specs.Formats.{table_format, point_format}
use Rattle.ask.specs.Source.{Source}
use Rattle.ask.specs.Labels.{view_label, code_label}
use Rattle.ask.specs.Runs.{views_run, code_run}
use Rattle.ask.specs.Lists.{views_list, code_list}
use Rattle.csv_paf.specs.Row.{view_row, view_rows}
use Rattle.pack.specs.Cutting.{pack_built}
use Rattle.changes_list.specs.Listing.{views_answer, letter_answer, live_answer}
use Rattle.changes_pair.specs.Pair.{pair_of}
use Rattle.changes_codes.specs.Codes.{codes_outcome}
use Rattle.unspace_file.specs.Unspaced.{unspaced, unspaced_count, Outside}

-- the rewritten files
abbrev pub new_table : List ℕ → List ℕ
new_table table = unspaced Table.width Table.identifier table

abbrev pub new_points : List ℕ → List ℕ
new_points points = unspaced Point.width Point.identifier points

-- what two sources answer is the same, and so is the whole lent buffer
pub record SameAnswers (new old : Source) : Type 0 where
  pub labels : (view : ℕ) (out : List ℕ) → view_label new view out ≡ view_label old view out
  pub code_labels : (code : List ℕ) (k : ℕ) (out : List ℕ) → code_label new code k out ≡ code_label old code k out
  pub runs : (first count : ℕ) (out : List ℕ) → views_run new first count out ≡ views_run old first count out
  pub code_runs : (code : List ℕ) (first count : ℕ) (out : List ℕ)
      → code_run new code first count out ≡ code_run old code first count out
  pub lists : (first count : ℕ) (out : List ℕ) → views_list new first count out ≡ views_list old first count out
  pub code_lists : (code : List ℕ) (first count : ℕ) (out : List ℕ)
      → code_list new code first count out ≡ code_list old code first count out
  pub rows : (view : ℕ) (out : List ℕ) → view_row new view out ≡ view_row old view out
  pub row_runs : (first count : ℕ) (out : List ℕ) → view_rows new first count out ≡ view_rows old first count out
  pub packs : (code out : List ℕ) → pack_built new code out ≡ pack_built old code out

-- what is asked of a point file alone is the same of the rewritten one: its refusal, or what is listed
pub record SameLists (points : List ℕ) : Type 0 where
  pub views : views_answer (new_points points) ≡ views_answer points
  pub letters : (view : ℕ) → letter_answer (new_points points) view ≡ letter_answer points view
  pub live : (code : List ℕ) → live_answer (new_points points) code ≡ live_answer points code
  pub codes : (out : List ℕ) → codes_outcome (new_points points) out ≡ codes_outcome points out

pub record Sound (table points : List ℕ) : Type 0 where
  -- how many records, or the first refusal with its details
  pub of_table : checked table_format (new_table table) ≡ checked table_format table
  pub of_points : checked point_format (new_points points) ≡ checked point_format points
  -- the pair is the same source, so that whatever is asked of it is answered the same
  pub of_pair : pair_of (new_table table) (new_points points) ≡ pair_of table points
  pub answers : SameAnswers (pair_of (new_table table) (new_points points)) (pair_of table points)
  pub listed : SameLists points
  -- a rewritten file is as long, has the same bytes but for the two identifiers, and no identifier of spaces; it is not rewritten
  -- again
  pub table_length : length (new_table table) ≡ length table
  pub points_length : length (new_points points) ≡ length points
  pub table_bytes : (i : ℕ) → Outside Table.width Table.identifier table i → get_or (new_table table) i 0 ≡ get_or table i 0
  pub points_bytes : (i : ℕ) → Outside Point.width Point.identifier points i → get_or (new_points points) i 0 ≡ get_or points i 0
  pub table_clean : unspaced_count Table.width Table.identifier (new_table table) ≡ 0
  pub points_clean : unspaced_count Point.width Point.identifier (new_points points) ≡ 0
  pub table_once : new_table (new_table table) ≡ new_table table
  pub points_once : new_points (new_points points) ≡ new_points points
