-- The reader accepts the output exactly when it accepts the input, with the same labels.
-- Assumes nothing.
use mathlib.Core.Path.{◌≡◌, ap, ap₂, ◌∙◌}
use mathlib.Core.List.{List}
use Prim.Native.Nat.{ℕ}
use lib.Dec.{lit≤}
use Rattle.file_record.specs.Names.Table
use Rattle.file_record.specs.Names.Point
use Rattle.refusal.specs.Outcome.{after}
use Rattle.file.specs.Check.{checked}
use Rattle.file.specs.Formats.{table_format, point_format}
use Rattle.source.specs.Address.{Lookup, Address}
use Rattle.item.specs.Lines.{view_line}
use Rattle.changes_source.specs.Addresses.{addresses_in, kept}
use Rattle.changes_source.specs.Rows.{table_lookup}
use Rattle.ask.specs.Source.{Source}
use Rattle.ask.specs.Labels.{view_label, code_label}
use Rattle.ask.specs.Runs.{views_run, code_run}
use Rattle.ask.specs.Lists.{views_list, code_list}
use Rattle.csv_paf.specs.Row.{view_row, view_rows}
use Rattle.pack.specs.Cutting.{pack_built}
use Rattle.changes_pair.specs.Pair.{pair_of}
use Rattle.unspace_file.proofs.Kept.{length-unspaced, unspaced-outside, unspaced-again, unspaced-clean}
use Rattle.unspace_sound.specs.Sound.{new_table, new_points, SameAnswers, Sound}
use Rattle.unspace_sound.proofs.Reader.{checked-kept}
use Rattle.unspace_sound.proofs.Formats.{table-identified, points-identified}
use Rattle.unspace_sound.proofs.Rows.{look-kept}
use Rattle.unspace_sound.proofs.Views.{views-kept}
use Rattle.unspace_sound.proofs.Listed.{lists-same}
use Rattle.refusal.specs.Answer.{Answer}

-- sources that are the same answer the same
same-answers : (new old : Source) → new ≡ old → SameAnswers new old
same-answers new old e =
    record {
      labels = λ view out. ap (λ (s : Source). view_label s view out) e;
      code_labels = λ code k out. ap (λ (s : Source). code_label s code k out) e;
      runs = λ first count out. ap (λ (s : Source). views_run s first count out) e;
      code_runs = λ code first count out. ap (λ (s : Source). code_run s code first count out) e;
      lists = λ first count out. ap (λ (s : Source). views_list s first count out) e;
      code_lists = λ code first count out. ap (λ (s : Source). code_list s code first count out) e;
      rows = λ view out. ap (λ (s : Source). view_row s view out) e;
      row_runs = λ first count out. ap (λ (s : Source). view_rows s first count out) e;
      packs = λ code out. ap (λ (s : Source). pack_built s code out) e;
    }

-- a pair by what it is made of
abbrev pair : Answer → Lookup → List Address → Source
pair judged look views =
    record { judged = judged; look = look; views = views; live = kept views; heading = λ a. view_line a.view a.letter }

module _ (table points : List ℕ) where
  table_kept : checked table_format (new_table table) ≡ checked table_format table
  table_kept = checked-kept table_format Table.identifier table-identified table

  points_kept : checked point_format (new_points points) ≡ checked point_format points
  points_kept = checked-kept point_format Point.identifier points-identified points

  pair-kept : pair_of (new_table table) (new_points points) ≡ pair_of table points
  pair-kept =
      ap₂ (λ (t p : Answer). pair (after t p) (table_lookup (new_table table)) (addresses_in (new_points points))) table_kept
      points_kept
      ∙ ap₂ (pair (after (checked table_format table) (checked point_format points))) (look-kept table) (views-kept points)

pub sound : (table points : List ℕ) → Sound table points
sound table points =
    record {
      of_table = table_kept table points;
      of_points = points_kept table points;
      of_pair = pair-kept table points;
      answers = same-answers (pair_of (new_table table) (new_points points)) (pair_of table points) (pair-kept table points);
      listed = lists-same points;
      table_length = length-unspaced Table.width Table.identifier table;
      points_length = length-unspaced Point.width Point.identifier points;
      table_bytes = unspaced-outside Table.width Table.identifier table;
      points_bytes = unspaced-outside Point.width Point.identifier points;
      table_clean = unspaced-clean Table.width Table.identifier (lit≤ tt) (lit≤ tt) table;
      points_clean = unspaced-clean Point.width Point.identifier (lit≤ tt) (lit≤ tt) points;
      table_once = unspaced-again Table.width Table.identifier (lit≤ tt) (lit≤ tt) table;
      points_once = unspaced-again Point.width Point.identifier (lit≤ tt) (lit≤ tt) points;
    }
