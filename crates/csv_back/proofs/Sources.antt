-- A pair of Changes files and a Mainfile set are sources whose views are sound, so that their rows are read back.
-- Assumes nothing.
use Prim.Native.Nat.{ℕ}
use mathlib.Core.List.{List}
use Rattle.refusal.proofs.Outcomes.{both_values}
use Rattle.file.specs.Check.{checked}
use Rattle.file.specs.Formats.{table_format, point_format}
use Rattle.file.proofs.Accepted.{accepted}
use Rattle.changes_source.specs.Rows.{table_lookup}
use Rattle.changes_source.specs.Addresses.{addresses_in}
use Rattle.changes_pair.specs.Pair.{pair_of}
use Rattle.changes_sound.proofs.Rows.{rows-sound}
use Rattle.changes_sound.proofs.Addresses.{views-fields}
use Rattle.mainfile.specs.Set.{Set}
use Rattle.mainfile.specs.Rows.{set_lookup}
use Rattle.mainfile.specs.Addresses as Main
use Rattle.mainfile.specs.Main.{main_of}
use Rattle.mainfile_check.proofs.Laws.{set-accepted}
use Rattle.mainfile_sound.proofs.Rows as MainRows
use Rattle.mainfile_sound.proofs.Addresses as MainViews
use Rattle.csv_back.specs.Back.{ViewsSound, ViewBack, RunBack}
use Rattle.csv_back.proofs.Resolved.{views-sound}
use Rattle.csv_back.proofs.Views.{view-back, rows_back}

module _ (table points : List ℕ) where
  pub pair-views : ViewsSound (pair_of table points)
  pair-views n taken =
      let both = both_values (checked table_format table) (checked point_format points) taken in
      let t = accepted table_format table both.first-number both.first_is in
      let p = accepted point_format points both.second-number both.second_is in
      views-sound (table_lookup table) (rows-sound table t) (addresses_in points) (views-fields points p)

  pub pair-row-back : ViewBack (pair_of table points)
  pair-row-back = view-back (pair_of table points) pair-views

  pub pair-rows-back : RunBack (pair_of table points)
  pair-rows-back = rows_back (pair_of table points) pair-views

module _ (s : Set) where
  pub set-views : ViewsSound (main_of s)
  set-views n taken =
      let ok = set-accepted s taken in
      views-sound (set_lookup s) (MainRows.rows-sound s ok.rows) (Main.addresses_in s) (MainViews.views-fields s ok)

  pub set-row-back : ViewBack (main_of s)
  set-row-back = view-back (main_of s) set-views

  pub set-rows-back : RunBack (main_of s)
  set-rows-back = rows_back (main_of s) set-views
