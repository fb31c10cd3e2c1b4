-- Laws of building from a pair of files: the views of a code may be packed, what the code has counted is the length of the pack, and
-- what it writes is the pack.
-- Assumes nothing.
use Prim.Native.Nat.{ℕ, ◌+◌, ◌*◌}
use mathlib.Core.Path.{◌≡◌, sym}
use mathlib.Core.List.{List}
use lib.ListN.{length}
use Rattle.field_outward.specs.Outward.{outward_fault}
use Rattle.changes_views.specs.Views.{wanted_in, wanted_count}
use Rattle.changes_source.specs.Rows.{table_stock}
use Rattle.pack.specs.Names.{newest, point_width, trailer_width}
use Rattle.changes_pair.specs.Live.{live_in}
use Rattle.changes_pair.specs.Pair.{pair_of}
use Rattle.changes_sound.proofs.Size.{pack-small}
use Rattle.build.specs.Plan.{organisation_rows}
use Rattle.build.specs.Rows.{all_bytes}
use Rattle.build.specs.Placed.{Placed}
use Rattle.build.specs.Bytes.{pack_in}
use Rattle.changes_whole.specs.Marked.{Packable, MarksAll}
use Rattle.changes_whole.specs.Marked as any
use Rattle.changes_whole.proofs.Whole as laws
use Rattle.changes_label.proofs.Laws.{table-accepted, points-accepted}
use Rattle.changes_build.specs.Views.{packed_in, MarksViews}
use Rattle.changes_build.specs.Build.{live_pack}
use Rattle.changes_build.specs.Ready.{Judged, Marked}
use Rattle.changes_build.proofs.Packed.{packed-length}
use Rattle.changes_build.proofs.Said.{all_say, all-within, numbers-rise}
use Rattle.std.specs.Prelude.{Ok}
use Rattle.refusal.specs.Verdict.{Verdict}

pub count-of : (code points : List ℕ) → wanted_count code points ≡ length (packed_in points code)
unfolding wanted_count
count-of code points = sym (packed-length points (wanted_in code points))

pub packable : (table points code : List ℕ) → Judged table points code
    → Packable table points (packed_in points code) (live_in points code) code
packable table points code j =
    record {
      of_table = j.of_table;
      of_code = j.of_code;
      said = all_say points code j.of_code;
      within = all-within points code;
      rising = numbers-rise points code j.of_points;
      small = pack-small table points code j.of_points j.of_code;
    }

-- what marking leaves and which rows are marked: of a pair of files, and of its packed views as of any delivery points
module _ {table points code : List ℕ} where
  pub marks-whole : {marks marked : List ℕ} {v : Verdict} → MarksViews table points code marks v marked
      → MarksAll table (packed_in points code) marks v marked
  marks-whole m = record { said = m.said; marks_all = m.marks_all }

  pub marked-whole : {marks : List ℕ} → Marked table points code marks → any.Marked table (packed_in points code) marks
  marked-whole m =
      record { none_refused = m.none_refused; fresh = m.fresh; no_marks = m.no_marks; long = m.long; marked = m.marked }

  pub marked-pair : {marks : List ℕ} → Judged table points code → any.Marked table (packed_in points code) marks
      → Marked table points code marks
  marked-pair j m =
      record {
        judged = j;
        none_refused = m.none_refused;
        fresh = m.fresh;
        no_marks = m.no_marks;
        long = m.long;
        marked = m.marked;
      }

-- a builder that has placed its rows
module _ (table points code marks starts : List ℕ) (m : Marked table points code marks)
    (p : Placed (table_stock table) marks starts) where
  pub written : pack_in (table_stock table) points points starts (packed_in points code) code ≡ live_pack table points code
  written = laws.written (packable table points code m.judged) (marked-whole m) p

  pub counted : length (live_pack table points code)
      ≡ all_bytes (table_stock table) marks + length (organisation_rows points (packed_in points code))
      + point_width newest * length (packed_in points code) + trailer_width newest
  counted = laws.counted (packable table points code m.judged) (marked-whole m) p

-- where both files are accepted
pub judged : (table points code : List ℕ) {n : ℕ} → (pair_of table points).judged ≡ Ok n → outward_fault code ≡ 0
    → Judged table points code
judged table points code taken clean =
    record {
      of_table = table-accepted table points taken;
      of_points = points-accepted table points taken;
      of_code = clean;
    }
