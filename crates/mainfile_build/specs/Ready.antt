-- What a builder knows as it goes: the files are judged, the rows are marked, and each block of rows has its start.
-- Assumes nothing.
use Rattle.std.specs.Prelude.{ℕ, ◌≡◌, List, length, get_or}
use Rattle.field_outward.specs.Outward.{outward_fault}
use Rattle.build.specs.Plan.{first_refused, mark_all}
use Rattle.build.specs.Ready.{Ready}
use Rattle.mainfile.specs.Set.{Set}
use Rattle.mainfile.specs.Rows.{set_stock}
use Rattle.mainfile.specs.Accepted.{AcceptedSet}
use Rattle.mainfile_source.specs.Rows.{row_files}
use Rattle.mainfile_views.specs.Range.{first_in, many_in}
use Rattle.mainfile_mark.specs.Marks.{set_marks}
use Rattle.mainfile_mark.specs.Packed.{packed_in}
use Rattle.mainfile_place.specs.Blocks.{SetBlocks}
use Rattle.mainfile_build.specs.Written.{set_starts}
use Rattle.refusal.specs.Verdict.{fine}

-- the files are accepted and the code is well formed
pub record Judged (set : Set) (code : List ℕ) : Type 0 where
  pub of_set : AcceptedSet set
  pub of_code : outward_fault code ≡ 0

-- so many records from one on are those of the code
pub record Stretched (set : Set) (code : List ℕ) (first many : ℕ) : Type 0 where
  pub first_is : first ≡ first_in set.addresses code
  pub many_is : many ≡ many_in set.addresses code

-- no packed view is refused, and the rows that they refer to are marked, from none: by the bits l, t, d, b, s of localities,
-- thoroughfares, descriptors, buildings and sub buildings
pub record Marked (set : Set) (code l t d b s : List ℕ) : Type 0 where
  pub judged : Judged set code
  pub none_refused : first_refused (set_stock set) (packed_in set code) ≡ fine
  pub fresh : List ℕ
  pub no_marks : (i : ℕ) → get_or fresh i 0 ≡ 0
  pub long : length fresh ≡ (set_stock set).last
  pub marked : set_marks set l t d b s ≡ mark_all (set_stock set) (packed_in set code) fresh

-- and each block of rows has its start
pub record Placed (set : Set) (code l t d b s l' t' d' b' s' : List ℕ) (first many : ℕ) : Type 0 where
  pub marks : Marked set code l t d b s
  pub blocks : SetBlocks (row_files set.localities set.thoroughfares set.descriptors set.buildings
      set.sub_buildings) l t d b s l' t' d' b' s'
  pub stretch : Stretched set code first many

-- and the numbers are known, and that there is room
abbrev pub ReadyFor : Set → (code l t d b s : List ℕ) → (rows many : ℕ) → (out : List ℕ) → Type 0
ReadyFor set code l t d b s rows many out =
    Ready (set_stock set) set.addresses set.organisations (set_starts set l t d b s) (packed_in set code) code rows many out
