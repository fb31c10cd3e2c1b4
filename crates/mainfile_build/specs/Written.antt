-- What a builder writes, by the bits l, t, d, b, s of the marked localities, thoroughfares, descriptors, buildings and sub
-- buildings.
-- Assumes nothing.
use Rattle.std.specs.Prelude.{ℕ, List}
use Rattle.build.specs.Plan.{rows_of, organisation_rows}
use Rattle.build.specs.Placed.{starts_of}
use Rattle.build.specs.Bytes.{offsets_for, points_in, pack_in}
use Rattle.mainfile.specs.Set.{Set}
use Rattle.mainfile.specs.Rows.{set_stock}
use Rattle.mainfile_meaning.specs.Elements.{point_at}
use Rattle.mainfile_mark.specs.Marks.{set_marks}
use Rattle.mainfile_mark.specs.Packed.{packed_in}

-- the starts of the marked rows, as a list that is not kept
abbrev pub set_starts : Set → (l t d b s : List ℕ) → List ℕ
set_starts set l t d b s = starts_of (set_stock set) (set_marks set l t d b s)

-- the offsets of the rows of an address record
abbrev pub set_offsets : Set → (l t d b s : List ℕ) → (i : ℕ) → List ℕ
set_offsets set l t d b s i =
    offsets_for (set_starts set l t d b s) (point_at set i).keys (rows_of (set_stock set) (point_at set i))

-- the organisations' rows of the addresses of a code
abbrev pub set_organisations : Set → (code : List ℕ) → List ℕ
set_organisations set code = organisation_rows set.organisations (packed_in set code)

-- the points of the addresses of a code, the organisations' rows standing from `start` on
abbrev pub set_points : Set → (code l t d b s : List ℕ) → (start : ℕ) → List ℕ
set_points set code l t d b s start =
    points_in (set_stock set) set.addresses set.organisations (set_starts set l t d b s) start (packed_in set code)

-- the whole pack
abbrev pub set_written : Set → (code l t d b s : List ℕ) → List ℕ
set_written set code l t d b s =
    pack_in (set_stock set) set.addresses set.organisations (set_starts set l t d b s) (packed_in set code) code
