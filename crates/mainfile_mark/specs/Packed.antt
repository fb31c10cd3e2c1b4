-- The addresses of a stretch of records, as they are packed.
-- Assumes nothing.
use Rattle.std.specs.Prelude.{ℕ, zero, suc, ◌≡◌, List, [], ◌∷◌}
use Rattle.source.specs.Delivery.{refusal_in}
use Rattle.build.specs.Plan.{Packed, rows_of, first_refused, mark_rows, mark_all}
use Rattle.mainfile.specs.Set.{Set}
use Rattle.mainfile.specs.Rows.{set_stock}
use Rattle.mainfile.specs.Accepted.{AcceptedSet}
use Rattle.mainfile_source.specs.Delivery.{delivery_at}
use Rattle.mainfile_meaning.specs.Elements.{point_at}
use Rattle.mainfile_views.specs.Range.{first_in, many_in}
use Rattle.mainfile_mark.specs.Marks.{BitsFor}
use Rattle.refusal.specs.Verdict.{Verdict, fine}

-- "A view is an address record, numbered from 1 in file order": record i, which has the number i
abbrev pub packed_at : (addresses organisations : List ℕ) → ℕ → Packed
packed_at addresses organisations i = record { view = i; point = delivery_at addresses organisations i }

-- so many records from one on
abbrev pub packed_by : (addresses organisations : List ℕ) → (first many : ℕ) → List Packed
packed_by addresses organisations first zero = []
packed_by addresses organisations first (suc k) =
    packed_at addresses organisations first ∷ packed_by addresses organisations (suc first) k

-- those of a set
abbrev pub packed_from : Set → (first many : ℕ) → List Packed
packed_from s first many = packed_by s.addresses s.organisations first many

-- "the live views of that outward code in file order"
abbrev pub packed_in : Set → (code : List ℕ) → List Packed
packed_in s code = packed_from s (first_in s.addresses code) (many_in s.addresses code)

-- what marking rests on: accepted files, and a bit for each row
pub record Markable (s : Set) (localities thoroughfares descriptors buildings sub_buildings : List ℕ) : Type 0 where
  pub accepted : AcceptedSet s
  pub bits : BitsFor s localities thoroughfares descriptors buildings sub_buildings

-- what marking says of record i, and the marks that it leaves: those of its rows too, where it is not refused
pub record MarksAddress (s : Set) (i : ℕ) (marks : List ℕ) (v : Verdict) (marked : List ℕ) : Type 0 where
  pub said : v ≡ refusal_in (point_at s i) (rows_of (set_stock s) (point_at s i))
  pub marks_rows : v ≡ fine → marked ≡ mark_rows (rows_of (set_stock s) (point_at s i)) marks

-- the same of so many records from one on: the refusal "of the first live view in that code that has one", and the marks of
-- all their rows, where none is refused
pub record MarksAddresses (s : Set) (first many : ℕ) (marks : List ℕ) (v : Verdict) (marked : List ℕ) : Type 0 where
  pub said : v ≡ first_refused (set_stock s) (packed_from s first many)
  pub marks_all : v ≡ fine → marked ≡ mark_all (set_stock s) (packed_from s first many) marks
