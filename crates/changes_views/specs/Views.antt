-- Views, live views, and the live views of an outward code, as records of a point file counted from 0.
-- Assumes nothing.
use Rattle.std.specs.Prelude.{ℕ, zero, suc, ◌-◌, ◌/◌, Bool, true, false, cond, ◌&&◌, ◌||◌, List, [], ◌∷◌, eqb, length, get_or}
use Rattle.field.specs.Test.{elem}
use Rattle.field.specs.Text.{part}
use Rattle.file_record.specs.Parts.{record_at}
use Rattle.file_record.specs.Names.Point
use Rattle.file_compare.specs.Order.{same}

-- "A view is a type 1 record of the point file"
abbrev pub is_view : List ℕ → Bool
is_view rec = eqb (get_or rec Point.type 0) 49

-- "It is live if its amendment letter is I or C"
abbrev pub is_live : List ℕ → Bool
is_live rec = elem (get_or rec Point.letter 0) (73 ∷ 67 ∷ [])

abbrev pub in_code : List ℕ → List ℕ → Bool
in_code code rec = same (part rec Point.outward Point.inward) code

abbrev pub is_empty : List ℕ → Bool
is_empty [] = true
is_empty (x ∷ xs) = false

-- which records are wanted: the live views of a code; where no code is given, every view
unfoldable pub wanted : List ℕ → List ℕ → Bool
wanted code rec = is_view rec && (is_empty code || (is_live rec && in_code code rec))

-- the trailer's place, behind which there is no record
abbrev pub last_of : List ℕ → ℕ
last_of file = length file / Point.width - 1

-- "numbered from 1 in file order": the places of the wanted among k records from i on
abbrev pub wanted_from : List ℕ → List ℕ → ℕ → ℕ → List ℕ
wanted_from code file zero i = []
wanted_from code file (suc k) i =
    cond (wanted code (record_at Point.width file i)) (i ∷ wanted_from code file k (suc i)) (wanted_from code file k (suc i))

-- the places of all that are wanted, between header and trailer
unfoldable pub wanted_in : List ℕ → List ℕ → List ℕ
wanted_in code file = wanted_from code file (last_of file - 1) 1

-- how many are wanted
unfoldable pub wanted_count : List ℕ → List ℕ → ℕ
wanted_count code file = length (wanted_in code file)

-- the place of the k-th that is wanted, counted from 1; 0 where there is none
unfoldable pub wanted_at : List ℕ → List ℕ → ℕ → ℕ
wanted_at code file k = get_or (0 ∷ wanted_in code file) k 0

-- the place of the first that is wanted among k records from i on; i + k where there is none
abbrev pub next_from : List ℕ → List ℕ → ℕ → ℕ → ℕ
next_from code file zero i = i
next_from code file (suc k) i = cond (wanted code (record_at Point.width file i)) i (next_from code file k (suc i))

-- the step: the first that is wanted from i on; the trailer's place where there is none, or i where that is behind it
unfoldable pub next_wanted : List ℕ → List ℕ → ℕ → ℕ
next_wanted code file i = next_from code file (last_of file - i) i

-- those from a place on
abbrev pub places_from : List ℕ → List ℕ → ℕ → List ℕ
places_from code file at = wanted_from code file (last_of file - at) at

-- the number of the view at a place: how many views there are up to it
unfoldable pub view_number : List ℕ → ℕ → ℕ
view_number file place = length (wanted_from [] file place 1)
