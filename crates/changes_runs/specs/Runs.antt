-- Runs of labels of a pair of files, by the places of its views.
-- Assumes nothing.
use Rattle.std.specs.Prelude.{ℕ, ◌+◌, cond, List, ltb}
use Rattle.changes_views.specs.Views.{last_of, wanted_at, next_wanted}
use Rattle.changes_label.specs.Places.{place_label}
use Rattle.run.specs.Series.{Asking}

-- a label by its number among those that are wanted
abbrev pub places_asked : (table points code : List ℕ) → Asking
places_asked table points code = λ k out. place_label table points (wanted_at code points k) out

-- the place of the next that is wanted, 0 where there is none
abbrev pub place_behind : List ℕ → List ℕ → ℕ → ℕ
place_behind code points place =
    cond (ltb (next_wanted code points (place + 1)) (last_of points)) (next_wanted code points (place + 1)) 0
