-- The codes of the live views from a place of the file on.
-- Assumes nothing.
use Prim.Native.Nat.{ℕ, suc, ◌+◌, ◌≤◌, ◌<◌}
use mathlib.Core.Path.{◌≡◌, ap, ◌∙◌}
use mathlib.Core.Bool.{Bool, true, false, cond}
use mathlib.Core.List.{List, [], ◌∷◌}
use native.Mathlib.Omega.{arith}
use lib.ListN.{length}
use Rattle.file_record.specs.Parts.{record_at}
use Rattle.file.specs.Formats.{point_format}
use Rattle.file.specs.Accepted.{Accepted}
use Rattle.file.proofs.Laws.{within-limit}
use Rattle.changes_views.specs.Views.{is_live, last_of, next_wanted, wanted_in, wanted_count, places_from}
use Rattle.changes_views.proofs.Laws.{places-start, places-step, places-end, count-bound}
use Rattle.changes_codes.specs.Codes.{code_of, live_codes, all_codes}

module _ (points : List ℕ) where
  abbrev pub codes_from : ℕ → List ℕ
  codes_from i = live_codes points (places_from [] points i)

  pub codes-start : all_codes points ≡ codes_from (next_wanted [] points 1)
  codes-start = ap (live_codes points) (places-start [] points)

  pub codes-end : (i : ℕ) → last_of points ≤ i → codes_from i ≡ []
  codes-end i h = ap (live_codes points) (places-end [] points i h)

  module _ (i : ℕ) (view : next_wanted [] points i ≡ i) (h : i < last_of points) where
    pub codes-live : is_live (record_at 168 points i) ≡ true
        → codes_from i ≡ code_of (record_at 168 points i) ∷ codes_from (next_wanted [] points (i + 1))
    codes-live e = ap (live_codes points) (places-step [] points i view h) ∙ simp e

    pub codes-other : is_live (record_at 168 points i) ≡ false → codes_from i ≡ codes_from (next_wanted [] points (i + 1))
    codes-other e = ap (live_codes points) (places-step [] points i view h) ∙ simp e

-- no more codes than records
codes-few : (points places : List ℕ) → length (live_codes points places) ≤ length places
codes-few points [] = omega arith
codes-few points (place ∷ places) =
    by-test (is_live (record_at 168 points place)) (code_of (record_at 168 points place)) (live_codes points places)
    (codes-few points places)
  where
    by-test : (t : Bool) (c : ℕ) (cs : List ℕ) → length cs ≤ length places
        → length (cond t (c ∷ cs) cs) ≤ suc (length places)
    by-test true c cs h = omega arith
    by-test false c cs h = omega arith

pub all-few : (points : List ℕ) → Accepted point_format points → length (all_codes points) ≤ 20_000
unfolding wanted_count
all-few points a =
    omega (
      arith,
      codes-few points (wanted_in [] points),
      count-bound [] points,
      within-limit point_format points a.is_whole,
    )
