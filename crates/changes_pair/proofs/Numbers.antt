-- The number of the view at a place: how it goes up, place by place.
-- Assumes nothing.
use Prim.Native.Nat.{ℕ, zero, suc, ◌+◌, ◌≤◌}
use mathlib.Core.Path.{◌≡◌, refl, ap, ◌∙◌}
use mathlib.Core.Bool.{Bool, true, false, cond}
use mathlib.Core.List.{List, [], ◌∷◌, ◌++◌}
use native.Mathlib.Omega.{arith}
use native.Mathlib.Numerals.{add-one}
use lib.ListN.{length, length-append}
use Rattle.field.proofs.Tests.{and-true}
use Rattle.file_record.specs.Parts.{record_at}
use Rattle.changes_views.specs.Views.{is_view, wanted, wanted_from, view_number}
use Rattle.changes_views.proofs.Laws.{from-bound}

-- one record more behind k others
wanted-more : (code file : List ℕ) (k i : ℕ)
    → wanted_from code file (suc k) i
    ≡ wanted_from code file k i ++ cond (wanted code (record_at 168 file (i + k))) ((i + k) ∷ []) []
wanted-more code file zero i = rw (let z : i + 0 ≡ i = omega arith in z)
wanted-more code file (suc k) i =
    let next : suc i + k ≡ i + suc k = omega arith in
    by-test (wanted code (record_at 168 file i)) (rw next at (wanted-more code file k (suc i)))
  where
    last : List ℕ
    last = cond (wanted code (record_at 168 file (i + suc k))) ((i + suc k) ∷ []) []

    by-test : (t : Bool) → wanted_from code file (suc k) (suc i) ≡ wanted_from code file k (suc i) ++ last
        → cond t (i ∷ wanted_from code file (suc k) (suc i)) (wanted_from code file (suc k) (suc i))
        ≡ cond t (i ∷ wanted_from code file k (suc i)) (wanted_from code file k (suc i)) ++ last
    by-test true e = ap (i ∷◌) e
    by-test false e = e

-- without a code every view is wanted
pub wanted-every : (rec : List ℕ) → wanted [] rec ≡ is_view rec
unfolding wanted
wanted-every rec = and-true (is_view rec)

module _ (points : List ℕ) (place : ℕ) where
  counted : view_number points (suc place)
      ≡ view_number points place + length (cond (is_view (record_at 168 points (suc place))) (suc place ∷ []) [])
  unfolding view_number
  counted =
      let next : 1 + place ≡ suc place = omega arith in
      ap length (rw (next, wanted-every (record_at 168 points (suc place))) at (wanted-more [] points place 1))
      ∙ length-append (wanted_from [] points place 1)
      (cond (is_view (record_at 168 points (suc place))) (suc place ∷ []) [])

  pub number-view : is_view (record_at 168 points (suc place)) ≡ true
      → view_number points (suc place) ≡ suc (view_number points place)
  number-view e = counted ∙ simp e (omega arith)

  pub number-other : is_view (record_at 168 points (suc place)) ≡ false
      → view_number points (suc place) ≡ view_number points place
  number-other e = counted ∙ simp e (omega arith)

  pub number-rises : view_number points place ≤ view_number points (suc place)
  number-rises = omega (arith, counted)

  -- the same as a loop goes on
  pub number_step : view_number points (place + 1)
      ≡ cond (is_view (record_at 168 points (place + 1))) (view_number points place + 1) (view_number points place)
  number_step =
      rw (add-one place, add-one (view_number points place)) (by-test (is_view (record_at 168 points (suc place))) refl)
    where
      by-test : (t : Bool) → is_view (record_at 168 points (suc place)) ≡ t
          → view_number points (suc place) ≡ cond t (suc (view_number points place)) (view_number points place)
      by-test true e = number-view e
      by-test false e = number-other e

pub number-none : (points : List ℕ) → view_number points 0 ≡ 0
unfolding view_number
number-none points = refl

-- no number is above its place
pub number_bound : (points : List ℕ) (place : ℕ) → view_number points place ≤ place
unfolding view_number
number_bound points place = from-bound [] points place 1
