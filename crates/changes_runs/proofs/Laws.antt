-- Laws of runs over a pair of files: the place of the next label, and asking by place.
-- Assumes nothing.
use Prim.Native.Nat.{ℕ, zero, suc, ◌+◌, ◌-◌, ◌≤◌}
use mathlib.Core.Path.{◌≡◌, refl, sym, ap, ◌∙◌}
use mathlib.Core.Bool.{Bool, true, false, cond}
use mathlib.Core.List.{List, [], ◌∷◌}
use native.Mathlib.Omega.{arith}
use native.Mathlib.Numerals.{add-one}
use borrow.Author.Tests.{ltb-true, ltb-false, eqb-true, eqb-false}
use lib.Dec.{eqb, ltb}
use lib.ListN.{get_or}
use Rattle.field_outward.specs.Outward.{outward_fault}
use Rattle.refusal.proofs.Outcomes.{afterwards-value}
use Rattle.changes_views.specs.Views.{last_of, wanted_from, wanted_in, wanted_at, next_wanted}
use Rattle.changes_views.proofs.Laws.{at_some, at_none}
use Rattle.ask.specs.Runs.{views_run, code_run}
use Rattle.ask.proofs.Laws.{by-good-code}
use Rattle.changes_pair.specs.Pair.{pair_of}
use Rattle.changes_label.specs.Places.{ViewPlace}
use Rattle.changes_label.proofs.Laws.{view-by-place, code-by-place}
use Rattle.run.specs.Series.{run_from}
use Rattle.run.proofs.Same.{same-run}
use Rattle.changes_runs.specs.Runs.{places_asked, place_behind}
use Rattle.std.specs.Prelude.{Ok}
use Rattle.refusal.specs.Answer.{refusal}

-- the place of the next number is the next place
module _ (code file : List ℕ) where
  abbrev from : ℕ → List ℕ
  from at = at ∷ wanted_from code file (last_of file - (at + 1)) (at + 1)

  abbrev next : ℕ → ℕ
  next at = next_wanted code file (at + 1)

  step_from : (k at : ℕ) → (get_or (from at) k 0 ≡ 0 → ⊥)
      → get_or (from at) (suc k) 0 ≡ place_behind code file (get_or (from at) k 0)
  step_from zero at some = by-test (ltb (next at) (last_of file)) refl
    where
      by-test : (t : Bool) → ltb (next at) (last_of file) ≡ t → get_or (from at) 1 0 ≡ cond t (next at) 0
      by-test true e = at_some code file at 1 (omega arith) (ltb-true (next at) (last_of file) e)
      by-test false e = at_none code file at 1 (omega arith) (ltb-false (next at) (last_of file) e)
  step_from (suc k) at some = by-test (ltb (next at) (last_of file)) refl (step_from k (next at))
    where
      by-test : (t : Bool) → ltb (next at) (last_of file) ≡ t
          → ((get_or (from (next at)) k 0 ≡ 0 → ⊥)
          → get_or (from (next at)) (suc k) 0 ≡ place_behind code file (get_or (from (next at)) k 0))
          → get_or (from at) (suc (suc k)) 0 ≡ place_behind code file (get_or (from at) (suc k) 0)
      by-test true e more =
          let inside = ltb-true (next at) (last_of file) e in
          let z : suc k - 1 ≡ k = omega arith in
          let y : suc (suc k) - 1 ≡ suc k = omega arith in
          let here : get_or (from at) (suc k) 0 ≡ get_or (from (next at)) k 0 =
          rw z at (at_some code file at (suc k) (omega arith) inside) in
          let there : get_or (from at) (suc (suc k)) 0 ≡ get_or (from (next at)) (suc k) 0 =
          rw y at (at_some code file at (suc (suc k)) (omega arith) inside) in
          there ∙ (more (λ n. some (here ∙ n)) ∙ ap (place_behind code file) (sym here))
      by-test false e more =
          absurd (some (at_none code file at (suc k) (omega arith) (ltb-false (next at) (last_of file) e)))

  pub next_place : (k : ℕ) → (wanted_at code file k ≡ 0 → ⊥)
      → wanted_at code file (k + 1) ≡ place_behind code file (wanted_at code file k)
  unfolding wanted_at wanted_in
  next_place k some = rw (add-one k) (step_from k 0 some)

-- a place is no further than the trailer's
pub place-bound : (table points : List ℕ) (place : ℕ) → ViewPlace table points place → place ≤ last_of points
place-bound table points place v = by-test (eqb place 0) refl
  where
    by-test : (t : Bool) → eqb place 0 ≡ t → place ≤ last_of points
    by-test true e = let z = eqb-true place 0 e in omega arith
    by-test false e = let h = v.high (eqb-false place 0 e) in omega (arith, h)

-- where both files are accepted, asking by number is asking by place
module _ (table points : List ℕ) {n : ℕ} (taken : (pair_of table points).judged ≡ Ok n) (first count : ℕ) (out : List ℕ) where
  pub views-by-place : run_from (places_asked table points []) first count out
      ≡ views_run (pair_of table points) first count out
  unfolding views_run
  views-by-place =
      same-run _ _ (view-by-place table points taken) count first out ∙ sym (afterwards-value refusal out _ taken)

  pub in-code-by-place : (code : List ℕ) → outward_fault code ≡ 0
      → run_from (places_asked table points code) first count out ≡ code_run (pair_of table points) code first count out
  unfolding code_run
  in-code-by-place code clean =
      same-run _ _ (λ k o. code-by-place table points taken k o code clean) count first out
      ∙ sym (by-good-code refusal code out _ (pair_of table points) taken clean)
