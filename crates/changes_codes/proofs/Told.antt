-- The codes of an accepted point file: each has the live views that `ttw_live` answers for it, and no code that has one is
-- missing.
-- Assumes nothing.
use Prim.Native.Nat.{ℕ, zero, suc, ◌+◌, ◌-◌, ◌≤◌, ◌<◌}
use mathlib.Core.Path.{◌≡◌, refl}
use mathlib.Core.Bool.{Bool, true, false, cond}
use mathlib.Core.List.{List, [], ◌∷◌}
use native.Mathlib.Omega.{arith}
use lib.Dec.{eqb}
use lib.ListN.{length}
use Rattle.field.specs.Text.{part}
use Rattle.field_outward.specs.Outward.{outward_fault}
use Rattle.field_outward.proofs.Codes.{not-four}
use Rattle.file_record.specs.Parts.{record_at}
use Rattle.file_fault.proofs.Passing.{point-passes}
use Rattle.refusal.specs.declared.Reason.TheVariants.{BadCode}
use Rattle.file.specs.Formats.{point_format}
use Rattle.file.specs.Accepted.{Accepted}
use Rattle.file.proofs.Accepted.{accepts}
use Rattle.changes_views.specs.Views.{is_view, is_live, in_code, wanted, last_of, wanted_from, wanted_in, wanted_count}
use Rattle.pack.specs.Numbers.{number_from, number_at}
use Rattle.changes_list.specs.Listing.{live_at, live_answer}
use Rattle.tally.specs.Order.{Each}
use Rattle.tally.specs.Tally.{occurs}
use Rattle.tally_bytes.proofs.Coded.{Coded, coded, same_code}
use Rattle.tally_bytes.proofs.Tells.{tally-tells}
use Rattle.changes_codes.specs.Codes.{code_of, live_codes, all_codes, codes_in}
use Rattle.changes_codes.specs.Told.{Told}
use Rattle.changes_codes.proofs.Gathered.{all-few}
use Rattle.std.specs.Prelude.{Ok}
use Rattle.refusal.specs.Answer.{refusal}

module _ (points : List ℕ) (a : Accepted point_format points) where
  -- the outward code of each record is well formed
  outward_good : (i : ℕ) → 1 ≤ i → i < last_of points → outward_fault (part (record_at 168 points i) 14 18) ≡ 0
  outward_good i low high = (point-passes (record_at 168 points i) (a.each i low high).well_formed).0.1.1.0

  number_is : (rec : List ℕ) → code_of rec ≡ number_from 0 (part rec 14 18)
  unfolding number_at
  number_is rec = refl

  -- of k records from i on
  codes-good : (k i : ℕ) → 1 ≤ i → i + k ≤ last_of points → Each Coded (live_codes points (wanted_from [] points k i))
  codes-good zero i low high = tt
  codes-good (suc k) i low high =
      by_tests (wanted [] (record_at 168 points i)) (is_live (record_at 168 points i)) refl
      (wanted_from [] points k (suc i)) (codes-good k (suc i) (omega arith) (omega arith))
    where
      by_tests : (t u : Bool) → is_live (record_at 168 points i) ≡ u → (ps : List ℕ) → Each Coded (live_codes points ps)
          → Each Coded (live_codes points (cond t (i ∷ ps) ps))
      by_tests true true e ps later =
          simp e (rw (number_is (record_at 168 points i)) (coded _ (outward_good i low (omega arith))), later)
      by_tests true false e ps later = simp e later
      by_tests false u e ps later = later

  all_coded : Each Coded (all_codes points)
  unfolding wanted_in
  all_coded = by_size (last_of points) refl
    where
      by_size : (m : ℕ) → last_of points ≡ m → Each Coded (live_codes points (wanted_from [] points (m - 1) 1))
      by_size zero e = tt
      by_size (suc m) e = codes-good (suc m - 1) 1 (omega arith) (omega arith)

  -- a code's number occurs as often as the code has live views
  module _ (x : ℕ) (xs : List ℕ) (good : outward_fault (x ∷ xs) ≡ 0) where
    abbrev code : List ℕ
    code = x ∷ xs

    occurs-from : (k i : ℕ) → 1 ≤ i → i + k ≤ last_of points
        → occurs (number_from 0 code) (live_codes points (wanted_from [] points k i)) ≡ length (wanted_from code points k i)
    unfolding wanted
    occurs-from zero i low high = refl
    occurs-from (suc k) i low high =
        by_tests (is_view rec) (is_live rec) (in_code code rec) refl refl refl
        (occurs-from k (suc i) (omega arith) (omega arith))
      where
        rec : List ℕ
        rec = record_at 168 points i

        same_number : eqb (code_of rec) (number_from 0 code) ≡ in_code code rec
        same_number =
            rw (number_is rec) (same_code (part rec 14 18) code (outward_good i low (omega arith)) good)

        by_tests : (t u v : Bool) → is_view rec ≡ t → is_live rec ≡ u → in_code code rec ≡ v
            → occurs (number_from 0 code) (live_codes points (wanted_from [] points k (suc i)))
            ≡ length (wanted_from code points k (suc i))
            → occurs (number_from 0 code) (live_codes points (wanted_from [] points (suc k) i))
            ≡ length (wanted_from code points (suc k) i)
        by_tests true true true p q r later = simp (p, q, same_number, r) (omega (arith, later))
        by_tests true true false p q r later = simp (p, q, same_number, r) (omega (arith, later))
        by_tests true false v p q r later = simp (p, q) later
        by_tests false u v p q r later = simp p later

    occurs-in : occurs (number_from 0 code) (all_codes points) ≡ wanted_count code points
    unfolding wanted_count wanted_in
    occurs-in = by_size (last_of points) refl
      where
        by_size : (m : ℕ) → last_of points ≡ m
            → occurs (number_from 0 code) (live_codes points (wanted_from [] points (m - 1) 1))
            ≡ length (wanted_from code points (m - 1) 1)
        by_size zero e = refl
        by_size (suc m) e = occurs-from (suc m - 1) 1 (omega arith) (omega arith)

  occurs-is : (code : List ℕ) → outward_fault code ≡ 0
      → occurs (number_from 0 code) (all_codes points) ≡ wanted_count code points
  occurs-is [] good = absurd (omega (arith, not-four [] (λ e. omega arith)))
  occurs-is (x ∷ xs) good = occurs-in x xs good

  -- what `ttw_live` answers for a code
  live-asked : (code : List ℕ)
      → live_answer points code ≡ cond (eqb (outward_fault code) 0) (Ok (wanted_count code points)) (refusal 0 BadCode)
  unfolding live_answer live_at
  live-asked code = simp (accepts point_format points a)

  pub codes-told : Told points (codes_in points)
  codes-told =
      tally-tells (live_answer points) (all_codes points)
      record {
        formed = all_coded;
        few = omega (arith, all-few points a);
        many = λ code. wanted_count code points;
        asked = live-asked;
        occurring = occurs-is;
      }
