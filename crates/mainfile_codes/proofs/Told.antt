-- The codes of an accepted address file: each has the addresses that `ttw_main_live` answers for it, and no code that
-- has one is missing.
-- Assumes nothing.
use Prim.Native.Nat.{ℕ, zero, suc, ◌+◌, ◌≤◌}
use mathlib.Core.Path.{◌≡◌, refl, ◌∙◌}
use mathlib.Core.Bool.{Bool, true, false, cond}
use mathlib.Core.List.{List, []}
use native.Mathlib.Omega.{arith}
use lib.Dec.{eqb}
use lib.ListN.{length}
use Rattle.field_outward.specs.Outward.{outward_fault}
use Rattle.file_compare.specs.Order.{same}
use Rattle.refusal.specs.declared.Reason.TheVariants.{BadCode}
use Rattle.file.specs.Accepted.{Accepted}
use Rattle.file.specs.Mainfile.{addresses}
use Rattle.file.proofs.Accepted.{accepts}
use Rattle.ask.specs.Source.{in_code}
use Rattle.mainfile.specs.Set.{Set, set_of}
use Rattle.mainfile.specs.Addresses.{address_of, addresses_from, addresses_in}
use Rattle.mainfile_views.specs.Range.{last_of, views_in, many_in, live_at, live_answer}
use Rattle.mainfile_views.proofs.Together.{in-code-many}
use Rattle.pack.specs.Numbers.{number_from}
use Rattle.tally.specs.Order.{Each}
use Rattle.tally.specs.Tally.{occurs}
use Rattle.tally_bytes.proofs.Coded.{Coded, coded, same_code}
use Rattle.tally_bytes.proofs.Tells.{tally-tells}
use Rattle.mainfile_codes.specs.Codes.{code_in, codes_from, all_codes, codes_in}
use Rattle.mainfile_codes.specs.Told.{Told}
use Rattle.mainfile_codes.proofs.Stretches.{last-is, all-few, outward_at, outward_good, code_is}
use Rattle.std.specs.Prelude.{Ok}
use Rattle.refusal.specs.Answer.{refusal}

module _ (file : List ℕ) (a : Accepted addresses file) where
  -- of k records from i on
  codes-good : (k i : ℕ) → 1 ≤ i → i + k ≤ last_of file → Each Coded (codes_from file k i)
  codes-good zero i low high = tt
  codes-good (suc k) i low high = (
    rw (code_is file a i) (coded (outward_at file a i) (outward_good file a i low (omega arith))),
    codes-good k (suc i) (omega arith) (omega arith),
  )

  -- a set that has this address file
  abbrev its_set : Set
  its_set = set_of [] [] [] [] [] [] file

  -- a code's number occurs as often as the code has addresses
  occurs-from : (code : List ℕ) → outward_fault code ≡ 0 → (k i : ℕ) → 1 ≤ i → i + k ≤ last_of file
      → occurs (number_from 0 code) (codes_from file k i) ≡ length (in_code code (addresses_from its_set k i))
  unfolding address_of
  occurs-from code good zero i low high = refl
  occurs-from code good (suc k) i low high =
      by-test (same (outward_at file a i) code) refl (occurs-from code good k (suc i) (omega arith) (omega arith))
    where
      same_number : eqb (code_in file i) (number_from 0 code) ≡ same (outward_at file a i) code
      same_number =
          rw (code_is file a i) (same_code (outward_at file a i) code (outward_good file a i low (omega arith)) good)

      by-test : (t : Bool) → same (outward_at file a i) code ≡ t
          → occurs (number_from 0 code) (codes_from file k (suc i))
          ≡ length (in_code code (addresses_from its_set k (suc i)))
          → occurs (number_from 0 code) (codes_from file (suc k) i)
          ≡ length (in_code code (addresses_from its_set (suc k) i))
      by-test true e later = simp (same_number, e) (omega (arith, later))
      by-test false e later = simp (same_number, e) (omega (arith, later))

  occurs-is : (code : List ℕ) → outward_fault code ≡ 0 → occurs (number_from 0 code) (all_codes file) ≡ many_in file code
  unfolding addresses_in
  occurs-is code good =
      occurs-from code good (views_in file) 1 (omega arith) (omega (arith, last-is file a)) ∙ in-code-many its_set code a

  -- what `ttw_main_live` answers for a code
  live-asked : (code : List ℕ)
      → live_answer file code ≡ cond (eqb (outward_fault code) 0) (Ok (many_in file code)) (refusal 0 BadCode)
  unfolding live_answer live_at
  live-asked code = simp (accepts addresses file a)

  pub codes-told : Told file (codes_in file)
  codes-told =
      tally-tells (live_answer file) (all_codes file)
      record {
        formed = codes-good (views_in file) 1 (omega arith) (omega (arith, last-is file a));
        few = omega (arith, all-few file a);
        many = many_in file;
        asked = live-asked;
        occurring = occurs-is;
      }
