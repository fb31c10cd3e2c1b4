-- Laws of rows asked of a set: its views by the numbers of their records.
-- Assumes nothing.
use Prim.Native.Nat.{ℕ, zero, suc, ◌+◌, ◌≤◌}
use mathlib.Core.Path.{◌≡◌, refl, sym, ◌∙◌}
use mathlib.Core.Bool.{Bool, true, false, cond}
use mathlib.Core.List.{List}
use native.Mathlib.Omega.{arith}
use borrow.Author.Tests.{ltb-true, ltb-false}
use lib.Dec.{ltb}
use Rattle.refusal.proofs.Outcomes.{afterwards-value}
use Rattle.run.specs.Series.{run_from}
use Rattle.run.proofs.Same.{same-run}
use Rattle.file_record.specs.Parts.{record_at}
use Rattle.mainfile.specs.Set.{Set, set_judged}
use Rattle.mainfile.specs.Rows.{set_lookup}
use Rattle.mainfile.specs.Addresses.{address_of, addresses_from, addresses_in}
use Rattle.mainfile.specs.Main.{main_of}
use Rattle.mainfile_views.specs.Range.{views_in}
use Rattle.mainfile_label.proofs.Laws.{resolve-number, kth-zero, kth-there, kth-none}
use Rattle.csv_paf.specs.Row.{kth_row, view_row, view_rows}
use Rattle.csv_write.proofs.Placed.{Alike, placed-none, placed-kth}
use Rattle.mainfile_csv.specs.Rows.{address_at, place_row, rows_among}
use Rattle.std.specs.Prelude.{Ok}
use Rattle.refusal.specs.Answer.{refusal}

-- what is written of an address does not look at its number
number-alike : (n m : ℕ) (rec organisations : List ℕ) → Alike (address_of n rec organisations) (address_of m rec organisations)
unfolding address_of
number-alike n m rec organisations = record { type = refl; indicator = refl; suffix = refl }

-- the row of the record of the k-th of m addresses from record n on is the k-th's
place-is-kth : (s : Set) (n m k : ℕ) (out : List ℕ) → 1 ≤ n
    → rows_among s n m k out ≡ kth_row (set_lookup s) (addresses_from s m n) k out
place-is-kth s n m zero out low = placed-none (set_lookup s) (address_at s 0) 0 out _ 0 refl (kth-zero s m n)
place-is-kth s n m (suc j) out low = by-test (ltb j m) refl
  where
    by-test : (t : Bool) → ltb j m ≡ t
        → place_row s (cond t (n + j) 0) out ≡ kth_row (set_lookup s) (addresses_from s m n) (suc j) out
    by-test true e =
        let rec = record_at 88 s.addresses (n + j) in
        placed-kth (set_lookup s) (address_at s (n + j)) (n + j) out _ (suc j) _ (λ z. omega arith)
        (kth-there s m n j (ltb-true j m e)) (number-alike 0 (n + j) rec s.organisations)
        (resolve-number (set_lookup s) rec s.organisations 0 (n + j))
    by-test false e =
        placed-none (set_lookup s) (address_at s 0) 0 out _ (suc j) refl (kth-none s m n j (ltb-false j m e))

-- where the files are accepted, asking by number is asking by record
module _ (s : Set) {n : ℕ} (taken : set_judged s ≡ Ok n) where
  pub row-by-place : (k : ℕ) (out : List ℕ)
      → rows_among s 1 (views_in s.addresses) k out ≡ view_row (main_of s) k out
  unfolding view_row addresses_in
  row-by-place k out =
      place-is-kth s 1 (views_in s.addresses) k out (omega arith) ∙ sym (afterwards-value refusal out _ taken)

  pub rows-by-place : (first count : ℕ) (out : List ℕ)
      → run_from (rows_among s 1 (views_in s.addresses)) first count out ≡ view_rows (main_of s) first count out
  unfolding view_rows
  rows-by-place first count out =
      same-run _ _ row-by-place count first out ∙ sym (afterwards-value refusal out _ taken)
