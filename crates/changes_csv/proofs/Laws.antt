-- Laws of rows asked of a pair of files: the views by their places.
-- Assumes nothing.
use Prim.Native.Nat.{ℕ}
use mathlib.Core.Path.{◌≡◌, refl, sym, ap, ◌∙◌}
use mathlib.Core.Bool.{Bool, true, false}
use mathlib.Core.List.{List, []}
use borrow.Author.Tests.{eqb-true, eqb-false}
use lib.Dec.{eqb}
use Rattle.refusal.proofs.Outcomes.{afterwards-value}
use Rattle.run.specs.Series.{run_from}
use Rattle.run.proofs.Same.{same-run}
use Rattle.changes_views.specs.Views.{wanted_in, wanted_at}
use Rattle.changes_source.specs.Rows.{table_lookup}
use Rattle.changes_source.specs.Addresses.{address_of, address_at}
use Rattle.changes_pair.specs.Live.{views_at}
use Rattle.changes_pair.specs.Pair.{pair_of}
use Rattle.changes_pair.proofs.Live.{all-views, kth-there, kth-missing, resolve-number}
use Rattle.changes_label.proofs.Laws.{counted}
use Rattle.csv_paf.specs.Row.{kth_row, view_row, view_rows}
use Rattle.csv_write.proofs.Placed.{Alike, placed-none, placed-kth}
use Rattle.changes_csv.specs.Rows.{rows_asked}
use Rattle.std.specs.Prelude.{Ok}
use Rattle.refusal.specs.Answer.{refusal}

-- what is written of an address does not look at its number
number-alike : (points : List ℕ) (n m place : ℕ) → Alike (address_at points n place) (address_at points m place)
unfolding address_of
number-alike points n m place = record { type = refl; indicator = refl; suffix = refl }

-- the row at the place of the k-th view is the k-th view's
place-is-kth : (table points : List ℕ) (k : ℕ) (out : List ℕ)
    → rows_asked table points k out ≡ kth_row (table_lookup table) (views_at points (wanted_in [] points)) k out
place-is-kth table points k out = by-test (eqb (wanted_at [] points k) 0) refl
  where
    by-test : (t : Bool) → eqb (wanted_at [] points k) 0 ≡ t
        → rows_asked table points k out ≡ kth_row (table_lookup table) (views_at points (wanted_in [] points)) k out
    by-test true e =
        let place = wanted_at [] points k in
        let none-there = eqb-true place 0 e in
        placed-none (table_lookup table) (address_at points 0 place) place out _ k none-there
        (kth-missing points [] k none-there)
    by-test false e =
        let place = wanted_at [] points k in
        let some = eqb-false place 0 e in
        let r = counted points [] k some in
        placed-kth (table_lookup table) (address_at points 0 place) place out _ k _ some (kth-there points [] k r.0 r.1)
        (number-alike points 0 _ place) (resolve-number (table_lookup table) points 0 _ place)

-- where both files are accepted, asking by number is asking by place
module _ (table points : List ℕ) {n : ℕ} (taken : (pair_of table points).judged ≡ Ok n) where
  pub row-by-place : (k : ℕ) (out : List ℕ) → rows_asked table points k out ≡ view_row (pair_of table points) k out
  unfolding view_row
  row-by-place k out =
      place-is-kth table points k out
      ∙ (ap (λ views. kth_row (table_lookup table) views k out) (sym (all-views points))
      ∙ sym (afterwards-value refusal out _ taken))

  pub rows-by-place : (first count : ℕ) (out : List ℕ)
      → run_from (rows_asked table points) first count out ≡ view_rows (pair_of table points) first count out
  unfolding view_rows
  rows-by-place first count out =
      same-run _ _ row-by-place count first out ∙ sym (afterwards-value refusal out _ taken)
