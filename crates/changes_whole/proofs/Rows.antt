-- The rows of an accepted table file that a delivery point refers to: those that the search finds, and a mark for each.
-- Assumes nothing.
use Prim.Native.Nat.{ℕ, zero, suc, ◌≤◌, ◌<◌}
use mathlib.Core.Path.{◌≡◌, refl, sym, ap, subst, ◌∙◌}
use mathlib.Core.List.{List}
use native.Mathlib.Omega.{arith}
use lib.ListN.{length, get_or, replicate, length-replicate}
use Rattle.file.specs.Formats.{table_format}
use Rattle.file.specs.Accepted.{Accepted}
use Rattle.file.proofs.Laws.{at-least-two, within-limit}
use Rattle.source.specs.Address.{Asked}
use Rattle.source.specs.declared.DeliveryPoint.{DeliveryPoint}
use Rattle.source.specs.Delivery.{asked_of, rows_for}
use Rattle.source.proofs.Same.{rows_same}
use Rattle.shelf.specs.declared.Shelf.{Shelf}
use Rattle.shelf.specs.Shelf.{last_of, row_of}
use Rattle.shelf.specs.Search.{found}
use Rattle.shelf.proofs.Last.{found-is-row, found_before}
use Rattle.changes_source.specs.Rows.{table_shelf, table_stock}
use Rattle.changes_source.proofs.Table.{never-falls}
use Rattle.build.specs.Plan.{Packed, rows_of}
use Rattle.build_exact.proofs.Marked.{all-length}
use Rattle.build_mark.specs.Below.{Below}
use Rattle.build_mark.proofs.Rows.{rows-below}
use Rattle.changes_whole.specs.Marked.{MarksAll, Marked}
use Rattle.refusal.specs.Verdict.{Verdict, fine}

module _ (table : List ℕ) (t : Accepted table_format table) where
  -- an accepted table file has at most 20,000 records
  pub table-small : last_of table_shelf table ≤ 19_999
  table-small = omega (arith, within-limit table_format table t.is_whole)

  -- the rows that the search finds for a delivery point are those that it refers to
  pub rows-found : (q : DeliveryPoint) {s : Shelf} {p : DeliveryPoint} {rows : List ℕ} → s ≡ table_shelf → p ≡ q
      → rows ≡ rows_for (found s table) (asked_of p)
      → rows ≡ rows_of (table_stock table) q
  rows-found q e f is =
      is
      ∙ rw (e, f)
      (rows_same (found table_shelf table) (row_of table_shelf table) (asked_of q)
      (λ r. found-is-row table_shelf table r (never-falls table t)))

  -- and there is a mark for each, where there is one for each record
  pub found_below : (n : ℕ) (keys : List Asked) {s : Shelf} {rows : List ℕ} → last_of table_shelf table ≤ n
      → s ≡ table_shelf
      → rows ≡ rows_for (found s table) keys
      → Below n rows
  found_below n keys h e is =
      let some : 0 < n = omega (arith, at-least-two table_format table t.is_whole) in
      subst (λ (rows : List ℕ). Below n rows) (sym (is ∙ ap (λ (s : Shelf). rows_for (found s table) keys) e))
      (rows-below (found table_shelf table) n some (λ r. omega (arith, found_before table_shelf table r, some, h)) keys)

  -- a fresh array of marks is long enough
  pub fresh-long : (k : ℕ) → 20_000 ≤ k → last_of table_shelf table ≤ length (replicate {A = ℕ} k 0)
  fresh-long k h = rw (length-replicate {A = ℕ} k 0) (omega (arith, table-small))

no-mark : (k i : ℕ) → get_or (replicate {A = ℕ} k 0) i 0 ≡ 0
no-mark zero i = refl
no-mark (suc k) zero = refl
no-mark (suc k) (suc i) = no-mark k i

-- what marking leaves in a fresh array
pub fresh-marked : (k : ℕ) {table : List ℕ} {ds : List Packed} {v : Verdict} {marks : List ℕ} → k ≡ 20_000
    → MarksAll table ds (replicate {A = ℕ} k 0) v marks
    → v ≡ fine
    → Marked table ds marks
fresh-marked k e m fine =
    record {
      none_refused = sym m.said ∙ fine;
      fresh = replicate {A = ℕ} k 0;
      no_marks = no-mark k;
      long = length-replicate {A = ℕ} k 0 ∙ e;
      marked = m.marks_all fine;
    }

pub marked-long : {table : List ℕ} {ds : List Packed} {marks : List ℕ} → Marked table ds marks → length marks ≡ 20_000
marked-long {table} {ds} m = ap length m.marked ∙ (all-length (table_stock table) ds m.fresh ∙ m.long)
