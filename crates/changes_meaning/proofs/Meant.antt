-- What a view of an accepted pair of files resolves to, by what code knows of it: its elements, or the refusal.
-- Assumes nothing.
use Prim.Native.Nat.{ℕ, ◌-◌, ◌<◌}
use mathlib.Core.Path.{◌≡◌, sym, subst, ◌∙◌}
use mathlib.Core.Bool.{true, ◌&&◌, ◌||◌}
use mathlib.Core.List.{List}
use native.Mathlib.Omega.{arith}
use borrow.Author.Tests.{eqb-true}
use lib.ListN.{get_or}
use Rattle.field.proofs.Tests.{and_left}
use Rattle.refusal.specs.declared.Reason.{Reason}
use Rattle.file.specs.Check.{records}
use Rattle.file.specs.Formats.{table_format, point_format}
use Rattle.file.specs.Accepted.{Accepted}
use Rattle.changes_views.specs.Views.{is_view, is_live, in_code, is_empty, wanted}
use Rattle.source.specs.Address.{Elements}
use Rattle.source.specs.Resolve.{elements_of, elements, refused, resolve}
use Rattle.source.specs.Delivery.{asked_of, rows_for, refusal_in}
use Rattle.source.proofs.Same.{rows_same}
use Rattle.shelf.specs.Shelf.{row_of}
use Rattle.shelf.specs.Search.{found}
use Rattle.shelf.proofs.Last.{found-is-row}
use Rattle.source_spans.specs.Spans.{elements_by}
use Rattle.source_meaning.proofs.Refusals.{resolved_by, refusal-meant}
use Rattle.source_meaning.proofs.Elements.{elements-meant}
use Rattle.label.specs.Widths.{Fits}
use Rattle.source_meaning.proofs.Fits.{elements-fit}
use Rattle.changes_source.specs.Rows.{table_shelf, table_stock, table_lookup}
use Rattle.changes_source.specs.Addresses.{address_at}
use Rattle.changes_source.specs.Delivery.{delivery_at}
use Rattle.changes_source.proofs.Table.{never-falls, table-good}
use Rattle.changes_meaning.proofs.Says.{says_at}
use Rattle.std.specs.Prelude.{Err}
use Rattle.refusal.specs.Verdict.{fine}

-- a record that is wanted is a view
pub wanted-view : (code rec : List ℕ) → wanted code rec ≡ true → get_or rec 41 0 ≡ 49
unfolding wanted
wanted-view code rec e =
    eqb-true (get_or rec 41 0) 49 (and_left (is_view rec) (is_empty code || (is_live rec && in_code code rec)) e)

-- the rows that the search finds for the keys of the view at a place
abbrev pub rows_at : (table points : List ℕ) → ℕ → List ℕ
rows_at table points i = rows_for (found table_shelf table) (asked_of (delivery_at points i))

-- are those in force
pub rows-meant : (table points : List ℕ) → Accepted table_format table → (i : ℕ)
    → rows_at table points i ≡ rows_for (row_of table_shelf table) (asked_of (delivery_at points i))
rows-meant table points t i =
    rows_same (found table_shelf table) (row_of table_shelf table) (asked_of (delivery_at points i))
    (λ r. found-is-row table_shelf table r (never-falls table t))

module _ (table points : List ℕ) (t : Accepted table_format table) (i : ℕ) (high : i < records point_format points - 1)
    (n : ℕ) where
  pub resolved : resolve (table_lookup table) (address_at points n i)
      ≡ resolved_by (refusal_in (delivery_at points i) (rows_at table points i))
      (elements_of (table_lookup table) (address_at points n i))
  resolved =
      refusal-meant (table_stock table) points points (delivery_at points i) (address_at points n i)
      (says_at points i (omega arith) n) (rows_at table points i) (rows-meant table points t i)

  elements-are : elements_by table_shelf table points (delivery_at points i) (rows_at table points i)
      ≡ elements_of (table_lookup table) (address_at points n i)
  elements-are =
      elements-meant table_shelf table (table-good table t) points (delivery_at points i) (address_at points n i)
      (says_at points i (omega arith) n) (rows_at table points i) (rows-meant table points t i)

  pub resolved-fine : refusal_in (delivery_at points i) (rows_at table points i) ≡ fine
      → resolve (table_lookup table) (address_at points n i)
      ≡ elements (elements_by table_shelf table points (delivery_at points i) (rows_at table points i))
  resolved-fine e = resolved ∙ rw (e, sym elements-are)

  pub resolved-bad : (why : Reason) → refusal_in (delivery_at points i) (rows_at table points i) ≡ Err why
      → resolve (table_lookup table) (address_at points n i) ≡ refused why
  resolved-bad why e = resolved ∙ rw e

  -- none of its texts is longer than its field
  pub address-fits : Fits (elements_of (table_lookup table) (address_at points n i))
  address-fits = subst (λ (e : Elements). Fits e) elements-are (elements-fit table_shelf table points (delivery_at points i) (rows_at table points i))
