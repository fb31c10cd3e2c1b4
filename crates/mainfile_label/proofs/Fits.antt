-- None of the texts that an address of a set is printed from is longer than its field, and so its label is short.
-- Assumes nothing.
use Prim.Native.Nat.{ℕ, ◌/◌, ◌≤◌, ◌<◌}
use mathlib.Core.Path.{◌≡◌, refl, sym, subst}
use mathlib.Core.List.{List}
use lib.ListN.{length}
use Rattle.source.specs.declared.DeliveryPoint.{DeliveryPoint}
use Rattle.source.specs.Delivery.{refusal_in}
use Rattle.source.specs.Resolve.{Resolved, elements, refused}
use Rattle.label.specs.Label.{label_of}
use Rattle.label.specs.Widths.{Fits}
use Rattle.label.proofs.Bounds.{at-most-499}
use Rattle.source_spans.specs.Spans.{elements_by}
use Rattle.source_meaning.proofs.Fits.{elements-fit}
use Rattle.mainfile.specs.Set.{Set}
use Rattle.mainfile.specs.Rows.{shelf_of, file_of}
use Rattle.mainfile.specs.Accepted.{AcceptedSet}
use Rattle.mainfile_meaning.specs.Elements.{elements_at, point_at, rows_at}
use Rattle.mainfile_meaning.proofs.Meant.{resolved-fine, resolved-bad}
use Rattle.mainfile_label.specs.Places.{resolved_at}
use Rattle.std.specs.Prelude.{Ok, Err}
use Rattle.refusal.specs.Verdict.{Verdict}

-- what is printed of an address has at most 499 bytes
abbrev pub Short : Resolved → Type 0
Short (elements e) = length (label_of e) ≤ 499
Short (refused why) = Unit {0}

module _ (s : Set) (p : DeliveryPoint) (rows : List ℕ) where
  -- as though all rows stood on the shelf of one kind
  of-kind : (kind : ℕ) (own : List ℕ) → Fits (elements_by (shelf_of kind) (file_of s kind) own p rows)
  of-kind kind own = elements-fit (shelf_of kind) (file_of s kind) own p rows

  -- each text is one of its own kind
  pub texts-fit : Fits (elements_at s p rows)
  unfolding elements_by
  texts-fit =
      let own = s.addresses in
      record {
        organisation = (of-kind 1 s.organisations).organisation;
        department = (of-kind 1 s.organisations).department;
        box = (of-kind 1 own).box;
        sub_building = (of-kind 5 own).sub_building;
        building = (of-kind 4 own).building;
        dependent = (of-kind 2 own).dependent;
        dependent_descriptor = (of-kind 3 own).dependent_descriptor;
        thoroughfare = (of-kind 2 own).thoroughfare;
        descriptor = (of-kind 3 own).descriptor;
        double_locality = (of-kind 1 own).double_locality;
        dependent_locality = (of-kind 1 own).dependent_locality;
        town = (of-kind 1 own).town;
        outward = (of-kind 1 own).outward;
        inward = (of-kind 1 own).inward;
      }

pub resolved-short : (s : Set) → AcceptedSet s → (place : ℕ) → place < length s.addresses / 88
    → Short (resolved_at s place)
resolved-short s ok place high = by-verdict (refusal_in (point_at s place) (rows_at s place)) refl
  where
    by-verdict : (v : Verdict) → refusal_in (point_at s place) (rows_at s place) ≡ v → Short (resolved_at s place)
    by-verdict (Ok _) e =
        subst (λ (r : Resolved). Short r) (sym (resolved-fine s ok place high 0 e))
        (at-most-499 (elements_at s (point_at s place) (rows_at s place)) (texts-fit s (point_at s place) (rows_at s place)))
    by-verdict (Err why) e = subst (λ (r : Resolved). Short r) (sym (resolved-bad s ok place high 0 why e)) tt
