-- Laws of labels asked of a pair of files: the views by their places.
-- Assumes nothing.
use Prim.Native.Nat.{ℕ, zero, suc, ◌≤◌}
use mathlib.Core.Path.{◌≡◌, refl, sym, ap, ap₂, ◌∙◌}
use mathlib.Core.Bool.{Bool, true, false}
use mathlib.Core.List.{List, []}
use native.Mathlib.Omega.{arith}
use borrow.Author.Tests.{eq-eqb, ne_eqb, eqb-true, eqb-false, leb-true, leb-false}
use lib.Dec.{eqb, leb}
use lib.ListN.{length}
use Rattle.field_outward.specs.Outward.{outward_fault}
use Rattle.refusal.specs.declared.Reason.TheVariants.{NoSuchNumber}
use Rattle.refusal.specs.Outcome.{said}
use Rattle.refusal.proofs.Answers.{refused-value}
use Rattle.refusal.proofs.Outcomes.{answer-of, afterwards-value, Both, both_values}
use Rattle.file.specs.Check.{checked}
use Rattle.file.specs.Formats.{table_format, point_format}
use Rattle.file.specs.Accepted.{Accepted}
use Rattle.file.proofs.Accepted.{accepted}
use Rattle.changes_views.specs.Views.{wanted_in, wanted_count, wanted_at}
use Rattle.changes_views.proofs.Laws.{wanted-at-wanted, wanted-at-zero, wanted-at-none}
use Rattle.source.specs.declared.DeliveryPoint.{DeliveryPoint}
use Rattle.source.specs.Delivery.{asked_of, rows_for}
use Rattle.source.specs.Resolve.{Resolved, elements, refused, elements_of}
use Rattle.label.specs.Label.{label_of, resolved_outcome}
use Rattle.label.proofs.Room.{room_within}
use Rattle.label.proofs.Bounds.{at-most-499}
use Rattle.ask.specs.Labels.{kth, kth_label, label_outcome, view_label, code_label}
use Rattle.ask.proofs.Laws.{by-good-code}
use Rattle.shelf.specs.declared.Shelf.{Shelf}
use Rattle.shelf.specs.Search.{found}
use Rattle.source_spans.specs.Spans.{elements_by}
use Rattle.changes_source.specs.Rows.{table_shelf, table_lookup}
use Rattle.changes_source.specs.Addresses.{address_at}
use Rattle.changes_source.specs.Delivery.{delivery_at}
use Rattle.changes_pair.specs.Live.{views_at}
use Rattle.changes_pair.specs.Pair.{pair_of}
use Rattle.changes_pair.proofs.Live.{all-views, live-views, kth-there, kth-missing, resolve-number}
use Rattle.changes_meaning.proofs.Meant.{rows_at, address-fits}
use Rattle.changes_label.specs.Places.{resolved_at, place_label, ViewPlace}
use Rattle.std.specs.Prelude.{Ok}
use Rattle.refusal.specs.Answer.{refusal}

-- ---- one place

module _ (table points : List ℕ) (place : ℕ) (out : List ℕ) where
  pub no_place : place ≡ 0 → place_label table points place out ≡ said (refusal 0 NoSuchNumber) out
  unfolding place_label
  no_place e = rw (eq-eqb place 0 e)

  pub some-place : (place ≡ 0 → ⊥) → (r : Resolved) → resolved_at table points place ≡ r
      → place_label table points place out ≡ resolved_outcome r out
  unfolding place_label
  some-place some r e = rw (ne_eqb place 0 some) (ap (λ (r : Resolved). resolved_outcome r out) e)

  -- a label that is answered with its bytes is a view's, and fits
  module _ (b : ℕ) (e : (place_label table points place out).answer ≡ Ok b) where
    pub place-some : place ≡ 0 → ⊥
    place-some z = refused-value 0 b NoSuchNumber (sym (answer-of (no_place z)) ∙ e)

    pub place-fits : b ≤ length (place_label table points place out).memory
    place-fits = by-case (resolved_at table points place) refl
      where
        by-case : (r : Resolved) → resolved_at table points place ≡ r
            → b ≤ length (place_label table points place out).memory
        by-case (elements x) q =
            let is = some-place place-some (elements x) q in
            rw is (room_within (label_of x) out b (sym (answer-of is) ∙ e))
        by-case (refused why) q =
            absurd (refused-value 0 b why (sym (answer-of (some-place place-some (refused why) q)) ∙ e))

-- the label of a view has at most 499 bytes
pub label-fits : (table points : List ℕ) (place : ℕ) → ViewPlace table points place → (place ≡ 0 → ⊥)
    → length (label_of (elements_of (table_lookup table) (address_at points 0 place))) ≤ 499
label-fits table points place v some =
    at-most-499 (elements_of (table_lookup table) (address_at points 0 place))
    (address-fits table points v.of_table place (v.high some) 0)

-- what is read and looked up with equals
pub rows_as : (s : Shelf) (p : DeliveryPoint) (table points : List ℕ) (i : ℕ) → s ≡ table_shelf → p ≡ delivery_at points i
    → rows_for (found s table) (asked_of p) ≡ rows_at table points i
rows_as s p table points i e f = ap₂ (λ (z : Shelf) (q : DeliveryPoint). rows_for (found z table) (asked_of q)) e f

pub elements-as : {s z : Shelf} {p q : DeliveryPoint} {rows others : List ℕ} (table points : List ℕ) → s ≡ z → p ≡ q
    → rows ≡ others
    → elements_by s table points p rows ≡ elements_by z table points q others
elements-as table points e f g = cc

-- ---- the place of the k-th that is wanted

-- a place that is found is one of those that are wanted
pub counted : (points code : List ℕ) (k : ℕ) → (wanted_at code points k ≡ 0 → ⊥) → (1 ≤ k) × (k ≤ wanted_count code points)
counted points code zero n = absurd (n (wanted-at-zero code points))
counted points code (suc k) n = (omega arith, by-test (leb (suc k) (wanted_count code points)) refl)
  where
    by-test : (t : Bool) → leb (suc k) (wanted_count code points) ≡ t → suc k ≤ wanted_count code points
    by-test true e = leb-true (suc k) (wanted_count code points) e
    by-test false e =
        absurd (n (wanted-at-none code points (suc k) (leb-false (suc k) (wanted_count code points) e)))

pub wanted-place : (table points code : List ℕ) (k : ℕ) → Accepted table_format table
    → ViewPlace table points (wanted_at code points k)
wanted-place table points code k t =
    record {
      of_table = t;
      high = λ n. let r = counted points code k n in (wanted-at-wanted code points k r.0 r.1).1;
    }

-- its label is that of the k-th view
pub place-is-kth : (table points code : List ℕ) (k : ℕ) (out : List ℕ)
    → place_label table points (wanted_at code points k) out
    ≡ kth_label (table_lookup table) (views_at points (wanted_in code points)) k out
unfolding kth_label
place-is-kth table points code k out = by-test (eqb (wanted_at code points k) 0) refl
  where
    by-test : (t : Bool) → eqb (wanted_at code points k) 0 ≡ t
        → place_label table points (wanted_at code points k) out
        ≡ label_outcome (table_lookup table) (kth (views_at points (wanted_in code points)) k) out
    by-test true e =
        let none-there = eqb-true (wanted_at code points k) 0 e in
        no_place table points (wanted_at code points k) out none-there
        ∙ sym (ap (λ o. label_outcome (table_lookup table) o out) (kth-missing points code k none-there))
    by-test false e =
        let some = eqb-false (wanted_at code points k) 0 e in
        let r = counted points code k some in
        let place = wanted_at code points k in
        some-place table points place out some _ (resolve-number (table_lookup table) points 0 _ place)
        ∙ sym (ap (λ o. label_outcome (table_lookup table) o out) (kth-there points code k r.0 r.1))

-- ---- both files together

module _ (table points : List ℕ) {n : ℕ} (taken : (pair_of table points).judged ≡ Ok n) where
  both : Both (checked table_format table) (checked point_format points)
  both = both_values (checked table_format table) (checked point_format points) taken

  pub table-accepted : Accepted table_format table
  table-accepted = accepted table_format table both.first-number both.first_is

  pub points-accepted : Accepted point_format points
  points-accepted = accepted point_format points both.second-number both.second_is

  module _ (k : ℕ) (out : List ℕ) where
    pub view-by-place : place_label table points (wanted_at [] points k) out ≡ view_label (pair_of table points) k out
    unfolding view_label
    view-by-place =
        place-is-kth table points [] k out
        ∙ (ap (λ views. kth_label (table_lookup table) views k out) (sym (all-views points))
        ∙ sym (afterwards-value refusal out _ taken))

    pub code-by-place : (code : List ℕ) → outward_fault code ≡ 0
        → place_label table points (wanted_at code points k) out ≡ code_label (pair_of table points) code k out
    unfolding code_label
    code-by-place code clean =
        place-is-kth table points code k out
        ∙ (ap (λ views. kth_label (table_lookup table) views k out) (sym (live-views points code clean))
        ∙ sym (by-good-code refusal code out _ (pair_of table points) taken clean))
