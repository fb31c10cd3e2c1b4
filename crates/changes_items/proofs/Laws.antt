-- Laws of listings over a pair of files: the item at a place, and asking by place.
-- Assumes nothing.
use Prim.Native.Nat.{ℕ, ◌+◌, ◌≤◌}
use mathlib.Core.Path.{◌≡◌, refl, sym, ap, ◌∙◌}
use mathlib.Core.Bool.{Bool, true, false}
use mathlib.Core.List.{List, [], ◌++◌}
use mathlib.Core.Option.{Option}
use native.Mathlib.Omega.{arith}
use borrow.Author.Tests.{eq-eqb, ne_eqb, eqb-true, eqb-false}
use lib.Dec.{eqb, ltb}
use lib.ListN.{length, take, drop}
use Rattle.file_record.specs.Parts.{record_at}
use Rattle.field_outward.specs.Outward.{outward_fault}
use Rattle.refusal.specs.declared.Reason.TheVariants.{NoSuchNumber}
use Rattle.refusal.specs.Outcome.{Outcome, said}
use Rattle.refusal.proofs.Answers.{refused-value}
use Rattle.refusal.proofs.Outcomes.{answer-of, afterwards-value}
use Rattle.source.specs.Address.{Address}
use Rattle.source.specs.Resolve.{Resolved, resolve}
use Rattle.label.specs.Label.{room_outcome}
use Rattle.label.proofs.Room.{room_within}
use Rattle.item.specs.Item.{resolved_text, item_outcome}
use Rattle.item_write.specs.Headed.{before, headed, Small}
use Rattle.item_write.proofs.Headed.{item-over, none_over, item-small, none-small, telling, bounded}
use Rattle.run.specs.Series.{run_from}
use Rattle.run.proofs.Same.{same-run}
use Rattle.changes_views.specs.Views.{last_of, wanted, wanted_in, wanted_at, next_wanted, view_number}
use Rattle.changes_views.proofs.Laws.{next-range}
use Rattle.ask.specs.Source.{in_code}
use Rattle.ask.specs.Labels.{kth}
use Rattle.ask.specs.Lists.{resolved_of, kth_item, view_item, code_item, views_listed, code_listed, heading_or, headings, views_list, code_list}
use Rattle.ask.proofs.Laws.{by-good-code}
use Rattle.changes_source.specs.Rows.{table_lookup}
use Rattle.changes_source.specs.Addresses.{address_of, address_at}
use Rattle.changes_pair.specs.Live.{view_at, views_at}
use Rattle.changes_pair.specs.Pair.{pair_of}
use Rattle.changes_pair.proofs.Live.{all-views, live-views, kth-there, kth-missing, resolve-number}
use Rattle.changes_pair.proofs.Numbers.{wanted-every, number_step}
use Rattle.changes_label.specs.Places.{resolved_at, place_label, ViewPlace}
use Rattle.changes_label.proofs.Laws.{no_place, some-place, label-fits, counted}
use Rattle.changes_runs.specs.Runs.{place_behind}
use Rattle.changes_items.specs.Items.{line_at, place_item, places_listed, Numbered}
use Rattle.std.specs.Prelude.{Ok}
use Rattle.refusal.specs.Answer.{Answer, refusal}

-- ---- one place

module _ (table points : List ℕ) (place : ℕ) (heading out : List ℕ) where
  no_item : place ≡ 0 → place_item table points place heading out ≡ said (refusal 0 NoSuchNumber) out
  unfolding place_item
  no_item e = rw (eq-eqb place 0 e)

  some_item : (place ≡ 0 → ⊥)
      → place_item table points place heading out
      ≡ room_outcome (heading ++ resolved_text (resolved_at table points place)) out
  unfolding place_item
  some_item some = rw (ne_eqb place 0 some)

  -- an item that is answered with its bytes is a view's, and fits
  module _ (b : ℕ) (e : (place_item table points place heading out).answer ≡ Ok b) where
    pub item-some : place ≡ 0 → ⊥
    item-some z = refused-value 0 b NoSuchNumber (sym (answer-of (no_item z)) ∙ e)

    pub item-fits : b ≤ length (place_item table points place heading out).memory
    item-fits =
        let is = some_item item-some in
        rw is (room_within (heading ++ resolved_text (resolved_at table points place)) out b (sym (answer-of is) ∙ e))

  -- the label was asked behind the heading's place, came to `a` and left `y`
  module _ (v : ViewPlace table points place) {a : Answer} {y : List ℕ}
      (asked : said a y ≡ place_label table points place (drop (before heading (length out)) out)) where
    abbrev rest : List ℕ
    rest = drop (before heading (length out)) out

    pub asked-small : Small a
    asked-small = by-test (eqb place 0) refl
      where
        by-test : (t : Bool) → eqb place 0 ≡ t → Small a
        by-test true e = none-small (asked ∙ no_place table points place rest (eqb-true place 0 e))
        by-test false e =
            let some = eqb-false place 0 e in
            item-small (resolved_at table points place) rest (telling (table_lookup table) (address_at points 0 place))
            (bounded (table_lookup table) (address_at points 0 place)
            (omega (arith, label-fits table points place v some)))
            (asked ∙ some-place table points place rest some _ refl)

    pub asked-item : headed heading a (take (before heading (length out)) out ++ y)
        ≡ place_item table points place heading out
    asked-item = by-test (eqb place 0) refl
      where
        by-test : (t : Bool) → eqb place 0 ≡ t
            → headed heading a (take (before heading (length out)) out ++ y)
            ≡ place_item table points place heading out
        by-test true e =
            let none = eqb-true place 0 e in
            none_over heading out (asked ∙ no_place table points place rest none) ∙ sym (no_item none)
        by-test false e =
            let some = eqb-false place 0 e in
            item-over heading out (resolved_at table points place) (telling (table_lookup table) (address_at points 0 place))
            (asked ∙ some-place table points place rest some _ refl)
            ∙ sym (some_item some)

-- ---- the number of a view, carried along

module _ (points : List ℕ) (i : ℕ) where
  pub number_up : wanted [] (record_at 168 points (i + 1)) ≡ true → view_number points i + 1 ≡ view_number points (i + 1)
  number_up e = sym (number_step points i ∙ rw (sym (wanted-every (record_at 168 points (i + 1))) ∙ e))

  pub number-stays : wanted [] (record_at 168 points (i + 1)) ≡ false → view_number points i ≡ view_number points (i + 1)
  number-stays e = sym (number_step points i ∙ rw (sym (wanted-every (record_at 168 points (i + 1))) ∙ e))

-- the next place is behind this one, where there is one
pub behind-place : (code points : List ℕ) (place : ℕ) → (place_behind code points place ≡ 0 → ⊥)
    → place ≤ place_behind code points place
behind-place code points place some = by-test (ltb (next_wanted code points (place + 1)) (last_of points)) refl
  where
    by-test : (t : Bool) → ltb (next_wanted code points (place + 1)) (last_of points) ≡ t
        → place ≤ place_behind code points place
    by-test true e = rw e (omega (arith, (next-range code points (place + 1)).0))
    by-test false e = absurd (some (rw e))

-- the heading is that of the view's own number, where there is a view
pub numbered-item : (table points : List ℕ) (place view : ℕ) (out : List ℕ) → Numbered points view place
    → place_item table points place (line_at points view place) out
    ≡ place_item table points place (line_at points (view_number points place) place) out
numbered-item table points place view out n = by-test (eqb place 0) refl
  where
    by-test : (t : Bool) → eqb place 0 ≡ t
        → place_item table points place (line_at points view place) out
        ≡ place_item table points place (line_at points (view_number points place) place) out
    by-test true e =
        let none = eqb-true place 0 e in
        no_item table points place (line_at points view place) out none
        ∙ sym (no_item table points place (line_at points (view_number points place) place) out none)
    by-test false e =
        ap (λ (m : ℕ). place_item table points place (line_at points m place) out) (n (eqb-false place 0 e))

-- ---- the k-th that is wanted

-- the line of a view is its source's heading
line-is : (table points : List ℕ) (n place : ℕ) → (pair_of table points).heading (address_at points n place) ≡ line_at points n place
unfolding address_of
line-is table points n place = refl

place-is-kth : (table points code : List ℕ) (k : ℕ) (out : List ℕ)
    → places_listed table points code k out
    ≡ kth_item (headings (pair_of table points).heading (views_at points (wanted_in code points))) (table_lookup table)
    (views_at points (wanted_in code points)) k out
unfolding kth_item
place-is-kth table points code k out = by-test (eqb place 0) refl
  where
    place : ℕ
    place = wanted_at code points k

    of : Option Address → Outcome Answer
    of o = item_outcome (heading_or (pair_of table points).heading o) (resolved_of (table_lookup table) o) out

    by-test : (t : Bool) → eqb place 0 ≡ t
        → places_listed table points code k out ≡ of (kth (views_at points (wanted_in code points)) k)
    by-test true e =
        let none-there = eqb-true place 0 e in
        no_item table points place (line_at points (view_number points place) place) out none-there
        ∙ sym (ap of (kth-missing points code k none-there))
    by-test false e =
        let some-there = eqb-false place 0 e in
        let r = counted points code k some-there in
        some_item table points place (line_at points (view_number points place) place) out some-there
        ∙ (ap (λ (x : Resolved). room_outcome (line_at points (view_number points place) place ++ resolved_text x) out)
        (resolve-number (table_lookup table) points 0 (view_number points place) place)
        ∙ (ap
        (λ (l : List ℕ). room_outcome (l ++ resolved_text (resolve (table_lookup table) (view_at points place))) out)
        (sym (line-is table points (view_number points place) place))
        ∙ sym (ap of (kth-there points code k r.0 r.1))))

-- where both files are accepted, asking by number is asking by place
module _ (table points : List ℕ) {n : ℕ} (taken : (pair_of table points).judged ≡ Ok n) where
  abbrev line : Address → List ℕ
  line = (pair_of table points).heading

  view-item : (k : ℕ) (out : List ℕ)
      → places_listed table points [] k out
      ≡ view_item (headings line (pair_of table points).views) (pair_of table points) k out
  unfolding view_item
  view-item k out =
      place-is-kth table points [] k out
      ∙ (ap (λ (views : List Address). kth_item (headings line views) (table_lookup table) views k out) (sym (all-views points))
      ∙ sym (afterwards-value refusal out _ taken))

  code-item : (code : List ℕ) → outward_fault code ≡ 0 → (k : ℕ) (out : List ℕ)
      → places_listed table points code k out
      ≡ code_item (headings line (in_code code (pair_of table points).live)) (pair_of table points) code k out
  unfolding code_item
  code-item code clean k out =
      place-is-kth table points code k out
      ∙ (ap (λ (views : List Address). kth_item (headings line views) (table_lookup table) views k out)
      (sym (live-views points code clean))
      ∙ sym (by-good-code refusal code out _ (pair_of table points) taken clean))

  module _ (first count : ℕ) (out : List ℕ) where
    pub views-by-place : run_from (places_listed table points []) first count out
        ≡ views_list (pair_of table points) first count out
    unfolding views_list views_listed
    views-by-place = same-run _ _ view-item count first out ∙ sym (afterwards-value refusal out _ taken)

    pub in-code-by-place : (code : List ℕ) → outward_fault code ≡ 0
        → run_from (places_listed table points code) first count out ≡ code_list (pair_of table points) code first count out
    unfolding code_list code_listed
    in-code-by-place code clean =
        same-run _ _ (code-item code clean) count first out
        ∙ sym (by-good-code refusal code out _ (pair_of table points) taken clean)
