-- Laws of listings over a pack.
-- Assumes nothing.
use Prim.Native.Nat.{ℕ, ◌≤◌}
use mathlib.Core.Path.{◌≡◌, refl, sym, ◌∙◌}
use mathlib.Core.Bool.{Bool, true, false}
use mathlib.Core.List.{List, ◌++◌}
use native.Mathlib.Omega.{arith}
use borrow.Author.Tests.{leb-true}
use lib.Dec.{leb}
use lib.ListN.{length, take, drop}
use Rattle.field.proofs.Tests.{and_left, and_right}
use Rattle.refusal.specs.declared.Reason.TheVariants.{NoSuchNumber}
use Rattle.refusal.specs.Outcome.{said}
use Rattle.refusal.proofs.Answers.{refused-value}
use Rattle.refusal.proofs.Outcomes.{answer-of, afterwards-value}
use Rattle.source.specs.Resolve.{Resolved, elements}
use Rattle.label.specs.Label.{label_of, room_outcome}
use Rattle.label.proofs.Bounds.{at-most-499}
use Rattle.label.proofs.Room.{room_within}
use Rattle.item.specs.Item.{Heading}
use Rattle.item_write.specs.Headed.{before, headed, Small}
use Rattle.item_write.proofs.Headed.{item-over, none_over, item-small, none-small}
use Rattle.pack.specs.Opening.{point_count, opened}
use Rattle.pack.specs.Points.{elements_at, point_place, is_point, point_label, point_item, pack_item}
use Rattle.pack_open.proofs.Opened.{opened-all}
use Rattle.pack_open.proofs.Fits.{point-fits}
use Rattle.pack_label.proofs.Laws.{no-point, a_point}
use Rattle.run.specs.Series.{run_from}
use Rattle.run.proofs.Same.{same-run}
use Rattle.pack_items.specs.Lists.{pack_listed}
use Rattle.std.specs.Prelude.{Ok}
use Rattle.refusal.specs.Answer.{Answer, refusal}

-- the label of a point of an accepted pack
label-fits : (pack : List ℕ) {n : ℕ} → opened pack ≡ Ok n → (k : ℕ) → 1 ≤ k → k ≤ point_count pack
    → length (label_of (elements_at pack (point_place pack k))) ≤ 499
label-fits pack {n} e k low high =
    at-most-499 (elements_at pack (point_place pack k))
    (point-fits pack n k e low (omega (arith, (opened-all pack n e).counted)))

module _ (heading : Heading) (pack : List ℕ) (k : ℕ) (out : List ℕ) where
  abbrev label : List ℕ
  label = label_of (elements_at pack (point_place pack k))

  no_item : is_point pack k ≡ false → point_item heading pack k out ≡ said (refusal 0 NoSuchNumber) out
  unfolding point_item
  no_item none = rw none

  an_item : is_point pack k ≡ true → point_item heading pack k out ≡ room_outcome (heading k ++ label) out
  unfolding point_item
  an_item there = rw there

  -- an item that is answered with its bytes is a point's, and fits
  module _ (b : ℕ) (e : (point_item heading pack k out).answer ≡ Ok b) where
    is-point : is_point pack k ≡ true
    is-point = by-test (is_point pack k) refl
      where
        by-test : (t : Bool) → is_point pack k ≡ t → is_point pack k ≡ true
        by-test true there = there
        by-test false there = absurd (refused-value 0 b NoSuchNumber (sym (answer-of (no_item there)) ∙ e))

    pub item-bound : k ≤ point_count pack
    item-bound = leb-true k (point_count pack) (and_right (leb 1 k) _ is-point)

    pub item-fits : b ≤ length (point_item heading pack k out).memory
    item-fits =
        rw (an_item is-point) (room_within (heading k ++ label) out b (sym (answer-of (an_item is-point)) ∙ e))

  -- the label was asked behind the heading's place, came to `a` and left `y`
  module _ {n : ℕ} (taken : opened pack ≡ Ok n) {a : Answer} {y : List ℕ}
      (asked : said a y ≡ point_label pack k (drop (before (heading k) (length out)) out)) where
    abbrev rest : List ℕ
    rest = drop (before (heading k) (length out)) out

    abbrev resolved : Resolved
    resolved = elements (elements_at pack (point_place pack k))

    pub asked-small : Small a
    asked-small = by-test (is_point pack k) refl
      where
        by-test : (t : Bool) → is_point pack k ≡ t → Small a
        by-test true there =
            item-small resolved rest tt
            (omega (
              arith,
              label-fits pack taken k (leb-true 1 k (and_left (leb 1 k) _ there))
                  (leb-true k (point_count pack) (and_right (leb 1 k) _ there)),
            ))
            (asked ∙ a_point pack k rest there)
        by-test false there = none-small (asked ∙ no-point pack k rest there)

    pub asked-item : headed (heading k) a (take (before (heading k) (length out)) out ++ y)
        ≡ point_item heading pack k out
    asked-item = by-test (is_point pack k) refl
      where
        by-test : (t : Bool) → is_point pack k ≡ t
            → headed (heading k) a (take (before (heading k) (length out)) out ++ y) ≡ point_item heading pack k out
        by-test true there =
            item-over (heading k) out resolved tt (asked ∙ a_point pack k rest there) ∙ sym (an_item there)
        by-test false there =
            none_over (heading k) out (asked ∙ no-point pack k rest there) ∙ sym (no_item there)

-- where the pack is opened, a listing asks its points
pub points-listed : (heading : Heading) (pack : List ℕ) (first count : ℕ) (out : List ℕ) {n : ℕ} → opened pack ≡ Ok n
    → pack_listed heading pack first count out ≡ run_from (point_item heading pack) first count out
unfolding pack_listed pack_item
points-listed heading pack first count out e =
    afterwards-value refusal out _ e ∙ same-run _ _ (λ k o. afterwards-value refusal o _ e) count first out
