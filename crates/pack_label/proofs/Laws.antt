-- Laws of labels asked of a pack.
-- Assumes nothing.
use Prim.Native.Nat.{ℕ, ◌≤◌}
use mathlib.Core.Path.{◌≡◌, refl, sym, ◌∙◌}
use mathlib.Core.Bool.{Bool, true, false}
use mathlib.Core.List.{List}
use borrow.Author.Tests.{leb-true}
use lib.Dec.{leb}
use lib.ListN.{length}
use Rattle.field.proofs.Tests.{and_right}
use Rattle.refusal.specs.declared.Reason.TheVariants.{NoSuchNumber}
use Rattle.refusal.specs.Outcome.{said}
use Rattle.refusal.proofs.Answers.{refused-value}
use Rattle.refusal.proofs.Outcomes.{answer-of}
use Rattle.label.specs.Label.{label_of, room_outcome}
use Rattle.label.proofs.Room.{room_within}
use Rattle.pack.specs.Opening.{point_count}
use Rattle.pack.specs.Points.{elements_at, point_place, is_point, point_label}
use Rattle.std.specs.Prelude.{Ok}
use Rattle.refusal.specs.Answer.{refusal}

module _ (pack : List ℕ) (k : ℕ) (out : List ℕ) where
  pub no-point : is_point pack k ≡ false → point_label pack k out ≡ said (refusal 0 NoSuchNumber) out
  unfolding point_label
  no-point none = rw none

  pub a_point : is_point pack k ≡ true
      → point_label pack k out ≡ room_outcome (label_of (elements_at pack (point_place pack k))) out
  unfolding point_label
  a_point there = rw there

  -- a label that is answered with its bytes is a point's, and fits
  module _ (b : ℕ) (e : (point_label pack k out).answer ≡ Ok b) where
    is-point : is_point pack k ≡ true
    is-point = by-test (is_point pack k) refl
      where
        by-test : (t : Bool) → is_point pack k ≡ t → is_point pack k ≡ true
        by-test true there = there
        by-test false there = absurd (refused-value 0 b NoSuchNumber (sym (answer-of (no-point there)) ∙ e))

    pub point-bound : k ≤ point_count pack
    point-bound = leb-true k (point_count pack) (and_right (leb 1 k) _ is-point)

    pub point-fits : b ≤ length (point_label pack k out).memory
    point-fits =
        rw (a_point is-point)
        (room_within (label_of (elements_at pack (point_place pack k))) out b (sym (answer-of (a_point is-point)) ∙ e))
