-- Laws of what writing a row comes to.
-- Assumes nothing.
use Prim.Native.Nat.{ℕ, suc, ◌+◌, ◌-◌, ◌≤◌}
use mathlib.Core.Path.{◌≡◌, refl, sym, ◌∙◌}
use mathlib.Core.Bool.{Bool, true, false}
use mathlib.Core.List.{List, [], ◌∷◌}
use native.Mathlib.Omega.{arith}
use native.Mathlib.Numerals.{add-one}
use lib.ListN.{length, get_or}
use lib.Seq.{drop-cons}
use Rattle.field.specs.Text.{part}
use Rattle.refusal.specs.declared.Reason.TheVariants.{Uncarried}
use Rattle.refusal.specs.Outcome.{said}
use Rattle.refusal.proofs.Answers.{refused-value}
use Rattle.refusal.proofs.Outcomes.{answer-of}
use Rattle.source.specs.Address.{Elements}
use Rattle.label.specs.Label.{room_outcome}
use Rattle.label.proofs.Room.{room_within}
use Rattle.csv_paf.specs.Row.{carried, written_outcome}
use Rattle.std.specs.Prelude.{Ok}
use Rattle.refusal.specs.Answer.{refusal}

-- the two bytes of a suffix
pub suffix-bytes : (own : List ℕ) (at : ℕ) → at + 2 ≤ length own
    → get_or own at 0 ∷ get_or own (at + 1) 0 ∷ [] ≡ part own at (at + 2)
suffix-bytes own at h =
    let two : at + 2 - at ≡ 2 = omega arith in
    rw (add-one, two, drop-cons own at 0 (omega arith), drop-cons own (suc at) 0 (omega arith))

-- ---- of elements

module _ (row : List ℕ) (e : Elements) (out : List ℕ) where
  pub written-carried : carried e ≡ true → room_outcome row out ≡ written_outcome row e out
  unfolding written_outcome
  written-carried is = rw is

  pub written-not : carried e ≡ false → said (refusal 0 Uncarried) out ≡ written_outcome row e out
  unfolding written_outcome
  written-not is = rw is

  -- what is answered with bytes fits
  pub written-within : (b : ℕ) → (written_outcome row e out).answer ≡ Ok b
      → b ≤ length (written_outcome row e out).memory
  written-within b is = by-test (carried e) refl
    where
      by-test : (t : Bool) → carried e ≡ t → b ≤ length (written_outcome row e out).memory
      by-test true q =
          let same = written-carried q in
          rw (sym same) (room_within row out b (answer-of same ∙ is))
      by-test false q = absurd (refused-value 0 b Uncarried (answer-of (written-not q) ∙ is))
