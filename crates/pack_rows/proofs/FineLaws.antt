-- Laws of a walk over fine rows that marks their starts and counts the bytes outside of their texts.
-- Assumes nothing.
use Prim.Native.Nat.{ℕ, suc, ◌+◌, ◌-◌, ◌/◌, ◌≤◌, ◌<◌}
use mathlib.Core.Path.{◌≡◌, refl, sym, ap, ◌∙◌}
use mathlib.Core.Bool.{Bool, true, false, ◌||◌}
use mathlib.Core.List.{List}
use native.Mathlib.Omega.{arith}
use borrow.Author.Tests.{eq-eqb}
use lib.Dec.{eqb}
use lib.ListN.{length}
use lib.Seq.{take-length}
use Rattle.std.specs.Bool.{then_some}
use Rattle.std.specs.Prelude.{Option, IfSome}
use Rattle.field.proofs.Tests.{or-false, or_assoc}
use Rattle.bits.specs.Bits.{marked}
use Rattle.pack.specs.Opening.{row_kind, row_end, rows_good, is_start}
use Rattle.pack_rows.specs.Odds.{odds, odds_before}
use Rattle.pack_rows.specs.Marks.{Fine}
use Rattle.pack_rows.specs.Steps.{Stepped}
use Rattle.pack_rows.specs.declared.fine.Step.{Step}
use Rattle.pack_rows.proofs.RowLaws.{rows_step, rows_end}

-- a value that is given where a test holds
pub if-given : {A : Type 0} (P : A → Type 0) {o : Option A} {b : Bool} {x : A} → o ≡ then_some b x → (b ≡ true → P x) → IfSome o P
if-given P {b = true} e h = rw e (h refl)
if-given P {b = false} e h = rw e tt

-- after i rows: they are good where the bytes before `at` that may stand in no text are those that were counted, and the
-- starts are those that are marked and those that are to come
pub record Going (rows : List ℕ) (count : ℕ) (marks : List ℕ) (kind counted at i : ℕ) : Type 0 where
  pub within : at ≤ length rows
  pub least : counted ≤ odds_before rows at
  pub good : odds_before rows at ≡ counted → rows_good rows count 1 0 ≡ rows_good rows (count - i) kind at
  pub told : (o : ℕ) → o / 32 < length marks → is_start rows count 0 o ≡ marked marks o || is_start rows (count - i) at o

module _ (rows : List ℕ) (count : ℕ) where
  module _ (marks : List ℕ) (kind counted at i : ℕ) (g : Going rows count marks kind counted at i) where
    pub going_next : (s : Step) (next : List ℕ) → i < count → Stepped rows at s → kind ≤ row_kind rows at
        → length next ≡ length marks
        → ((o : ℕ) → o / 32 < length marks → marked next o ≡ marked marks o || eqb at o)
        → Going rows count next (row_kind rows at) (counted + s.odds) s.end (i + 1)
    going_next s next h step low size set =
        record {
          within = step.within;
          least = omega (arith, step.counted, g.least);
          good = λ e.
              rw step.end
              (g.good (omega (arith, step.counted, g.least))
              ∙ rows_step rows count i kind at h (step.good (omega (arith, step.counted, g.least)) kind low));
          told = λ o l.
              let l = rw size at l in
              rw (step.end, set o l)
              (g.told o l
              ∙ (rw (let left : count - i ≡ suc (count - (i + 1)) = omega arith in left)
              (or_assoc (marked marks o) (eqb at o) (is_start rows (count - (i + 1)) (row_end rows at) o))));
        }

    pub going-last : count ≤ i → 0 < at → at ≡ length rows → odds rows ≡ counted → Fine rows count marks
    going-last h some end all =
        let whole : odds_before rows at ≡ odds rows = ap (odds_before rows) end ∙ ap odds (take-length rows) in
        record {
          good = g.good (whole ∙ all) ∙ (rows_end rows count i kind at h ∙ eq-eqb at (length rows) end);
          some = omega arith;
          told = λ o l.
              sym (g.told o l ∙ rw (let none : count - i ≡ 0 = omega arith in none) (or-false (marked marks o)));
        }
