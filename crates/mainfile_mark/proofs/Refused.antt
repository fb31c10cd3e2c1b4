-- Refusals 8 and 9 by the rows in their files are those by the rows of the set: a row is there in the one where it is in the
-- other.
-- Assumes nothing.
use Prim.Native.Nat.{ℕ}
use mathlib.Core.Path.{◌≡◌, refl, sym}
use mathlib.Core.List.{List, [], ◌∷◌}
use native.Mathlib.Omega.{arith}
use lib.ListN.{length}
use Rattle.source.specs.declared.DeliveryPoint.{DeliveryPoint}
use Rattle.source.specs.Delivery.{refusal_in}
use Rattle.mainfile.specs.Set.{Set}
use Rattle.mainfile_source.specs.Rows.{rows_ahead}
use Rattle.mainfile_meaning.proofs.Meant.{Alike, refusal-alike, behind-alike}
use Rattle.mainfile_mark.specs.Marks.{set_rows}

module _ (s : Set) where
  rows_alike : (rows : List ℕ) → length rows ≡ 7 → Alike rows (set_rows s rows)
  rows_alike [] e = absurd (omega arith)
  rows_alike (a ∷ []) e = absurd (omega arith)
  rows_alike (a ∷ b ∷ []) e = absurd (omega arith)
  rows_alike (a ∷ b ∷ c ∷ []) e = absurd (omega arith)
  rows_alike (a ∷ b ∷ c ∷ d ∷ []) e = absurd (omega arith)
  rows_alike (a ∷ b ∷ c ∷ d ∷ f ∷ []) e = absurd (omega arith)
  rows_alike (a ∷ b ∷ c ∷ d ∷ f ∷ g ∷ []) e = absurd (omega arith)
  rows_alike (a ∷ b ∷ c ∷ d ∷ f ∷ g ∷ h ∷ []) e = (
    refl,
    (
      behind-alike (rows_ahead s 2) b,
      (
        behind-alike (rows_ahead s 3) c,
        (
          behind-alike (rows_ahead s 2) d,
          (behind-alike (rows_ahead s 3) f, (behind-alike (rows_ahead s 4) g, (behind-alike (rows_ahead s 5) h, tt))),
        ),
      ),
    ),
  )
  rows_alike (a ∷ b ∷ c ∷ d ∷ f ∷ g ∷ h ∷ i ∷ more) e = absurd (omega arith)

  pub refused-alike : (p : DeliveryPoint) (rows : List ℕ) → length rows ≡ 7 → refusal_in p (set_rows s rows) ≡ refusal_in p rows
  refused-alike p rows e = sym (refusal-alike p rows (set_rows s rows) (rows_alike rows e))
