-- What is known of a pack that was opened.
-- Assumes nothing.
use Prim.Native.Nat.{ℕ}
use mathlib.Core.Path.{◌≡◌, refl}
use mathlib.Core.Bool.{Bool, true, false, cond}
use mathlib.Core.List.{List}
use native.Mathlib.Omega.{arith}
use Rattle.refusal.specs.declared.Reason.TheVariants.{BadPack}
use Rattle.pack.specs.Opening.{point_count, trailer_good, all_rows_good, all_points_good, all_counts_good, opened}
use Rattle.pack_points.specs.Ready.{Sized}
use Rattle.pack_open.specs.Opened.{Opened}
use Rattle.pack_open.proofs.Trailers.{trailer-sized}
use Rattle.std.specs.Prelude.{Ok}
use Rattle.refusal.specs.Answer.{refusal}

pub opened-all : (pack : List ℕ) (n : ℕ) → opened pack ≡ Ok n → Opened pack n
unfolding opened
opened-all pack n e =
    by_tests (trailer_good pack) (all_rows_good pack) (all_points_good pack) (all_counts_good pack) refl refl refl refl e
  where
    by_tests : (t r p s : Bool) → trailer_good pack ≡ t → all_rows_good pack ≡ r → all_points_good pack ≡ p
        → all_counts_good pack ≡ s
        → cond t
        (cond r (cond p (cond s (Ok (point_count pack)) (refusal 0 (BadPack 4))) (refusal 0 (BadPack 3))) (refusal 0 (BadPack 2)))
        (refusal 0 (BadPack 1))
        ≡ Ok n
        → Opened pack n
    by_tests true true true true a b c d e = record { trailer = a; rows = b; points = c; counts = d; counted = cc }
    by_tests true true true false a b c d e = let z : ◌≡◌ {A = ℕ} 0 1 = cc in absurd (omega arith)
    by_tests true true false s a b c d e = let z : ◌≡◌ {A = ℕ} 0 1 = cc in absurd (omega arith)
    by_tests true false p s a b c d e = let z : ◌≡◌ {A = ℕ} 0 1 = cc in absurd (omega arith)
    by_tests false r p s a b c d e = let z : ◌≡◌ {A = ℕ} 0 1 = cc in absurd (omega arith)

pub opened-sized : (pack : List ℕ) (n : ℕ) → opened pack ≡ Ok n → Sized pack
opened-sized pack n e = trailer-sized pack (opened-all pack n e).trailer
