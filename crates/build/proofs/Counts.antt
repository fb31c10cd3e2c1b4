-- The counts of the points of a pack: where their bytes are read, and how they are written one by one.
-- Assumes nothing.
use Prim.Native.Nat.{ℕ, zero, suc, ◌+◌, ◌*◌, ◌≤◌, ◌<◌}
use mathlib.Core.Path.{◌≡◌, refl, sym, ap, ap₂, ◌∙◌}
use mathlib.Core.List.{List, [], ◌∷◌, ◌++◌}
use native.Mathlib.Omega.{arith}
use native.Mathlib.Nat.{zero-add}
use native.Mathlib.Numerals.{add-one}
use lib.ListN.{length, take, drop, get_or, get_or-append}
use lib.Seq.{drop-cons, drop-length, length-take-le, get_or-append-add}
use Rattle.label.specs.Put.{Put}
use Rattle.pack.specs.Names.{newest, inward_at, point_width}
use Rattle.pack.specs.Numbers.{bytes_of}
use Rattle.pack.specs.Sectors.{sector_counts, counts_bytes}
use Rattle.pack.specs.Opening.{digits_from}
use Rattle.build.specs.Bytes.{counts_at_in, counts_in}

-- ---- numbers of 4 bytes, one by one

-- the numbers from one on, by that one
pub counts_step : (ns : List ℕ) (i : ℕ) → i < length ns
    → counts_bytes (drop i ns) ≡ bytes_of 4 (get_or ns i 0) ++ counts_bytes (drop (i + 1) ns)
counts_step ns i h = rw (drop-cons ns i 0 h, add-one i)

pub counts_end : (ns : List ℕ) (i : ℕ) → i ≡ length ns → counts_bytes (drop i ns) ≡ []
counts_end ns i e = rw (e, drop-length ns)

-- ---- digits that are read in two places

-- the same bytes give the same digits
pub digits_same : (x y : List ℕ) (n a b : ℕ)
    → ((i : ℕ) → i < point_width newest * n → get_or x (a + i) 0 ≡ get_or y (b + i) 0)
    → digits_from x (point_width newest) n a ≡ digits_from y (point_width newest) n b
digits_same x y zero a b same = refl
digits_same x y (suc n) a b same =
    ap₂ ◌∷◌ (same inward_at (omega arith))
    (digits_same x y n (a + point_width newest) (b + point_width newest)
    (λ i h. rw (further a i, further b i) (same (point_width newest + i) (omega arith))))
  where
    further : (k i : ℕ) → k + point_width newest + i ≡ k + (point_width newest + i)
    further k i = omega arith

-- what is put is read from its place on
put-at : {l entry exit : List ℕ} {at r : ℕ} → Put l entry at r exit → at ≤ length entry → (i : ℕ) → i < length l
    → get_or exit (at + i) 0 ≡ get_or l i 0
put-at {l} {entry} {exit} {at} v fits i h =
    let behind = l ++ drop (at + length l) entry in
    ap (λ (z : List ℕ). get_or z (at + i) 0) v.is
    ∙ (ap (λ (k : ℕ). get_or (take at entry ++ behind) (k + i) 0) (sym (length-take-le at entry fits))
    ∙ (get_or-append-add (take at entry) behind i 0 ∙ get_or-append l (drop (at + length l) entry) 0 i h))

-- the counts of points that are put are those of their own bytes
pub put-counts : {points entry exit : List ℕ} {at r : ℕ} (n : ℕ) → Put points entry at r exit → at ≤ length entry
    → point_width newest * n ≤ length points
    → counts_at_in exit n at ≡ counts_in points n
put-counts {points} {exit = exit} {at = at} n v fits whole =
    ap (λ (l : List ℕ). counts_bytes (sector_counts l))
    (digits_same exit points n at 0
    (λ i h. put-at v fits i (omega arith) ∙ ap (λ (k : ℕ). get_or points k 0) (sym (zero-add i))))
