-- Records as parts of their file.
-- Assumes nothing.
use Prim.Native.Nat.{ℕ, zero, suc, ◌+◌, ◌-◌, ◌*◌, ◌/◌, ◌≤◌, ◌<◌}
use mathlib.Core.Path.{◌≡◌, sym}
use mathlib.Core.List.{List, [], ◌∷◌}
use native.Mathlib.Omega.{arith}
use native.Mathlib.Nat.{div-mul-le_self, le_trans, mul-le-mul_right, suc-mul}
use borrow.Author.Tests.{lt-ltb, le-ltb}
use lib.ListN.{length, take, drop, length-take, length-drop}
use lib.Seq.{take-nil, take-take, drop-drop}
use Rattle.field.specs.Text.{part}
use Rattle.file_record.specs.Parts.{record_at}

pub part_length : (rec : List ℕ) (start end : ℕ) → start ≤ end → end ≤ length rec
    → length (part rec start end) ≡ end - start
part_length rec start end h k = simp (length-take, length-drop) (omega arith)

-- a part of a part
drop-take : (m n : ℕ) (l : List ℕ) → drop m (take n l) ≡ take (n - m) (drop m l)
drop-take zero n l = rw (let z : n - 0 ≡ n = omega arith in z)
drop-take (suc m) zero l = rw (let z : 0 - suc m ≡ 0 = omega arith in z)
drop-take (suc m) (suc n) [] = sym (take-nil (suc n - suc m))
drop-take (suc m) (suc n) (x ∷ xs) = rw (let z : suc n - suc m ≡ n - m = omega arith in z) (drop-take m n xs)

pub part-part : (file : List ℕ) (a w from to : ℕ) → to ≤ w
    → part (part file a (a + w)) from to ≡ part file (a + from) (a + to)
part-part file a w from to h =
    let all : a + w - a ≡ w = omega arith in
    let some : a + to - (a + from) ≡ to - from = omega arith in
    rw (all, some, drop-take from w (drop a file), drop-drop from a file)
    (take-take (to - from) (w - from) (drop (a + from) file) (omega arith))

module _ (w : ℕ) (file : List ℕ) (i : ℕ) where
  -- a record that is there, and one that is not
  pub record-here : i < length file / w → record_at w file i ≡ part file (i * w) (i * w + w)
  unfolding record_at
  record-here h = simp (lt-ltb i (length file / w) h)

  pub record-none : length file / w ≤ i → record_at w file i ≡ []
  unfolding record_at
  record-none h = simp (le-ltb i (length file / w) h)

  pub record-fits : i < length file / w → i * w + w ≤ length file
  record-fits h =
      let all : suc i * w ≤ length file = le_trans (mul-le-mul_right w h) (div-mul-le_self (length file) w) in
      omega (arith, suc-mul i w)

  pub record-length : i < length file / w → length (record_at w file i) ≡ w
  record-length h =
      rw (record-here h) (omega (arith, part_length file (i * w) (i * w + w) (omega arith) (record-fits h)))

  -- a part of a record is a part of its file
  pub record-part : i < length file / w → (from to : ℕ) → to ≤ w
      → part (record_at w file i) from to ≡ part file (i * w + from) (i * w + to)
  record-part h from to k = rw (record-here h) (part-part file (i * w) w from to k)
