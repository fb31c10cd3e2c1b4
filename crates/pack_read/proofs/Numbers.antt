-- Laws of numbers read from bytes.
-- Assumes nothing.
use Rattle.std.proofs.Common.{ℕ, suc, ◌+◌, ◌*◌, ◌^◌, ◌<◌, List, [], ◌∷◌, length, get_or, zero-add, arith}
use Rattle.std.proofs.lemmas.Grind.{common_steps}
use Rattle.std.proofs.Math.Nat.{pow-le-pow_right}
use Rattle.std.proofs.lemmas.Nat.{pow-add}
use Rattle.field.specs.Text.{part}
use Rattle.field.proofs.Texts.{part-bound}
use Rattle.pack.specs.Numbers.{number_from, number_at}

-- bytes say less than 256 to as many as there are
number-below : (s : List ℕ) (v w : ℕ) → ((i : ℕ) → get_or s i 0 < 256) → v < 256 ^ w → number_from v s < 256 ^ (w + length s)
number-below [] v w bytes h = grind arith
number-below (x ∷ xs) v w bytes h =
    let b = bytes 0 in
    let e = number-below xs (v * 256 + x) (w + 1) (λ i. bytes (suc i)) (omega (arith, pow-add 256 w 1)) in
    grind arith

-- and so do so many bytes at a place, some of which may be missing
pub part-below : (s : List ℕ) (at width v : ℕ) → v < 256 ^ length (part s at (at + width)) → v < 256 ^ width
part-below s at width v h =
    omega (arith, pow-le-pow_right {n = 256} (omega arith) {i = length (part s at (at + width))} {j = width} (omega (arith, part-bound s at (at + width))))

-- a part of bytes is bytes
part_bytes : (s : List ℕ) (from to : ℕ) → ((i : ℕ) → get_or s i 0 < 256) → (i : ℕ) → get_or (part s from to) i 0 < 256
part_bytes s from to bytes i = grind (arith, common_steps, bytes (from + i))

pub number-at-below : (s : List ℕ) (at width : ℕ) → ((i : ℕ) → get_or s i 0 < 256) → number_at s at width < 256 ^ width
unfolding number_at
number-at-below s at width bytes =
    part-below s at width _ (rw zero-add at (number-below (part s at (at + width)) 0 0 (part_bytes s at (at + width) bytes) (omega arith)))
