-- Laws of the offsets of points: those that are the same bytes are good alike.
-- Assumes nothing.
use Rattle.std.proofs.Common.{◌≡◌, ℕ, suc, ◌+◌, ◌*◌, ◌≤◌, ◌<◌, true, List, [], ◌∷◌, length, get_or, refl, arith}
use Rattle.std.proofs.lemmas.Grind.{common_steps}
use borrow.Author.Tests.{eqb-true}
use Rattle.field.specs.Text.{part}
use Rattle.file_compare.specs.Order.{same}
use Rattle.file_compare.proofs.Order.{order-equal}
use Rattle.pack.specs.Names.{offsets_at, rest_width}
use Rattle.pack.specs.Opening.{offset_of_point, offset_kinds, offsets_good}
use Rattle.pack_read.specs.Laid.{RestIn}
use Rattle.pack_points.proofs.FieldLaws.{four_bytes}

-- two rests whose offsets are the same bytes
module _ (pack : List ℕ) (rest other : ℕ) (room : RestIn pack rest) (room₂ : RestIn pack other)
    (alike : same (part pack (rest + offsets_at) (rest + rest_width)) (part pack (other + offsets_at) (other + rest_width)) ≡ true) where
  bytes_same : part pack (rest + offsets_at) (rest + rest_width) ≡ part pack (other + offsets_at) (other + rest_width)
  bytes_same = order-equal _ _ (eqb-true _ 0 alike)

  byte-same : (j : ℕ) → j < 32 → get_or pack (rest + offsets_at + j) 0 ≡ get_or pack (other + offsets_at + j) 0
  byte-same j h =
      let same = bytes_same in
      grind (arith, common_steps)

  offset-same : (n : ℕ) → n < 8 → offset_of_point pack rest n ≡ offset_of_point pack other n
  offset-same n h =
      let a = four_bytes pack (rest + offsets_at + 4 * n) (omega arith) in
      let b = four_bytes pack (other + offsets_at + 4 * n) (omega arith) in
      let b₀ = byte-same (4 * n) (omega arith) in
      let b₁ = byte-same (4 * n + 1) (omega arith) in
      let b₂ = byte-same (4 * n + 2) (omega arith) in
      let b₃ = byte-same (4 * n + 3) (omega arith) in
      grind arith

  offsets-from : (kinds : List ℕ) (n : ℕ) → n + length kinds ≤ 8 → offsets_good pack rest n kinds ≡ offsets_good pack other n kinds
  offsets-from [] n h = refl
  offsets-from (kind ∷ kinds) n h = rw (offset-same n (omega arith), offsets-from kinds (suc n) (omega arith))

  pub offsets-same : offsets_good pack rest 0 offset_kinds ≡ offsets_good pack other 0 offset_kinds
  offsets-same = offsets-from offset_kinds 0 (omega arith)
