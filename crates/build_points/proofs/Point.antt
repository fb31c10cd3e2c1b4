-- A point, part by part, and the offsets of its keys, one by one.
-- Assumes nothing.
use Prim.Native.Nat.{ℕ, zero, suc, ◌+◌, ◌≤◌, ◌<◌}
use mathlib.Core.Path.{◌≡◌, refl, sym, ap, subst, ◌∙◌}
use mathlib.Core.Logic.{⊎_elim}
use native.Mathlib.Nat.{eq-or-lt_of_le}
use mathlib.Core.List.{List, [], ◌∷◌, ◌++◌}
use native.Mathlib.Omega.{arith}
use lib.ListN.{length, get_or}
use lib.Seq.{ext_get_or}
use Rattle.source.specs.declared.DeliveryPoint.{DeliveryPoint}
use Rattle.label.specs.Put.{Put}
use Rattle.label.proofs.Going.{Going, going_start, going_step}
use Rattle.pack.specs.Numbers.{bytes_of}
use Rattle.std.specs.Array.{IsFromFnResultFrom}
use Rattle.std.specs.Fn.{Called}
use denote.Param.Members.{Mut}
use Rattle.build.specs.Bytes.{key_offset, offsets_for, offset_bytes, organisation_offset, front_in, plain_in, point_with}

-- offset i of these keys' rows
abbrev pub offset_at : (starts keys rows : List ℕ) → ℕ → ℕ
offset_at starts keys rows i = key_offset starts (get_or keys i 0) (get_or rows i 0)

module _ (starts : List ℕ) where
  offsets-at : (keys rows : List ℕ) (i : ℕ) → i < length keys → i < length rows
      → get_or (offsets_for starts keys rows) i 0 ≡ offset_at starts keys rows i
  offsets-at [] rows i h l = absurd (omega arith)
  offsets-at (k ∷ keys) [] i h l = absurd (omega arith)
  offsets-at (k ∷ keys) (r ∷ rows) zero h l = refl
  offsets-at (k ∷ keys) (r ∷ rows) (suc i) h l = offsets-at keys rows i (omega arith) (omega arith)

  offsets-long : (keys rows : List ℕ) → length keys ≡ length rows → length (offsets_for starts keys rows) ≡ length keys
  offsets-long [] rows e = refl
  offsets-long (k ∷ keys) [] e = absurd (omega arith)
  offsets-long (k ∷ keys) (r ∷ rows) e = ap suc (offsets-long keys rows (omega arith))

  -- seven numbers that are the offsets of seven keys, each by its place
  pub offsets-are : (keys rows offsets : List ℕ) → length keys ≡ 7 → length rows ≡ 7 → length offsets ≡ 7
      → ((i : ℕ) → i < 7 → get_or offsets i 0 ≡ offset_at starts keys rows i)
      → offsets ≡ offsets_for starts keys rows
  offsets-are keys rows offsets seven also long each =
      ext_get_or 0 offsets (offsets_for starts keys rows)
      (long ∙ sym (offsets-long keys rows (seven ∙ sym also) ∙ seven))
      (λ i l.
      each i (omega (arith, long)) ∙ sym (offsets-at keys rows i (omega (arith, long)) (omega (arith, long))))

-- an array made by calls that leave the closure as it was has what each call gives
module _ {F : Type 0} (g : Mut F (ℕ × Unit {0}) ℕ) (f : F) (h : ℕ → ℕ)
    (call : (i y : ℕ) (q : F) → Called g f (i, tt) y q → (q ≡ f) × (y ≡ h i)) (ys : List ℕ) where
  pub made-each : (n i : ℕ) → IsFromFnResultFrom g f ys i n → (k : ℕ) → i ≤ k → k < i + n → get_or ys k 0 ≡ h k
  made-each zero i made k low high = absurd (omega arith)
  made-each (suc n) i made k low high =
      let step = call i made.1 made.0 made.3 in
      let rest = subst (λ (p : F). IsFromFnResultFrom g p ys (i + 1) n) step.0 made.4 in
      ⊎_elim (λ here. ap (λ (j : ℕ). get_or ys j 0) (sym here) ∙ (made.2.1 0 ∙ (step.1 ∙ ap h here)))
      (λ later. made-each n (i + 1) rest k (omega arith) (omega arith)) (eq-or-lt_of_le low)

module _ (own : List ℕ) (p : DeliveryPoint) (offsets : List ℕ) (row : ℕ) where
  -- the last of a point, and the offsets of the keys before it
  abbrev pub last_offset : List ℕ
  last_offset = bytes_of 4 (organisation_offset p row)

  abbrev pub offsets_of : List ℕ
  offsets_of = offset_bytes offsets ++ last_offset

  module _ {out : List ℕ} {at : ℕ} (h : at + length (point_with own p offsets row) ≤ length out) where
    pub point-start : Going (point_with own p offsets row) (front_in own p ++ (plain_in own p ++ offsets_of)) out at at out
    unfolding point_with
    point-start = going_start (point_with own p offsets row) out at

    module _ {x : List ℕ} {i : ℕ} (v : Put (front_in own p) out at i x) where
      pub after_front : Going (point_with own p offsets row) (plain_in own p ++ offsets_of) out at i x
      after_front = going_step (plain_in own p ++ offsets_of) point-start v h

      module _ {y : List ℕ} {j : ℕ} (w : Put (plain_in own p) x i j y) where
        pub after-plain : Going (point_with own p offsets row) offsets_of out at j y
        after-plain = going_step offsets_of after_front w h

        pub after-keys : {z : List ℕ} {k : ℕ} → Put (offset_bytes offsets) y j k z
            → Going (point_with own p offsets row) last_offset out at k z
        after-keys u = going_step last_offset after-plain u h
