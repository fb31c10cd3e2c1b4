-- Laws of the lines that are written.
-- Assumes nothing.
use Prim.Native.Nat.{ℕ, ◌+◌, ◌/◌, ◌%◌, ◌≤◌, ◌<◌}
use mathlib.Core.Path.{◌≡◌, sym, ap, subst, ◌∙◌}
use mathlib.Core.List.{List, [], ◌∷◌, ◌++◌}
use native.Mathlib.Omega.{arith}
use native.Mathlib.Nat.{div-lt_self}
use lib.ListN.{length, drop, replicate, length-append, take-append-drop}
use lib.Seq.{take-append_seam, drop-append_seam, length-take-le}
use Rattle.label.specs.Put.{Put}
use Rattle.label.proofs.Puts.{room-first, room_after, put_then, put_as}
use Rattle.item.specs.Lines.{decimal}
use Rattle.item.proofs.Decimals.{decimal-more}
use Rattle.item_write.specs.declared.Line.{Line}
use Rattle.item_write.specs.Line.{Holds}

-- ---- decimal digits

pub tens-less : (n : ℕ) → 10 ≤ n → n / 10 < n
tens-less n h = div-lt_self (omega arith) (omega arith)

module _ (n at : ℕ) (o : List ℕ) (h : 10 ≤ n) (r : at + length (decimal n) ≤ length o) where
  abbrev last : List ℕ
  last = (48 + n % 10) ∷ []

  room : at + length (decimal (n / 10) ++ last) ≤ length o
  room = rw (decimal-more n h) at r

  pub tens-room : at + length (decimal (n / 10)) ≤ length o
  tens-room = room-first (decimal (n / 10)) last o at room

  module _ {x : List ℕ} {i : ℕ} (tens : Put (decimal (n / 10)) o at i x) where
    pub last-room : i + length last ≤ length x
    last-room = room_after last tens room

    pub digits-put : {y : List ℕ} {j : ℕ} → Put last x i j y → Put (decimal n) o at j y
    digits-put one = put_as (sym (decimal-more n h)) (put_then tens one room)

-- ---- a line in a buffer of its own

-- a text that was put into a fresh buffer
pub line-holds : (line : Line) {text : List ℕ} → length text ≤ 80
    → Put text (replicate 80 0) 0 line.len line.bytes
    → Holds line text
line-holds line {text} h v =
    let behind = drop (0 + length text) (replicate {A = ℕ} 80 0) in
    let front : 0 + length text ≡ length text = omega arith in
    let size : line.len ≡ length text = v.size ∙ front in
    record {
      within = omega (arith, size, ap length v.is, length-append text behind);
      is = rw (size, v.is) (take-append_seam text behind);
      rest = rw (size, v.is) (drop-append_seam text behind ∙ ap (λ (n : ℕ). drop n (replicate 80 0)) front);
      short = h;
    }

-- the same text, said otherwise
pub holds_as : {line : Line} {text other : List ℕ} → text ≡ other → Holds line text → Holds line other
holds_as {line} e h = subst (Holds line) e h

-- each text has one line: its length and all of its buffer
module _ {text : List ℕ} where
  holds-len : (line : Line) → Holds line text → line.len ≡ length text
  holds-len line h = sym (length-take-le line.len line.bytes h.within) ∙ ap length h.is

  holds-bytes : (line : Line) → Holds line text → line.bytes ≡ text ++ drop (length text) (replicate 80 0)
  holds-bytes line h =
      sym (take-append-drop line.len line.bytes) ∙ (ap (λ (l : List ℕ). l ++ drop line.len line.bytes) h.is
      ∙ ap (λ (l : List ℕ). text ++ l) h.rest)

  pub holds-one : (line other : Line) → Holds line text → Holds other text
      → (line.len ≡ other.len) × (line.bytes ≡ other.bytes)
  holds-one line other h k =
      (holds-len line h ∙ sym (holds-len other k), holds-bytes line h ∙ sym (holds-bytes other k))
