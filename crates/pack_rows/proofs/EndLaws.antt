-- Laws of a text of a row by its ends: it is good where its bytes may stand in a text, and it is empty by its length byte.
-- Assumes nothing.
use Prim.Native.Nat.{ℕ, ◌+◌, ◌-◌, ◌≤◌, ◌<◌, min}
use mathlib.Core.Path.{◌≡◌, sym, ap, ◌∙◌}
use mathlib.Core.Bool.{Bool, true, not, ◌&&◌, ◌||◌}
use mathlib.Core.List.{List}
use native.Mathlib.Omega.{arith}
use lib.Dec.{eqb, leb}
use lib.ListN.{length, take, drop, get_or, length-drop}
use lib.Seq.{length-take-le}
use Rattle.std.proofs.lemmas.Grind.{common_steps}
use Rattle.label.specs.Lines.{is_empty}
use Rattle.pack.specs.Opening.{slot, text_good, text_end, text_at}
use Rattle.pack_rows.specs.Odds.{odds}
use Rattle.pack_rows.proofs.Texts.{empty-length}
use Rattle.pack_rows.proofs.OddLaws.{odds-none}

-- a text that ends within the rows
module _ (rows : List ℕ) (at : ℕ) (room : text_end rows at ≤ length rows) where
  abbrev size : ℕ
  size = get_or rows at 0

  abbrev text : List ℕ
  text = text_at rows at

  text-is : text ≡ take size (drop (at + 1) rows)
  text-is = rw (let same : text_end rows at - (at + 1) ≡ size = omega arith in same)

  text-length : length text ≡ size
  text-length = rw text-is (length-take-le size (drop (at + 1) rows) (omega (arith, length-drop (at + 1) rows)))

  text-byte : (i : ℕ) → i < size → get_or text i 0 ≡ get_or rows (at + 1 + i) 0
  text-byte i h = rw text-is (grind (arith, common_steps))

  pub text-empty : is_empty text ≡ eqb size 0
  text-empty = sym (empty-length text) ∙ ap (λ n. eqb n 0) text-length

  module _ (w : ℕ) (b : Bool) where
    abbrev first : Bool
    first = not (eqb (get_or rows (at + min 1 size) 0) 32)

    abbrev last : Bool
    last = not (eqb (get_or rows (at + size) 0) 32)

    pub ends-good : leb size w && (first && (last && (b || not (eqb size 0)))) ≡ true → odds text ≡ 0 → text_good (slot w b) text ≡ true
    unfolding text_good
    ends-good e none =
        let long = text-length in
        let bytes = odds-none text none in
        let empty = text-empty in
        let begin = text-byte 0 in
        let end = text-byte (size - 1) in
        grind (arith, common_steps)
