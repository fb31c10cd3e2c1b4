-- Rows that are counted one by one, or line by line.
-- Assumes nothing.
use Prim.Native.Nat.{ℕ, ◌+◌, ◌*◌, ◌≤◌, ◌<◌}
use mathlib.Core.Path.{◌≡◌, ap, ap₂, subst}
use mathlib.Core.Bool.{true, false}
use mathlib.Core.List.{List, [], ◌∷◌, ◌++◌}
use native.Mathlib.Omega.{arith}
use borrow.Author.Tests.{eqb-true, eqb-false}
use lib.Dec.{eqb}
use lib.ListN.{length, take, drop, length-append}
use Rattle.label.specs.Label.{ended}
use Rattle.label.proofs.Places.{ended-append}
use Rattle.van.specs.Fold.{columns, first_of, left_of}
use Rattle.van.specs.Walk.{line_length, line_rows, text_rows}
use Rattle.van.proofs.Bounds.{rows_few, line-bytes, text-bytes}
use Rattle.van.proofs.Rows.{rows_short, rows_long, rows_none, rows_next}
use Rattle.van_fold.specs.declared.inner.Size.{Size}
use Rattle.van_fold.specs.Size.{size, size_of}

-- of `whole` all rows before `rest` are counted
pub record Counted (whole rest : List (List ℕ)) (rows bytes : ℕ) : Type 0 where
  pub of_rows : rows + length rest ≡ length whole
  pub of_bytes : bytes + length (ended rest) ≡ length (ended whole)

module _ {whole : List (List ℕ)} where
  pub counted_none : Counted whole whole 0 0
  counted_none = record { of_rows = omega arith; of_bytes = omega arith }

  pub counted-as : {l m : List (List ℕ)} {r b : ℕ} → l ≡ m → Counted whole l r b → Counted whole m r b
  counted-as {r = r} {b = b} e d = subst (λ (z : List (List ℕ)). Counted whole z r b) e d

  pub counted-more : {r b : ℕ} (some rest : List (List ℕ)) → Counted whole (some ++ rest) r b
      → Counted whole rest (r + length some) (b + length (ended some))
  counted-more some rest d =
      record {
        of_rows = omega (arith, d.of_rows, length-append some rest);
        of_bytes =
            omega (arith, d.of_bytes, ap length (ended-append some rest), length-append (ended some) (ended rest));
      }

  pub counted-row : {r b : ℕ} (row : List ℕ) {rest : List (List ℕ)} → Counted whole (row ∷ rest) r b
      → Counted whole rest (r + 1) (b + (length row + 1))
  counted-row row {rest} d =
      record {
        of_rows = omega (arith, d.of_rows);
        of_bytes = omega (arith, d.of_bytes, length-append row (10 ∷ ended rest));
      }

  pub counted-all : {r b : ℕ} → Counted whole [] r b → size r b ≡ size_of whole
  counted-all d = ap₂ size (omega (arith, d.of_rows)) (omega (arith, d.of_bytes))

  -- so much at most
  pub counted-low : {rest : List (List ℕ)} {r b : ℕ} → Counted whole rest r b
      → (r ≤ length (ended whole)) × (b ≤ length (ended whole))
  counted-low d = (omega (arith, d.of_rows, rows_few whole), omega (arith, d.of_bytes))

pub line_low : (line : List ℕ) {rest : List (List ℕ)} {r b : ℕ} → Counted (line_rows line) rest r b
    → (r ≤ 2 * length line + 1) × (b ≤ 2 * length line + 1)
line_low line d = (omega (arith, (counted-low d).0, line-bytes line), omega (arith, (counted-low d).1, line-bytes line))

-- a line of which `rest` is left
module _ {whole : List (List ℕ)} (rest : List ℕ) {r b : ℕ} (done : Counted whole (line_rows rest) r b) where
  pub line-last : length rest ≤ columns → Counted whole [] (r + 1) (b + length rest + 1)
  line-last h =
      let d = counted-row rest (counted-as (rows_short rest h) done) in
      record { of_rows = d.of_rows; of_bytes = omega (arith, d.of_bytes) }

  pub line-next : {row left : List ℕ} → row ≡ (first_of rest).bytes → left ≡ left_of rest → columns < length rest
      → Counted whole (line_rows left) (r + 1) (b + (length row + 1))
  line-next first behind h = rw (first, behind) (counted-row (first_of rest).bytes (counted-as (rows_long rest h) done))

pub text-low : (text : List ℕ) {rest : List (List ℕ)} {r b : ℕ} → Counted (text_rows text) rest r b
    → (r ≤ 2 * length text + 1) × (b ≤ 2 * length text + 1)
text-low text d = (omega (arith, (counted-low d).0, text-bytes text), omega (arith, (counted-low d).1, text-bytes text))

-- any bytes of which `rest` is left
module _ {whole : List (List ℕ)} (rest : List ℕ) {r b : ℕ} (done : Counted whole (text_rows rest) r b) where
  pub text-last : eqb (length rest) 0 ≡ true → Counted whole [] r b
  text-last none = counted-as (rows_none rest (omega (arith, eqb-true (length rest) 0 none))) done

  pub text-next : {line left : List ℕ} {s : Size} → line ≡ take (line_length rest) rest
      → left ≡ drop (line_length rest + 1) rest → s ≡ size_of (line_rows line)
      → eqb (length rest) 0 ≡ false → Counted whole (text_rows left) (r + s.rows) (b + s.bytes)
  text-next {line} {left} first behind sized some =
      let h : 0 < length rest = omega (arith, eqb-false (length rest) 0 some) in
      let next : text_rows rest ≡ line_rows line ++ text_rows left = rw (first, behind) (rows_next rest h) in
      rw sized (counted-more (line_rows line) (text_rows left) (counted-as next done))
