-- Rows that are written one by one, or line by line.
-- Assumes nothing.
use Prim.Native.Nat.{ℕ, ◌+◌, ◌≤◌, ◌<◌}
use mathlib.Core.Path.{◌≡◌, ap, ◌∙◌}
use mathlib.Core.Bool.{true, false}
use mathlib.Core.List.{List, [], ◌∷◌, ◌++◌}
use native.Mathlib.Omega.{arith}
use borrow.Author.Tests.{eqb-true, eqb-false}
use lib.Dec.{eqb}
use lib.ListN.{length, take, drop}
use Rattle.label.specs.Label.{ended}
use Rattle.label.proofs.Places.{ended-append}
use Rattle.label.proofs.Going.{Going, going-as}
use Rattle.van.specs.Fold.{columns, first_of, left_of}
use Rattle.van.specs.Walk.{line_length, line_rows, text_rows}
use Rattle.van.proofs.Rows.{rows_short, rows_long, rows_none, rows_next}

-- what is to write yet: a row and those behind it, or the last row; a line's rows and those behind it, or nothing
module _ {whole o x : List ℕ} {s i : ℕ} (rest : List ℕ) where
  module _ (going : Going whole (ended (line_rows rest)) o s i x) where
    pub row-going : {row left : List ℕ} → row ≡ (first_of rest).bytes → left ≡ left_of rest → columns < length rest
        → Going whole (ended (row ∷ []) ++ ended (line_rows left)) o s i x
    row-going {row} {left} first behind h =
        let next : line_rows rest ≡ row ∷ line_rows left = rw (first, behind) (rows_long rest h) in
        going-as (ap ended next ∙ ended-append (row ∷ []) (line_rows left)) going

    pub row_last : length rest ≤ columns → Going whole (ended (rest ∷ [])) o s i x
    row_last h = going-as (ap ended (rows_short rest h)) going

  module _ (going : Going whole (ended (text_rows rest)) o s i x) where
    pub line-going : {line left : List ℕ} → line ≡ take (line_length rest) rest → left ≡ drop (line_length rest + 1) rest
        → eqb (length rest) 0 ≡ false → Going whole (ended (line_rows line) ++ ended (text_rows left)) o s i x
    line-going {line} {left} first behind some =
        let h : 0 < length rest = omega (arith, eqb-false (length rest) 0 some) in
        let next : text_rows rest ≡ line_rows line ++ text_rows left = rw (first, behind) (rows_next rest h) in
        going-as (ap ended next ∙ ended-append (line_rows line) (text_rows left)) going

    pub line-none : eqb (length rest) 0 ≡ true → Going whole [] o s i x
    line-none none = going-as (ap ended (rows_none rest (omega (arith, eqb-true (length rest) 0 none)))) going
