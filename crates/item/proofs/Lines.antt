-- How long the lines between labels are.
-- Assumes nothing.
use Prim.Native.Nat.{ℕ, ◌≤◌, ◌<◌}
use mathlib.Core.Path.{◌≡◌}
use mathlib.Core.Bool.{Bool, true, false, cond}
use mathlib.Core.List.{List, []}
use native.Mathlib.Omega.{arith}
use borrow.Author.Tests.{eq-eqb, ne_eqb}
use lib.Dec.{eqb}
use lib.ListN.{length, length-append}
use Rattle.item.specs.Lines.{worded, spaced_number, view_line, point_line, byte_text, refused_text}
use Rattle.item.proofs.Decimals.{decimal-short}

-- the byte of a refusal, which 4 alone has
module _ (number second : ℕ) where
  pub byte-none : (number ≡ 4 → ⊥) → [] ≡ byte_text number second
  unfolding byte_text
  byte-none n = simp (ne_eqb number 4 n)

  pub byte-some : number ≡ 4 → spaced_number second ≡ byte_text number second
  unfolding byte_text
  byte-some e = simp (eq-eqb number 4 e)

-- a number of a machine word
abbrev pub Word : ℕ → Type 0
Word n = n < 18_446_744_073_709_551_616

pub number_short : (n : ℕ) → Word n → length (spaced_number n) ≤ 80
number_short n h = omega (arith, decimal-short n h)

pub view-short : (view letter : ℕ) → Word view → length (view_line view letter) ≤ 80
unfolding view_line
view-short view letter h = simp length-append (omega (arith, decimal-short view h))

pub worded-short : (word : List ℕ) (n : ℕ) → length word ≤ 20 → Word n → length (worded word n) ≤ 80
worded-short word n short h = simp length-append (omega (arith, decimal-short n h))

pub point-short : (k : ℕ) → Word k → length (point_line k) ≤ 80
unfolding point_line
point-short k h = simp length-append (omega (arith, decimal-short k h))

module _ (number detail second : ℕ) (n : Word number) (d : Word detail) (s : Word second) where
  byte-short : length (byte_text number second) ≤ 21
  unfolding byte_text
  byte-short = by-test (eqb number 4)
    where
      by-test : (t : Bool) → length (cond t (spaced_number second) []) ≤ 21
      by-test true = omega (arith, decimal-short second s)
      by-test false = omega arith

  pub refused-short : length (refused_text number detail second) ≤ 80
  unfolding refused_text
  refused-short =
      simp length-append (omega (arith, decimal-short number n, decimal-short detail d, byte-short))
