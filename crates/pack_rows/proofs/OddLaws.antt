-- Laws of bytes that may stand in no text, and of their counts.
-- Assumes nothing.
use Prim.Native.Nat.{ℕ, zero, suc, ◌+◌, ◌-◌, ◌*◌, ◌≤◌, ◌<◌}
use mathlib.Core.Path.{◌≡◌, refl, ap, ◌∙◌}
use mathlib.Core.Bool.{true}
use mathlib.Core.List.{List, [], ◌∷◌, ◌++◌}
use native.Mathlib.Omega.{arith}
use borrow.Author.Tests.{lt-leb}
use lib.ListN.{length, take, drop, get_or, length-take, take-append-drop}
use lib.Seq.{take-add, drop-drop}
use Rattle.std.specs.List.{sum_by}
use Rattle.std.proofs.lemmas.List.Sums.{sum_by-cons}
use native.Mathlib.Nat.{zero-mul, suc-mul}
use Rattle.std.specs.Simd.{first_chunks}
use Rattle.std.proofs.lemmas.Grind.{common_steps}
use Rattle.std.proofs.lemmas.List.{take_more}
use Rattle.field.specs.Test.{every}
use Rattle.field.specs.Text.{text_byte}
use Rattle.pack.specs.Opening.{text_end, text_at}
use Rattle.pack_rows.specs.Odds.{odd, odds, odds_before}

-- a byte below 32 may stand in no text
pub odd_low : (b : ℕ) → b < 32 → odd b ≡ 1
odd_low b h = simp (lt-leb 32 b h)

odd-bound : (b : ℕ) → odd b ≤ 1
odd-bound b = grind (arith, common_steps)

pub odds-bound : (s : List ℕ) → odds s ≤ length s
odds-bound [] = omega arith
odds-bound (x ∷ xs) = omega (arith, odd-bound x, odds-bound xs)

odds-append : (xs ys : List ℕ) → odds (xs ++ ys) ≡ odds xs + odds ys
odds-append [] ys = omega arith
odds-append (x ∷ xs) ys = omega (arith, odds-append xs ys)

-- so many parts of one length, and the rest
pub odds-parts : (n k : ℕ) (s : List ℕ) → sum_by odds (first_chunks n k s) + odds (drop (k * n) s) ≡ odds s
odds-parts n zero s = simp zero-mul (omega arith)
odds-parts n (suc k) s =
    let behind : drop (k * n) (drop n s) ≡ drop (suc k * n) s = drop-drop (k * n) n s ∙ ap (λ i. drop i s) (omega (arith, suc-mul k n)) in
    let rest = rw behind at (odds-parts n k (drop n s)) in
    let both = rw (take-append-drop n s) at (odds-append (take n s) (drop n s)) in
    omega (arith, sum_by-cons odds (take n s) (first_chunks n k (drop n s)))

-- where none is counted, all bytes may stand in a text
pub odds-none : (s : List ℕ) → odds s ≡ 0 → every text_byte s ≡ true
odds-none [] e = refl
odds-none (x ∷ xs) e =
    let rest = odds-none xs in
    grind (arith, common_steps)

-- the counts before two places
module _ (rows : List ℕ) where
  pub odds-before-bound : (at : ℕ) → odds_before rows at ≤ length rows
  odds-before-bound at = omega (arith, odds-bound (take at rows), length-take at rows)

  pub odds-next : (at : ℕ) → at < length rows → odds_before rows (at + 1) ≡ odds_before rows at + odd (get_or rows at 0)
  odds-next at h = rw (take_more rows at 0 h) (odds-append (take at rows) (get_or rows at 0 ∷ []) ∙ ap (odds_before rows at +◌) (omega arith))

  pub odds-text : (at : ℕ) → odds_before rows (text_end rows at) ≡ odds_before rows (at + 1) + odds (text_at rows at)
  odds-text at =
      rw (let size : text_end rows at - (at + 1) ≡ get_or rows at 0 = omega arith in size)
      (ap odds (take-add (at + 1) (get_or rows at 0) rows) ∙ odds-append (take (at + 1) rows) _)
