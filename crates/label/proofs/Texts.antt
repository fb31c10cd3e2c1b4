-- Laws of the texts at spans, and of what an absent text gives.
-- Assumes nothing.
use Prim.Native.Nat.{ℕ, zero, suc, ◌+◌, ◌-◌, ◌≤◌, ◌<◌, min}
use mathlib.Core.Path.{◌≡◌, refl, sym, ◌∙◌}
use mathlib.Core.Bool.{Bool, true, false, cond}
use mathlib.Core.List.{List, [], ◌∷◌}
use native.Mathlib.Omega.{arith}
use native.Mathlib.Nat.{min-eq_left, min-eq_right}
use borrow.Author.Tests.{leb-true, leb-false, ne_eqb}
use lib.Dec.{leb, eqb}
use lib.ListN.{length, take, drop, length-drop, drop_of_length-le}
use lib.Seq.{take_all}
use Rattle.field.specs.Text.{part}
use Rattle.field.proofs.Texts.{part-bound}
use Rattle.label.specs.declared.Span.{Span}
use Rattle.label.specs.Lines.{is_empty}
use Rattle.label.specs.Spans.{text_in2}

-- so many bytes at a place, cut to what there is
pub cut-part : (x : List ℕ) (at n : ℕ) → at < length x
    → part x at (at + min n (length x - at)) ≡ part x at (at + n)
cut-part x at n h = by-test (leb n (length x - at)) refl
  where
    whole : (m : ℕ) → length x - at ≤ m → take (at + m - at) (drop at x) ≡ drop at x
    whole m k = take_all (at + m - at) (drop at x) (simp length-drop (omega arith))

    by-test : (t : Bool) → leb n (length x - at) ≡ t
        → take (at + min n (length x - at) - at) (drop at x) ≡ take (at + n - at) (drop at x)
    by-test true e = rw (min-eq_left (leb-true n (length x - at) e))
    by-test false e =
        let k : length x - at < n = leb-false n (length x - at) e in
        let least : min n (length x - at) ≡ length x - at = min-eq_right (omega arith) in
        rw least (whole (length x - at) (omega arith) ∙ sym (whole n (omega arith)))

-- nothing at a place past the end
pub past-part : (x : List ℕ) (at n : ℕ) → length x ≤ at → [] ≡ part x at (at + n)
past-part x at n h = rw (drop_of_length-le x h) (none (at + n - at))
  where
    none : (k : ℕ) → ◌≡◌ {A = List ℕ} [] (take k [])
    none zero = refl
    none (suc k) = refl

-- a text is no longer than its span says
pub text-short : (a b : List ℕ) (s : Span) → length (text_in2 a b s) ≤ s.len
text-short a b s = omega (arith, part-bound (cond s.first a b) s.at (s.at + s.len))

pub empty-length : (t : List ℕ) → eqb (length t) 0 ≡ is_empty t
empty-length [] = refl
empty-length (x ∷ xs) = ne_eqb (suc (length xs)) 0 (λ e. omega arith)

pub empty-true : (t : List ℕ) → length t ≡ 0 → is_empty t ≡ true
empty-true [] e = refl
empty-true (x ∷ xs) e = absurd (omega arith)

pub empty-false : (t : List ℕ) → (length t ≡ 0 → ⊥) → is_empty t ≡ false
empty-false [] h = absurd (h refl)
empty-false (x ∷ xs) h = refl
