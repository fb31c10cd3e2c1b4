-- Where the first line of any bytes ends, by the places that were looked at.
-- Assumes nothing.
use Prim.Native.Nat.{ℕ, suc, ◌+◌, ◌≤◌, ◌<◌}
use mathlib.Core.Path.{◌≡◌, refl, ap, ◌∙◌}
use mathlib.Core.Bool.{Bool, true, false, cond}
use mathlib.Core.List.{List}
use native.Mathlib.Omega.{arith}
use borrow.Author.Tests.{eqb-true, eqb-false, eq-eqb, ne_eqb}
use lib.Dec.{eqb}
use lib.ListN.{length, get_or}
use Rattle.std.specs.Prelude.{Option, Some, None, MatchOption}
use Rattle.std.specs.List.{position_or_len}
use Rattle.std.proofs.lemmas.List.Recursion.{is_position_or_len}
use Rattle.std.proofs.lemmas.List.Sums.{position_or_len_is}
use Rattle.van.specs.Walk.{line_length}

module _ (text : List ℕ) where
  -- no line end stands before place i
  abbrev pub NoneBefore : (i : ℕ) → Type 0
  NoneBefore i = (j : ℕ) → j < i → get_or text j 0 ≡ 10 → ⊥

  place : line_length text ≡ position_or_len (λ b. eqb b 10) text
  place =
      is_position_or_len line_length (λ b. eqb b 10) refl
      (λ b bs. ap (λ (n : ℕ). cond (eqb b 10) 0 n) (let e : suc (line_length bs) ≡ 1 + line_length bs = omega arith in e))
      text

  ends-at : (i : ℕ) → i ≤ length text → NoneBefore i → (i < length text → get_or text i 0 ≡ 10) → line_length text ≡ i
  ends-at i h none at =
      place
      ∙ position_or_len_is (λ b. eqb b 10) text i 0 h (λ j l. ne_eqb (get_or text j 0) 10 (none j l))
      (λ l. eq-eqb (get_or text i 0) 10 (at l))

  -- the first line end, or none
  abbrev pub Looked : Option ℕ → Type 0
  Looked r =
      MatchOption r (NoneBefore (length text)) (λ i. (i < length text) × (get_or text i 0 ≡ 10) × NoneBefore i)

  pub looked : (r : Option ℕ) → Looked r
      → MatchOption r (line_length text ≡ length text) (λ i. (i < length text) × (line_length text ≡ i))
  looked None none = ends-at (length text) (omega arith) none (λ l. absurd (omega arith))
  looked (Some i) at = (at.0, ends-at i (omega (arith, at.0)) at.2 (λ l. at.1))

  -- the byte at place i is the first line end, or one byte more is none
  pub ends_here : (i : ℕ) → NoneBefore i → i < length text → get_or text i 0 ≡ 10 → line_length text ≡ i
  ends_here i none h e = (looked (Some i) (h, e, none)).1

  pub none_next : (i : ℕ) → NoneBefore i → (get_or text i 0 ≡ 10 → ⊥) → NoneBefore (i + 1)
  none_next i none e j h =
      by-place (eqb j i) refl
    where
      by-place : (t : Bool) → eqb j i ≡ t → get_or text j 0 ≡ 10 → ⊥
      by-place true q = λ z. e (let same : j ≡ i = eqb-true j i q in rw same at z)
      by-place false q = none j (let other : j ≡ i → ⊥ = eqb-false j i q in omega (arith, h, other))
