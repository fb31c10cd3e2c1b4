-- Laws of refusal 8 by which fields are filled, in the order in which the code asks.
-- Assumes nothing.
use Prim.Native.Nat.{ℕ, suc}
use mathlib.Core.Path.{◌≡◌, refl, ap, ◌∙◌}
use mathlib.Core.Bool.{Bool, true, false, cond, not, ◌&&◌, ◌||◌}
use mathlib.Core.List.{List, [], ◌∷◌}
use native.Mathlib.Omega.{arith}
use borrow.Author.Tests.{ne_eqb}
use lib.Dec.{eqb}
use lib.ListN.{length}
use Rattle.source.specs.Address.{present}
use Rattle.source.specs.Resolve.{forbidden_of}
use Rattle.csv_paf.specs.Ask.{filled}

filled-length : (t : List ℕ) → not (eqb (length t) 0) ≡ filled t
filled-length [] = refl
filled-length (x ∷ xs) = ap not (ne_eqb (suc (length xs)) 0 (λ e. omega arith))

pub is-filled : {n : ℕ} (t : List ℕ) → n ≡ length t → not (eqb n 0) ≡ filled t
is-filled t e = ap (λ (m : ℕ). not (eqb m 0)) e ∙ filled-length t

pub forbidden-same : (number : ℕ) {s s' b b' t t' d d' : Bool} → s ≡ s' → b ≡ b' → t ≡ t' → d ≡ d'
    → forbidden_of s b (present number) t false d false ≡ forbidden_of s' b' (present number) t' false d' false
forbidden-same number e f g h = rw (e, f, g, h)

module _ (s b n t d : Bool) where
  pub rule-one : s && not (b || n) ≡ true → forbidden_of s b n t false d false ≡ 1
  rule-one e = ap (λ (x : Bool). cond x 1 (cond (d && not t) 2 0)) e

  pub rule-two : s && not (b || n) ≡ false → d && not t ≡ true → forbidden_of s b n t false d false ≡ 2
  rule-two e f = rw (e, f) refl

  pub no-rule : s && not (b || n) ≡ false → d && not t ≡ false → forbidden_of s b n t false d false ≡ 0
  no-rule e f = rw (e, f) refl
