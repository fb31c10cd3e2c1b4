-- What an exported function told is what its call comes to.
-- Assumes nothing.
use Prim.Native.Nat.{ℕ}
use mathlib.Core.Path.{◌≡◌, refl, ap, ◌∙◌}
use mathlib.Core.List.{List}
use Rattle.refusal.specs.Outcome.{Outcome, said}
use Rattle.refusal.specs.Packed.{packed}
use Rattle.refusal.proofs.Outcomes.{answer-of, memory-of}
use Rattle.run.specs.Packed.{packed_series, series_bytes}
use Rattle.call.specs.Call.{called, reading, writing, running, told}
use Rattle.refusal.specs.Answer.{Answer}
use Rattle.run.specs.Series.{Series}

pub called-as : {m n b d : ℕ} {x y : List ℕ} → m ≡ n → x ≡ y → b ≡ d → called m x b ≡ called n y d
called-as e f g = rw (e, f, g)

module _ {n : ℕ} {a : Answer} (is : n ≡ packed a) where
  pub told-reading : {found : Answer} {out : List ℕ} {bytes : ℕ} → a ≡ found → called n out bytes ≡ told (reading found out) bytes
  told-reading e = called-as (is ∙ ap packed e) refl refl

  pub told-writing : {o : Outcome Answer} {exit : List ℕ} {bytes : ℕ} → said a exit ≡ o
      → called n exit bytes ≡ told (writing o) bytes
  told-writing e = called-as (is ∙ ap packed (answer-of e)) (memory-of e) refl

pub told-running : {n bytes : ℕ} (before : ℕ) {s : Series} {o : Outcome Series} {exit : List ℕ} → n ≡ packed_series s
    → bytes ≡ series_bytes s before
    → said s exit ≡ o
    → called n exit bytes ≡ told (running o) before
told-running before p q e =
    called-as (p ∙ ap packed_series (answer-of e)) (memory-of e) (q ∙ ap (λ (s : Series). series_bytes s before) (answer-of e))
