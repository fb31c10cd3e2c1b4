-- A text that is written where it fits.
-- Assumes nothing.
use Prim.Native.Nat.{ℕ, ◌≤◌, ◌<◌}
use mathlib.Core.Path.{◌≡◌, refl, sym, ap, ◌∙◌}
use mathlib.Core.Bool.{Bool, true, false}
use mathlib.Core.List.{List, ◌++◌}
use native.Mathlib.Omega.{arith}
use borrow.Author.Tests.{le-leb, lt-leb, leb-true, leb-false}
use lib.Dec.{leb}
use lib.ListN.{length, take, drop, length-append}
use lib.Seq.{take-append_seam}
use Rattle.refusal.specs.declared.Reason.TheVariants.{Room}
use Rattle.refusal.specs.Outcome.{Outcome, said}
use Rattle.refusal.proofs.Answers.{refused-value, same-value}
use Rattle.refusal.proofs.Outcomes.{said-as, answer-of}
use Rattle.label.specs.Label.{room_outcome}
use Rattle.std.specs.Prelude.{Ok}
use Rattle.refusal.specs.Answer.{Answer, refusal}

module _ (text out : List ℕ) where
  pub room_fits : length text ≤ length out
      → room_outcome text out ≡ said (Ok (length text)) (text ++ drop (length text) out)
  unfolding room_outcome
  room_fits h = rw (le-leb (length text) (length out) h)

  pub room-short : length out < length text → room_outcome text out ≡ said (refusal 0 (Room (length text))) out
  unfolding room_outcome
  room-short h = rw (lt-leb (length text) (length out) h)

  -- one of the two
  pub data Fitting : Type 0 where
    fits : length text ≤ length out → room_outcome text out ≡ said (Ok (length text)) (text ++ drop (length text) out)
        → Fitting
    short : length out < length text → room_outcome text out ≡ said (refusal 0 (Room (length text))) out → Fitting

  pub fitting : Fitting
  fitting = by-test (leb (length text) (length out)) refl
    where
      by-test : (t : Bool) → leb (length text) (length out) ≡ t → Fitting
      by-test true e = let h = leb-true (length text) (length out) e in fits h (room_fits h)
      by-test false e = let h = leb-false (length text) (length out) e in short h (room-short h)

  -- what is answered with bytes fits, and is those bytes
  pub record Written (n : ℕ) : Type 0 where
    pub long : n ≡ length text
    pub room : length text ≤ length out
    pub written : (room_outcome text out).memory ≡ text ++ drop (length text) out

  pub room-value : (n : ℕ) → (room_outcome text out).answer ≡ Ok n → Written n
  room-value n e = by-case fitting
    where
      by-case : Fitting → Written n
      by-case (fits h is) =
          record {
            long = sym (same-value (length text) n (sym (answer-of is) ∙ e));
            room = h;
            written = ap (λ (o : Outcome Answer). o.memory) is;
          }
      by-case (short h is) = absurd (refused-value 0 n (Room (length text)) (sym (answer-of is) ∙ e))

  pub room_within : (n : ℕ) → (room_outcome text out).answer ≡ Ok n → n ≤ length (room_outcome text out).memory
  room_within n e =
      let w = room-value n e in
      omega (arith, w.long, ap length w.written, length-append text (drop (length text) out))

  pub room-front : (n : ℕ) → (room_outcome text out).answer ≡ Ok n → take n (room_outcome text out).memory ≡ text
  room-front n e =
      let w = room-value n e in
      ap (λ (m : List ℕ). take n m) w.written
      ∙ (ap (λ (k : ℕ). take k (text ++ drop (length text) out)) w.long
      ∙ take-append_seam text (drop (length text) out))

  -- as code finds it: the bytes are counted first
  pub counted-short : {n : ℕ} → n ≡ length text → length out < n → said (refusal 0 (Room n)) out ≡ room_outcome text out
  counted-short e h =
      said-as (ap (λ (k : ℕ). refusal 0 (Room k)) e) refl ∙ sym (room-short (omega (arith, e, h)))

  pub counted-written : {n : ℕ} {exit : List ℕ} → length text ≤ length out → n ≡ length text
      → exit ≡ text ++ drop (length text) out
      → said (Ok n) exit ≡ room_outcome text out
  counted-written h e w = said-as (ap Ok e) w ∙ sym (room_fits h)
