-- Bytes that stand at a place of a list, and what is read there.
-- Assumes nothing.
use Prim.Native.Nat.{ℕ, ◌+◌, ◌-◌, ◌^◌, ◌≤◌, ◌<◌}
use mathlib.Core.Path.{◌≡◌, refl, sym, ap, subst, ◌∙◌}
use mathlib.Core.List.{List, [], ◌∷◌, ◌++◌, append_assoc, append-nil}
use native.Mathlib.Omega.{arith}
use lib.ListN.{length, take, drop, get_or, length-append, length-drop}
use lib.Seq.{drop-drop, take_at, drop_at, get_or-drop}
use Rattle.field.specs.Text.{part}
use Rattle.pack.specs.Numbers.{bytes_of, number_from, number_at}
use Rattle.pack_carries.proofs.Numbers.{bytes-long, number-back}

pub record Stands (whole : List ℕ) (at : ℕ) (s : List ℕ) : Type 0 where
  pub back : List ℕ
  pub rest : drop at whole ≡ s ++ back
  pub within : at ≤ length whole

pub stands-end : (front s : List ℕ) → Stands (front ++ s) (length front) s
stands-end front s =
    record {
      back = [];
      rest = drop_at front s (length front) refl ∙ sym (append-nil s);
      within = omega (arith, length-append front s);
    }

pub stands-all : (s : List ℕ) → Stands s 0 s
stands-all s = stands-end [] s

module _ {whole : List ℕ} {at : ℕ} where
  pub stands-first : (s t : List ℕ) → Stands whole at (s ++ t) → Stands whole at s
  stands-first s t h = record { back = t ++ h.back; rest = h.rest ∙ append_assoc s t h.back; within = h.within }

  module _ {s : List ℕ} (h : Stands whole at s) where
    pub stands-fits : at + length s ≤ length whole
    stands-fits =
        let l : length whole - at ≡ length s + length h.back =
        sym (length-drop at whole) ∙ (ap length h.rest ∙ length-append s h.back) in
        omega (arith, h.within)

    pub stands-part : (n : ℕ) → length s ≡ n → part whole at (at + n) ≡ s
    stands-part n e =
        let size : at + n - at ≡ n = omega arith in
        ap (λ m. take m (drop at whole)) size ∙ (ap (take n) h.rest ∙ take_at s h.back n e)

  pub stands-second : (s t : List ℕ) (n place : ℕ) → length s ≡ n → at + n ≡ place → Stands whole at (s ++ t)
      → Stands whole place t
  stands-second s t n place e p h =
      subst (λ m. Stands whole m t) p
      (record {
        back = h.back;
        rest =
            sym (drop-drop n at whole)
            ∙ (ap (drop n) (h.rest ∙ append_assoc s t h.back) ∙ drop_at s (t ++ h.back) n e);
        within = omega (arith, stands-fits h, length-append s t);
      })

  pub stands-byte : (x : ℕ) (s : List ℕ) → Stands whole at (x ∷ s) → get_or whole at 0 ≡ x
  stands-byte x s h =
      let place : at + 0 ≡ at = omega arith in
      ap (λ n. get_or whole n 0) (sym place) ∙ (sym (get_or-drop at whole 0 0) ∙ ap (λ l. get_or l 0 0) h.rest)

  pub stands-next : (x : ℕ) (s : List ℕ) → Stands whole at (x ∷ s) → Stands whole (at + 1) s
  stands-next x s h = stands-second (x ∷ []) s 1 (at + 1) refl refl h

  pub stands-number : (w n : ℕ) → n < 256 ^ w → Stands whole at (bytes_of w n) → number_at whole at w ≡ n
  unfolding number_at
  stands-number w n small h = ap (number_from 0) (stands-part h w (bytes-long w n)) ∙ number-back w n small
