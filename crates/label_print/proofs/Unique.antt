-- What `print_label` leaves untouched.
-- Assumes nothing.
use mathlib.Core.Path.{◌≡◌, ap, ◌∙◌}
use mathlib.Core.List.{List}
use Prim.Native.Nat.{ℕ, zero, suc, ◌-◌, ◌≤◌}
use native.Mathlib.Nat.{sub-zero, zero-sub, suc-sub-suc}
use native.Mathlib.Omega.{arith}
use lib.ListN.{length, drop, replicate, length-replicate}
use lib.Seq.{drop-append_seam}
use Rattle.refusal.specs.Outcome.{Outcome}
use Rattle.label.specs.Label.{room_outcome}
use Rattle.label.proofs.Room.{room_fits}
use Rattle.refusal.specs.Answer.{Answer}

-- bytes behind the text stay as they were
pub tail-kept : (text out : List ℕ) → length text ≤ length out
    → drop (length text) (room_outcome text out).memory ≡ drop (length text) out
tail-kept text out h =
    ap (λ (o : Outcome Answer). drop (length text) o.memory) (room_fits text out h)
    ∙ drop-append_seam text (drop (length text) out)

abbrev pub zeros : ℕ → List ℕ
zeros n = replicate n 0

drop-zeros : (n m : ℕ) → drop n (zeros m) ≡ zeros (m - n)
drop-zeros zero m = rw (sub-zero m)
drop-zeros (suc n) zero = rw (zero-sub (suc n))
drop-zeros (suc n) (suc m) = drop-zeros n m ∙ rw (suc-sub-suc m n)

-- "A fresh label buffer is 499 zero bytes": what the label leaves untouched is still zero
pub fresh-tail : (text : List ℕ) → length text ≤ 499
    → drop (length text) (room_outcome text (zeros 499)).memory ≡ zeros (499 - length text)
fresh-tail text h = tail-kept text (zeros 499) (fits h) ∙ drop-zeros (length text) 499
  where
    size : (n : ℕ) → length (zeros n) ≡ n
    size n = length-replicate n _

    fits : length text ≤ 499 → length text ≤ length (zeros 499)
    fits h = omega (arith, h, size 499)
