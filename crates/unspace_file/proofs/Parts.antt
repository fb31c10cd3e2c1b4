-- A file rewritten in parts: the first record with zero bytes, the last with bytes 255, and what stands between them as it
-- came. So do a program that holds one record at a time, and one that lends header and trailer alone.
-- Assumes nothing.
use Prim.Native.Nat.{ℕ, zero, suc, ◌+◌, ◌-◌, ◌≤◌}
use mathlib.Core.Path.{◌≡◌, refl, sym, ap, ap₂, ◌∙◌}
use mathlib.Core.Bool.{Bool, true, false, cond}
use mathlib.Core.List.{List, [], ◌∷◌, ◌++◌, append_assoc}
use native.Mathlib.Omega.{arith}
use native.Mathlib.Nat.{zero-add, suc-add}
use lib.ListN.{length, set, take, length-append}
use lib.Seq.{set-append_left, take-append-le, drop-append_seam}
use Rattle.field.specs.Test.{only}
use Rattle.unspace_file.specs.Unspaced.{filled, spaces_at, rewritten, whole_records, last_start, unspaced}
use Rattle.unspace_file.proofs.Laws.{length-filled, length-rewritten, unspaced-whole}

set_append_right : (l m : List ℕ) (i b : ℕ) → set (l ++ m) (length l + i) b ≡ l ++ set m i b
set_append_right [] m i b = ap (λ (k : ℕ). set m k b) (zero-add i)
set_append_right (x ∷ l) m i b =
    ap (λ (k : ℕ). set (x ∷ (l ++ m)) k b) (suc-add (length l) i) ∙ ap (λ (r : List ℕ). x ∷ r) (set_append_right l m i b)

filled-front : (n b : ℕ) (l m : List ℕ) → n ≤ length l → filled n 0 b (l ++ m) ≡ filled n 0 b l ++ m
filled-front zero b l m h = refl
filled-front (suc n) b l m h =
    ap (λ (r : List ℕ). set r (0 + n) b) (filled-front n b l m (omega arith))
    ∙ set-append_left (filled n 0 b l) m (0 + n) b (omega (arith, length-filled 0 b l n))

filled-end : (n b : ℕ) (l m : List ℕ) → filled n (length l) b (l ++ m) ≡ l ++ filled n 0 b m
filled-end zero b l m = refl
filled-end (suc n) b l m =
    ap (λ (r : List ℕ). set r (length l + n) b) (filled-end n b l m)
    ∙ (set_append_right l (filled n 0 b m) n b ∙ ap (λ (k : ℕ). l ++ set (filled n 0 b m) k b) (sym (zero-add n)))

spaces-front : (w : ℕ) (l m : List ℕ) → w ≤ length l → spaces_at w 0 (l ++ m) ≡ spaces_at w 0 l
spaces-front w l m h = ap (only 32) (take-append-le (0 + w - 0) l m (omega arith))

spaces-end : (w : ℕ) (l m : List ℕ) → spaces_at w (length l) (l ++ m) ≡ spaces_at w 0 m
spaces-end w l m =
    ap₂ (λ (n : ℕ) (r : List ℕ). only 32 (take n r)) (let z : length l + w - length l ≡ 0 + w - 0 = omega arith in z)
    (drop-append_seam l m)

pub rewritten-front : (w b : ℕ) (l m : List ℕ) → w ≤ length l → rewritten w 0 b (l ++ m) ≡ rewritten w 0 b l ++ m
unfolding rewritten
rewritten-front w b l m h =
    ap (λ (t : Bool). cond t (filled w 0 b (l ++ m)) (l ++ m)) (spaces-front w l m h) ∙ by-test (spaces_at w 0 l)
  where
    by-test : (t : Bool) → cond t (filled w 0 b (l ++ m)) (l ++ m) ≡ cond t (filled w 0 b l) l ++ m
    by-test true = filled-front w b l m h
    by-test false = refl

pub rewritten-end : (w b : ℕ) (l m : List ℕ) → rewritten w (length l) b (l ++ m) ≡ l ++ rewritten w 0 b m
unfolding rewritten
rewritten-end w b l m =
    ap (λ (t : Bool). cond t (filled w (length l) b (l ++ m)) (l ++ m)) (spaces-end w l m) ∙ by-test (spaces_at w 0 m)
  where
    by-test : (t : Bool) → cond t (filled w (length l) b (l ++ m)) (l ++ m) ≡ l ++ cond t (filled w 0 b m) m
    by-test true = filled-end w b l m
    by-test false = refl

-- "two or more whole records": the first, the last, and whatever stands between them
pub in_parts : (width w : ℕ) → w ≤ width → (head body end : List ℕ) → length head ≡ width → length end ≡ width
    → whole_records width w (head ++ (body ++ end)) ≡ true
    → unspaced width w (head ++ (body ++ end)) ≡ rewritten w 0 0 head ++ (body ++ rewritten w 0 255 end)
in_parts width w narrow head body end head-long end-long whole =
    unspaced-whole width w (head ++ (body ++ end)) whole
    ∙ (ap (rewritten w (last_start width w (head ++ (body ++ end))) 255)
    (rewritten-front w 0 head (body ++ end) (omega arith) ∙ sym (append_assoc (rewritten w 0 0 head) body end))
    ∙ (ap (λ (k : ℕ). rewritten w k 255 (rewritten w 0 0 head ++ body ++ end)) last-is
    ∙ (rewritten-end w 255 (rewritten w 0 0 head ++ body) end
    ∙ append_assoc (rewritten w 0 0 head) body (rewritten w 0 255 end))))
  where
    last-is : length (head ++ (body ++ end)) - width ≡ length (rewritten w 0 0 head ++ body)
    last-is =
        omega (
          arith,
          length-append head (body ++ end),
          length-append body end,
          length-append (rewritten w 0 0 head) body,
          length-rewritten w 0 0 head,
          head-long,
          end-long,
        )
