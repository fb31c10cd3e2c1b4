-- Laws of rewriting: the length stays, and every byte outside what is rewritten.
-- Assumes nothing.
use Prim.Native.Nat.{ℕ, zero, suc, ◌+◌, ◌-◌, ◌*◌, ◌/◌, ◌≤◌, ◌<◌}
use mathlib.Core.Path.{◌≡◌, refl, sym, ap, ap₂, ◌∙◌}
use mathlib.Core.Bool.{Bool, true, false, cond}
use mathlib.Core.List.{List}
use mathlib.Core.Logic.{⊎_elim}
use native.Mathlib.Omega.{arith}
use native.Mathlib.Nat.{eq-or-lt_of_le, mul-le-mul_right}
use borrow.Author.Tests.{eqb-true, leb-true}
use lib.Dec.{eqb}
use lib.ListN.{length, set, replicate, drop, get_or, length-set, length-take, length-drop}
use borrow.Rule.Slice.PartMut.{put_mid}
use Rattle.std.proofs.lemmas.Slice.{put_mid-paste}
use Rattle.std.proofs.lemmas.List.Edits.{paste_none, fill_from_more}
use Rattle.std.proofs.lemmas.List.{length-replicate}
use lib.Seq.{paste, ext_get_or, get_or-take, get_or-drop, get_or-set_other, get_or-set_same}
use Rattle.field.specs.Test.{only}
use Rattle.field.specs.Text.{part}
use Rattle.field.proofs.Tests.{and_left, and_right}
use Rattle.field.proofs.Texts.{part-bound}
use Rattle.unspace_file.specs.Unspaced.{filled, spaces_at, rewritten, whole_records, last_start, unspaced, unspaced_count}

-- parts of two lists that have the same bytes there
pub same-part : (l m : List ℕ) (a e : ℕ) → length l ≡ length m → ((i : ℕ) → a ≤ i → i < e → get_or l i 0 ≡ get_or m i 0)
    → part l a e ≡ part m a e
same-part l m a e size each = ext_get_or 0 (part l a e) (part m a e) as_long byte
  where
    as_long : length (part l a e) ≡ length (part m a e)
    as_long = simp (length-take, length-drop, size)

    byte : (i : ℕ) → i < length (part l a e) → get_or (part l a e) i 0 ≡ get_or (part m a e) i 0
    byte i h =
        let low : i < e - a = omega (arith, part-bound l a e) in
        get_or-take (e - a) (drop a l) i 0 low
        ∙ (get_or-drop a l i 0 ∙ (each (a + i) (omega arith) (omega arith) ∙ (sym (get_or-drop a m i 0) ∙ sym (get_or-take (e - a) (drop a m) i 0 low))))

module _ (at b : ℕ) (file : List ℕ) where
  pub length-filled : (n : ℕ) → length (filled n at b file) ≡ length file
  length-filled zero = refl
  length-filled (suc n) = length-set (filled n at b file) (at + n) b ∙ length-filled n

  -- the part that is filled, put between what stands before and behind it
  filled-paste : (n : ℕ) → at + n ≤ length file → filled n at b file ≡ paste file at (replicate n b) n
  filled-paste zero h = paste_none file at (replicate 0 b)
  filled-paste (suc n) h =
      ap (λ l. set l (at + n) b) (filled-paste n (omega arith))
      ∙ (fill_from_more file at n b (omega arith)
      ∙ ap (λ k. paste file at (replicate k b) k) (let next : n + 1 ≡ suc n = omega arith in next))

  pub filled-part : (k n : ℕ) (part : List ℕ) → at + n ≤ length file → n ≡ k → part ≡ replicate k b
      → put_mid at k file part ≡ filled n at b file
  filled-part k n part h e is =
      put_mid-paste at k file part (replicate n b) n (is ∙ ap (λ m. replicate m b) (sym e)) e (sym (length-replicate n b))
      ∙ sym (filled-paste n h)

  pub filled-before : (n i : ℕ) → i < at → get_or (filled n at b file) i 0 ≡ get_or file i 0
  filled-before zero i h = refl
  filled-before (suc n) i h =
      get_or-set_other (filled n at b file) (at + n) i b 0 (λ e. omega (arith, e)) ∙ filled-before n i h

  pub filled-behind : (n i : ℕ) → at + n ≤ i → get_or (filled n at b file) i 0 ≡ get_or file i 0
  filled-behind zero i h = refl
  filled-behind (suc n) i h =
      get_or-set_other (filled n at b file) (at + n) i b 0 (λ e. omega (arith, e)) ∙ filled-behind n i (omega arith)

  pub filled_within : (n i : ℕ) → at + n ≤ length file → at ≤ i → i < at + n → get_or (filled n at b file) i 0 ≡ b
  filled_within zero i h p q = absurd (omega arith)
  filled_within (suc n) i h p q =
      ⊎_elim
      (λ (e : i ≡ at + n). rw e (get_or-set_same (filled n at b file) (at + n) b 0 (omega (arith, length-filled n))))
      (λ (e : i < at + n).
      get_or-set_other (filled n at b file) (at + n) i b 0 (λ z. omega (arith, z)) ∙ filled_within n i (omega arith) p e)
      (eq-or-lt_of_le (omega arith))

module _ (w at b : ℕ) (file : List ℕ) where
  pub rewritten-spaces : spaces_at w at file ≡ true → rewritten w at b file ≡ filled w at b file
  unfolding rewritten
  rewritten-spaces e = simp e

  pub rewritten-other : spaces_at w at file ≡ false → rewritten w at b file ≡ file
  unfolding rewritten
  rewritten-other e = simp e

  pub length-rewritten : length (rewritten w at b file) ≡ length file
  unfolding rewritten
  length-rewritten = by-test (spaces_at w at file)
    where
      by-test : (t : Bool) → length (cond t (filled w at b file) file) ≡ length file
      by-test true = length-filled at b file w
      by-test false = refl

  pub rewritten-before : (i : ℕ) → i < at → get_or (rewritten w at b file) i 0 ≡ get_or file i 0
  unfolding rewritten
  rewritten-before i h = by-test (spaces_at w at file)
    where
      by-test : (t : Bool) → get_or (cond t (filled w at b file) file) i 0 ≡ get_or file i 0
      by-test true = filled-before at b file w i h
      by-test false = refl

  pub rewritten-behind : (i : ℕ) → at + w ≤ i → get_or (rewritten w at b file) i 0 ≡ get_or file i 0
  unfolding rewritten
  rewritten-behind i h = by-test (spaces_at w at file)
    where
      by-test : (t : Bool) → get_or (cond t (filled w at b file) file) i 0 ≡ get_or file i 0
      by-test true = filled-behind at b file w i h
      by-test false = refl

-- at most one identifier stands at a place
pub at_most_one : (w at : ℕ) (file : List ℕ) (r : ℕ) → r ≡ cond (spaces_at w at file) 1 0 → r ≤ 1
at_most_one w at file r e = by-test (spaces_at w at file) e
  where
    by-test : (t : Bool) → r ≡ cond t 1 0 → r ≤ 1
    by-test true h = omega arith
    by-test false h = omega arith

-- the last identifier is spaces, whatever became of the first
pub spaces-behind : (w at b : ℕ) (file : List ℕ) → w ≤ at
    → spaces_at w at (rewritten w 0 b file) ≡ spaces_at w at file
spaces-behind w at b file h =
    ap (only 32)
    (same-part (rewritten w 0 b file) file at (at + w) (length-rewritten w 0 b file)
    (λ i p q. rewritten-behind w 0 b file i (omega arith)))

module _ (width w : ℕ) (file : List ℕ) where
  pub unspaced-whole : whole_records width w file ≡ true
      → unspaced width w file ≡ rewritten w (last_start width w file) 255 (rewritten w 0 0 file)
  unfolding unspaced
  unspaced-whole e = simp e

  pub unspaced-broken : whole_records width w file ≡ false → unspaced width w file ≡ file
  unfolding unspaced
  unspaced-broken e = simp e

  pub count-whole : whole_records width w file ≡ true
      → unspaced_count width w file
      ≡ cond (spaces_at w 0 file) 1 0 + cond (spaces_at w (last_start width w file) file) 1 0
  unfolding unspaced_count
  count-whole e = simp e

  pub count-broken : whole_records width w file ≡ false → unspaced_count width w file ≡ 0
  unfolding unspaced_count
  count-broken e = simp e

  -- "0, 1 or 2"
  pub count-few : unspaced_count width w file ≤ 2
  unfolding unspaced_count
  count-few = by_tests (whole_records width w file) (spaces_at w 0 file) (spaces_at w (last_start width w file) file)
    where
      by_tests : (t u v : Bool) → cond t (cond u 1 0 + cond v 1 0) 0 ≤ 2
      by_tests true true true = omega arith
      by_tests true true false = omega arith
      by_tests true false true = omega arith
      by_tests true false false = omega arith
      by_tests false u v = omega arith

  -- two whole records are so many bytes
  pub two-wide : whole_records width w file ≡ true → width + width ≤ length file
  two-wide e =
      let all = eqb-true (length file / width * width) (length file) (and_left (eqb (length file / width * width) (length file)) _ e) in
      let two = leb-true 2 (length file / width) (and_right (eqb (length file / width * width) (length file)) _ e) in
      omega (arith, all, mul-le-mul_right width two)

-- the first identifier, then the last of what that left
module _ (width w : ℕ) (file : List ℕ) (narrow : w ≤ width) (whole : whole_records width w file ≡ true)
    (first : List ℕ) (first_is : first ≡ rewritten w 0 0 file) where
  as_long : length first ≡ length file
  as_long = ap length first_is ∙ length-rewritten w 0 0 file

  pub counted-both : (head end : ℕ) → head ≡ cond (spaces_at w 0 file) 1 0
      → end ≡ cond (spaces_at w (length first - width) first) 1 0
      → head + end ≡ unspaced_count width w file
  counted-both head end head-is end_is =
      ap₂ ◌+◌ head-is
      (end_is
      ∙ (ap₂ (λ (n : ℕ) (l : List ℕ). cond (spaces_at w (n - width) l) 1 0) as_long first_is
      ∙ ap (λ (t : Bool). cond t 1 0)
      (spaces-behind w (last_start width w file) 0 file (omega (arith, two-wide width w file whole, narrow)))))
      ∙ sym (count-whole width w file whole)

  pub unspaced-both : (exit : List ℕ) → exit ≡ rewritten w (length first - width) 255 first → exit ≡ unspaced width w file
  unspaced-both exit exit-is =
      exit-is
      ∙ (ap₂ (λ (n : ℕ) (l : List ℕ). rewritten w (n - width) 255 l) as_long first_is
      ∙ sym (unspaced-whole width w file whole))
