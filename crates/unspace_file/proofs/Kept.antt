-- What a rewritten file is: as long, the same but for its identifiers, and these proper. Rewriting twice is rewriting once.
-- Assumes nothing.
use Prim.Native.Nat.{ℕ, suc, ◌+◌, ◌-◌, ◌≤◌, ◌<◌}
use mathlib.Core.Path.{◌≡◌, refl, ap, ◌∙◌}
use mathlib.Core.Bool.{Bool, true, false}
use mathlib.Core.List.{List, [], ◌∷◌}
use mathlib.Core.Logic.{⊎_elim}
use native.Mathlib.Omega.{arith}
use borrow.Author.Tests.{eq-eqb, eqb-true}
use lib.Dec.{eqb}
use lib.ListN.{length, get_or}
use lib.Seq.{get_or-take, get_or-drop}
use Rattle.field.specs.Test.{only}
use Rattle.field.specs.Text.{part}
use Rattle.field.proofs.Tests.{and_left}
use Rattle.field.proofs.Texts.{part-bound}
use Rattle.file_record.proofs.Records.{part_length}
use Rattle.unspace_file.specs.Unspaced.{filled, spaces_at, rewritten, whole_records, last_start, unspaced, unspaced_count, Outside}
use Rattle.unspace_file.proofs.Laws.{
  same-part,
  filled_within,
  rewritten-spaces,
  rewritten-other,
  length-rewritten,
  rewritten-before,
  rewritten-behind,
  spaces-behind,
  unspaced-whole,
  unspaced-broken,
  count-whole,
  count-broken,
  two-wide,
}

-- every byte is b
pub only-each : (b : ℕ) (s : List ℕ) → ((i : ℕ) → i < length s → get_or s i 0 ≡ b) → only b s ≡ true
only-each b [] each = refl
only-each b (x ∷ s) each =
    rw (eq-eqb x b (each 0 (omega arith)), only-each b s (λ i h. each (suc i) (omega arith))) refl

-- bytes that are all b are no spaces
pub not-spaces : (b : ℕ) → eqb b 32 ≡ false → (s : List ℕ) → 1 ≤ length s → only b s ≡ true → only 32 s ≡ false
not-spaces b other [] long e = absurd (omega arith)
not-spaces b other (x ∷ s) long e =
    let same : x ≡ b = eqb-true x b (and_left (eqb x b) (only b s) e) in
    rw (same, other) refl

-- spaces that are rewritten are b throughout
rewritten-only : (w at b : ℕ) (file : List ℕ) → at + w ≤ length file → spaces_at w at file ≡ true
    → only b (part (rewritten w at b file) at (at + w)) ≡ true
rewritten-only w at b file h e =
    ap (λ (l : List ℕ). only b (part l at (at + w))) (rewritten-spaces w at b file e)
    ∙ only-each b (part (filled w at b file) at (at + w)) byte
  where
    byte : (i : ℕ) → i < length (part (filled w at b file) at (at + w)) → get_or (part (filled w at b file) at (at + w)) i 0 ≡ b
    byte i k =
        let low : i < at + w - at = omega (arith, part-bound (filled w at b file) at (at + w)) in
        get_or-take (at + w - at) _ i 0 low
        ∙ (get_or-drop at (filled w at b file) i 0 ∙ filled_within at b file w (at + i) h (omega arith) (omega arith))

module _ (width w : ℕ) (file : List ℕ) where
  abbrev new : List ℕ
  new = unspaced width w file

  abbrev last : ℕ
  last = last_start width w file

  abbrev first : List ℕ
  first = rewritten w 0 0 file

  pub length-unspaced : length new ≡ length file
  length-unspaced = by-test (whole_records width w file) refl
    where
      by-test : (t : Bool) → whole_records width w file ≡ t → length new ≡ length file
      by-test true e =
          ap length (unspaced-whole width w file e) ∙ (length-rewritten w last 255 first ∙ length-rewritten w 0 0 file)
      by-test false e = ap length (unspaced-broken width w file e)

  -- "and no other byte"
  pub unspaced-outside : (i : ℕ) → Outside width w file i → get_or new i 0 ≡ get_or file i 0
  unspaced-outside i out = by-test (whole_records width w file) refl
    where
      of-first : get_or first i 0 ≡ get_or file i 0
      of-first = rewritten-behind w 0 0 file i (omega (arith, out.0))

      by-test : (t : Bool) → whole_records width w file ≡ t → get_or new i 0 ≡ get_or file i 0
      by-test true e =
          ap (λ (l : List ℕ). get_or l i 0) (unspaced-whole width w file e)
          ∙ (⊎_elim (λ (h : i < last). rewritten-before w last 255 first i h)
          (λ (h : last + w ≤ i). rewritten-behind w last 255 first i h) out.1
          ∙ of-first)
      by-test false e = ap (λ (l : List ℕ). get_or l i 0) (unspaced-broken width w file e)

  module _ (narrow : w ≤ width) (whole : whole_records width w file ≡ true) where
    apart : w ≤ last
    apart = omega (arith, two-wide width w file whole)

    within : last + w ≤ length file
    within = omega (arith, two-wide width w file whole)

    -- the identifiers of the rewritten file: as they were, unless they were spaces
    head-part : part new 0 (0 + w) ≡ part first 0 (0 + w)
    head-part =
        ap (λ (l : List ℕ). part l 0 (0 + w)) (unspaced-whole width w file whole)
        ∙ same-part (rewritten w last 255 first) first 0 (0 + w) (length-rewritten w last 255 first)
        (λ i p q. rewritten-before w last 255 first i (omega (arith, apart)))

    pub head-spaces : spaces_at w 0 file ≡ true → only 0 (part new 0 (0 + w)) ≡ true
    head-spaces e = ap (only 0) head-part ∙ rewritten-only w 0 0 file (omega (arith, within)) e

    pub head-other : spaces_at w 0 file ≡ false → part new 0 (0 + w) ≡ part file 0 (0 + w)
    head-other e = head-part ∙ ap (λ (l : List ℕ). part l 0 (0 + w)) (rewritten-other w 0 0 file e)

    pub end-spaces : spaces_at w last file ≡ true → only 255 (part new last (last + w)) ≡ true
    end-spaces e =
        ap (λ (l : List ℕ). only 255 (part l last (last + w))) (unspaced-whole width w file whole)
        ∙ rewritten-only w last 255 first (omega (arith, within, length-rewritten w 0 0 file)) (spaces-behind w last 0 file apart ∙ e)

    pub end-other : spaces_at w last file ≡ false → part new last (last + w) ≡ part file last (last + w)
    end-other e =
        ap (λ (l : List ℕ). part l last (last + w))
        (unspaced-whole width w file whole ∙ rewritten-other w last 255 first (spaces-behind w last 0 file apart ∙ e))
        ∙ same-part first file last (last + w) (length-rewritten w 0 0 file)
        (λ i p q. rewritten-behind w 0 0 file i (omega (arith, apart)))

    module _ (some : 1 ≤ w) where
      pub head-current : spaces_at w 0 new ≡ false
      head-current = by-test (spaces_at w 0 file) refl
        where
          by-test : (t : Bool) → spaces_at w 0 file ≡ t → spaces_at w 0 new ≡ false
          by-test true e =
              not-spaces 0 refl (part new 0 (0 + w))
              (omega (arith, part_length new 0 (0 + w) (omega arith) (omega (arith, within, length-unspaced)))) (head-spaces e)
          by-test false e = ap (only 32) (head-other e) ∙ e

      pub end-current : spaces_at w last new ≡ false
      end-current = by-test (spaces_at w last file) refl
        where
          by-test : (t : Bool) → spaces_at w last file ≡ t → spaces_at w last new ≡ false
          by-test true e =
              not-spaces 255 refl (part new last (last + w))
              (omega (arith, part_length new last (last + w) (omega arith) (omega (arith, within, length-unspaced)))) (end-spaces e)
          by-test false e = ap (only 32) (end-other e) ∙ e

-- "rewriting twice is rewriting once"
pub unspaced-again : (width w : ℕ) → 1 ≤ w → w ≤ width → (file : List ℕ)
    → unspaced width w (unspaced width w file) ≡ unspaced width w file
unspaced-again width w some narrow file = by-test (whole_records width w file) refl
  where
    as_long : length (unspaced width w file) ≡ length file
    as_long = length-unspaced width w file

    by-test : (t : Bool) → whole_records width w file ≡ t → unspaced width w (unspaced width w file) ≡ unspaced width w file
    by-test true e =
        unspaced-whole width w (unspaced width w file) (rw as_long e)
        ∙ (ap (rewritten w (length (unspaced width w file) - width) 255) (rewritten-other w 0 0 (unspaced width w file) (head-current width w file narrow e some))
        ∙ rewritten-other w (length (unspaced width w file) - width) 255 (unspaced width w file) (rw as_long (end-current width w file narrow e some)))
    by-test false e = unspaced-broken width w (unspaced width w file) (rw as_long e)

-- and no identifier of spaces is left
pub unspaced-clean : (width w : ℕ) → 1 ≤ w → w ≤ width → (file : List ℕ)
    → unspaced_count width w (unspaced width w file) ≡ 0
unspaced-clean width w some narrow file = by-test (whole_records width w file) refl
  where
    as_long : length (unspaced width w file) ≡ length file
    as_long = length-unspaced width w file

    by-test : (t : Bool) → whole_records width w file ≡ t → unspaced_count width w (unspaced width w file) ≡ 0
    by-test true e =
        let head = head-current width w file narrow e some in
        let end : spaces_at w (last_start width w (unspaced width w file)) (unspaced width w file) ≡ false
        = rw as_long (end-current width w file narrow e some) in
        count-whole width w (unspaced width w file) (rw as_long e) ∙ rw (head, end) refl
    by-test false e = count-broken width w (unspaced width w file) (rw as_long e)
