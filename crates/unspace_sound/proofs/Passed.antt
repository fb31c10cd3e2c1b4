-- The first and the last record of a rewritten file are those of the file, each rewritten by itself. That a file is rewritten so,
-- part by part, is `in_parts` of `unspace_file`.
-- Assumes nothing.
use Prim.Native.Nat.{ℕ, zero, suc, ◌+◌, ◌-◌, ◌/◌, ◌≤◌, ◌<◌}
use mathlib.Core.Path.{◌≡◌, refl, sym, ap, ◌∙◌}
use mathlib.Core.Bool.{Bool, true, false}
use mathlib.Core.List.{List, [], ◌∷◌}
use native.Mathlib.Omega.{arith}
use borrow.Author.Tests.{eqb-true, ltb-true, ltb-false}
use lib.Dec.{eqb, ltb}
use lib.ListN.{length, get_or}
use lib.Seq.{ext_get_or}
use Rattle.field.specs.Test.{only}
use Rattle.field.specs.Text.{part}
use Rattle.field.proofs.Tests.{and_left, and_right}
use Rattle.file_record.specs.Parts.{record_at}
use Rattle.file_record.proofs.Records.{part_length}
use Rattle.unspace_file.specs.Unspaced.{spaces_at, rewritten, whole_records, unspaced}
use Rattle.unspace_file.proofs.Laws.{filled_within, rewritten-spaces, rewritten-other, length-rewritten, rewritten-behind}
use Rattle.unspace_sound.proofs.Ends.{spaced, Renewed, head-renewed, end-renewed}
use Rattle.unspace_sound.proofs.Follow.{front-byte, renewed-same}

only-byte : (b : ℕ) (s : List ℕ) → only b s ≡ true → (i : ℕ) → i < length s → get_or s i 0 ≡ b
only-byte b [] e i h = absurd (omega arith)
only-byte b (x ∷ s) e zero h = eqb-true x b (and_left (eqb x b) (only b s) e)
only-byte b (x ∷ s) e (suc i) h = only-byte b s (and_right (eqb x b) (only b s) e) i (omega arith)

-- a record whose identifier was rewritten in its file is the record rewritten
module _ (w b : ℕ) (old new : List ℕ) (r : Renewed w b old new) where
  at_front : spaces_at w 0 old ≡ spaced w old
  unfolding spaced
  at_front = ap (λ (n : ℕ). only 32 (part old 0 n)) (let z : 0 + w ≡ w = omega arith in z)

  renewed-is : new ≡ rewritten w 0 b old
  renewed-is = by-test (spaced w old) refl
    where
      by_byte : spaced w old ≡ true → (j : ℕ) (t : Bool) → ltb j w ≡ t → get_or new j 0 ≡ get_or (rewritten w 0 b old) j 0
      by_byte e j true h =
          let low = ltb-true j w h in
          sym (front-byte new w j low)
          ∙ (only-byte b (part new 0 w) (r.spaces e) j (omega (arith, part_length new 0 w (omega arith) r.wide))
          ∙ sym
          (ap (λ (l : List ℕ). get_or l j 0) (rewritten-spaces w 0 b old (at_front ∙ e))
          ∙ filled_within 0 b old w j (omega (arith, r.wide, r.long)) (omega arith) (omega arith)))
      by_byte e j false h =
          r.behind j (ltb-false j w h) ∙ sym (rewritten-behind w 0 b old j (omega (arith, ltb-false j w h)))

      by-test : (t : Bool) → spaced w old ≡ t → new ≡ rewritten w 0 b old
      by-test true e =
          ext_get_or 0 new (rewritten w 0 b old) (r.long ∙ sym (length-rewritten w 0 b old)) (λ j h. by_byte e j (ltb j w) refl)
      by-test false e = renewed-same w b old new r e ∙ sym (rewritten-other w 0 b old (at_front ∙ e))

module _ (width w : ℕ) (narrow : w ≤ width) (file : List ℕ) (whole : whole_records width w file ≡ true) where
  pub first-passed : record_at width (unspaced width w file) 0 ≡ rewritten w 0 0 (record_at width file 0)
  first-passed = renewed-is w 0 _ _ (head-renewed width w narrow file whole)

  pub last-passed : record_at width (unspaced width w file) (length file / width - 1)
      ≡ rewritten w 0 255 (record_at width file (length file / width - 1))
  last-passed = renewed-is w 255 _ _ (end-renewed width w narrow file whole)
