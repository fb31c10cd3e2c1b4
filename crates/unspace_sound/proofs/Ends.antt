-- Header and trailer of a rewritten file: well formed exactly where they were.
-- Assumes nothing.
use Prim.Native.Nat.{ℕ, suc, ◌+◌, ◌-◌, ◌*◌, ◌/◌, ◌≤◌, ◌<◌}
use mathlib.Core.Path.{◌≡◌, refl, sym, ap, ap₂, ◌∙◌}
use mathlib.Core.Bool.{Bool, true, false, cond, not}
use mathlib.Core.List.{List}
use native.Mathlib.Omega.{arith}
use native.Mathlib.Nat.{zero-mul}
use borrow.Author.Tests.{leb-true}
use lib.Dec.{eqb}
use lib.ListN.{length, get_or}
use Rattle.field.specs.Test.{only}
use Rattle.field.specs.Text.{part}
use Rattle.field.proofs.Tests.{and_right}
use Rattle.file_record.specs.Parts.{record_at}
use Rattle.file_record.proofs.Records.{record-length, record-part}
use Rattle.file_ends.specs.Ends.{identifier, header_ok, trailer_ok}
use Rattle.unspace_file.specs.Unspaced.{spaces_at, whole_records, last_start, unspaced}
use Rattle.unspace_file.proofs.Laws.{same-part}
use Rattle.unspace_file.proofs.Kept.{head-spaces, head-other, end-spaces, end-other}
use Rattle.unspace_file.proofs.Records.{as_many, record-like, record-long, at_last}

-- "an identifier of all spaces", w bytes
unfoldable pub spaced : ℕ → List ℕ → Bool
spaced w rec = only 32 (part rec 0 w)

-- a record whose identifier of w bytes was rewritten with b where it was spaces, and no other byte
pub record Renewed (w b : ℕ) (old new : List ℕ) : Type 0 where
  pub wide : w ≤ length new
  pub long : length new ≡ length old
  pub spaces : spaced w old ≡ true → only b (part new 0 w) ≡ true
  pub other : spaced w old ≡ false → part new 0 w ≡ part old 0 w
  pub behind : (j : ℕ) → w ≤ j → get_or new j 0 ≡ get_or old j 0

module _ (w b : ℕ) (some : 1 ≤ w) (proper : eqb b 32 ≡ false) (old new : List ℕ) (r : Renewed w b old new) where
  pub identified : not (eqb (identifier b (part new 0 w)) 0) ≡ not (eqb (identifier b (part old 0 w)) 0)
  unfolding identifier spaced
  identified = by-test (spaced w old) refl
    where
      either : (t : Bool) → true ≡ not (eqb (cond t 1 2) 0)
      either true = refl
      either false = refl

      by-test : (t : Bool) → spaced w old ≡ t
          → not (eqb (cond (only b (part new 0 w)) 1 (cond (only 32 (part new 0 w)) 2 0)) 0)
          ≡ not (eqb (cond (only b (part old 0 w)) 1 (cond (only 32 (part old 0 w)) 2 0)) 0)
      by-test true e = rw (r.spaces e, e) (either (only b (part old 0 w)))
      by-test false e = rw (r.other e) refl

  behind-part : (from to : ℕ) → w ≤ from → part new from to ≡ part old from to
  behind-part from to h = same-part new old from to r.long (λ j p q. r.behind j (omega arith))

pub header-kept : (w : ℕ) → 1 ≤ w → (name old new : List ℕ) → Renewed w 0 old new → header_ok w name new ≡ header_ok w name old
unfolding header_ok
header-kept w some name old new r =
    rw (identified w 0 some refl old new r, behind-part w 0 some refl old new r w (w + 8) (omega arith)) refl

pub trailer-kept : (w : ℕ) → 1 ≤ w → (n : ℕ) (old new : List ℕ) → Renewed w 255 old new → trailer_ok w n new ≡ trailer_ok w n old
unfolding trailer_ok
trailer-kept w some n old new r =
    rw (identified w 255 some refl old new r, behind-part w 255 some refl old new r w (w + 8) (omega arith)) refl

-- the two of a rewritten file
module _ (width w : ℕ) (narrow : w ≤ width) (file : List ℕ) (whole : whole_records width w file ≡ true) where
  abbrev new : List ℕ
  new = unspaced width w file

  abbrev n : ℕ
  n = length file / width

  at-least-two : 2 ≤ n
  at-least-two = leb-true 2 n (and_right (eqb (n * width) (length file)) _ whole)

  last-there : n - 1 < n
  last-there = omega (arith, at-least-two)

  -- an identifier is a part of the file
  identifier-at : (l : List ℕ) (i at : ℕ) → i < length l / width → i * width ≡ at
      → part (record_at width l i) 0 w ≡ part l at (at + w)
  identifier-at l i at here e =
      record-part width l i here 0 w narrow
      ∙ ap₂ (λ (from to : ℕ). part l from to) (let z : i * width + 0 ≡ at = omega arith in z)
      (let z : i * width + w ≡ at + w = omega arith in z)

  renewed : (b i at : ℕ) → i < n → i * width ≡ at
      → (spaces_at w at file ≡ true → only b (part new at (at + w)) ≡ true)
      → (spaces_at w at file ≡ false → part new at (at + w) ≡ part file at (at + w))
      → Renewed w b (record_at width file i) (record_at width new i)
  unfolding spaced
  renewed b i at here e spaces other =
      let there : i < length new / width = rw (as_many width w narrow file) here in
      let before = identifier-at file i at here e in
      let now' = identifier-at new i at there e in
      record {
        wide = omega (arith, record-length width new i there);
        long = record-long width w narrow file i;
        spaces = λ h. ap (only b) now' ∙ spaces (sym (ap (only 32) before) ∙ h);
        other = λ h. now' ∙ (other (sym (ap (only 32) before) ∙ h) ∙ sym before);
        behind = λ j h. record-like width w narrow file i j h;
      }

  pub head-renewed : Renewed w 0 (record_at width file 0) (record_at width new 0)
  head-renewed =
      renewed 0 0 0 (omega (arith, last-there)) (zero-mul width) (head-spaces width w file narrow whole)
      (head-other width w file narrow whole)

  pub end-renewed : Renewed w 255 (record_at width file (n - 1)) (record_at width new (n - 1))
  end-renewed =
      renewed 255 (n - 1) (last_start width w file) last-there
      (at_last width w narrow file whole (n - 1) last-there (let z : suc (n - 1) ≡ n = omega (arith, at-least-two) in z))
      (end-spaces width w file narrow whole) (end-other width w file narrow whole)
