-- The table file and the point file are of such formats.
-- Assumes nothing.
use Prim.Native.Nat.{ℕ, suc, ◌+◌, ◌-◌, ◌≤◌, ◌<◌}
use mathlib.Core.Path.{◌≡◌, refl, ap, ap₂, ◌∙◌}
use mathlib.Core.Bool.{Bool, true, false, cond, ◌||◌}
use mathlib.Core.List.{List}
use native.Mathlib.Omega.{arith}
use native.Mathlib.Nat.{eq-or-lt_of_le}
use mathlib.Core.Logic.{⊎_elim}
use borrow.Author.Tests.{eqb-false}
use lib.Dec.{eqb, lit≤}
use lib.ListN.{get_or}
use Rattle.field.specs.Digits.{digit}
use Rattle.file_record.specs.Parts.{record_at}
use Rattle.file_record.specs.Names.Table
use Rattle.file_record.specs.Names.Point
use Rattle.file_record.proofs.Records.{record-length}
use Rattle.file.specs.Check.{Format, records, at, higher, rises, in_place}
use Rattle.file.specs.Formats.{changes, table_format, point_format, needed, follows, placed}
use Rattle.unspace_file.specs.Unspaced.{whole_records, unspaced}
use Rattle.unspace_file.proofs.Records.{record-middle}
use Rattle.unspace_sound.proofs.Ends.{header-kept, trailer-kept, head-renewed, end-renewed}
use Rattle.unspace_sound.proofs.Follow.{begins-digit, owner-kept, follower-kept}
use Rattle.unspace_sound.proofs.Reader.{Identified, judged-kept}

-- a record between header and trailer is as it was, and so is the one before it, unless that is the header
module _ (f : Format) (w : ℕ) (narrow : w ≤ f.width) (file : List ℕ) (i : ℕ) (low : 1 ≤ i) (high : i < records f file - 1)
  where
    abbrev new : List ℕ
    new = unspaced f.width w file

    pub here-kept : at f new i ≡ at f file i
    here-kept = record-middle f.width w narrow file i low high

    pub rises-kept : rises f new i ≡ rises f file i
    rises-kept = by-test (eqb i 1) refl
      where
        by-test : (t : Bool) → eqb i 1 ≡ t → t || higher f (at f new (i - 1)) (at f new i) ≡ t || higher f (at f file (i - 1)) (at f file i)
        by-test true e = refl
        by-test false e =
            let first : i ≡ 1 → ⊥ = eqb-false i 1 e in
            ap₂ (higher f) (record-middle f.width w narrow file (i - 1) (omega arith) (omega arith)) here-kept

pub table-identified : Identified table_format Table.identifier
table-identified =
    record {
      some = lit≤ tt;
      narrow = lit≤ tt;
      heads = header-kept Table.identifier (lit≤ tt) (changes 49);
      ends = trailer-kept Table.identifier (lit≤ tt);
      between =
          λ file all i low high.
          judged-kept table_format (unspaced Table.width Table.identifier file) file i
          (here-kept table_format Table.identifier (lit≤ tt) file i low high)
          (rises-kept table_format Table.identifier (lit≤ tt) file i low high) (λ e. refl);
    }

-- neighbours that are header or trailer own and follow nothing, before and after
module _ (file : List ℕ) (all : whole_records Point.width Point.identifier file ≡ true) (i : ℕ) (low : 1 ≤ i)
    (high : i < records point_format file - 1) (well_formed : point_format.fault (at point_format file i) ≡ 0) where
  abbrev after : List ℕ
  after = unspaced Point.width Point.identifier file

  abbrev rec : List ℕ
  rec = record_at Point.width file i

  dated : digit (get_or rec 0 0) ≡ true
  dated =
      begins-digit rec (omega (arith, record-length Point.width file i (omega arith))) well_formed

  before-kept : follows (record_at Point.width after (i - 1)) rec ≡ follows (record_at Point.width file (i - 1)) rec
  before-kept =
      ⊎_elim
      (λ (e : 1 ≡ i).
      let first : i - 1 ≡ 0 = omega arith in
      rw first
      (owner-kept Point.identifier 0 (lit≤ tt) refl _ _
      (head-renewed Point.width Point.identifier (lit≤ tt) file all) rec dated))
      (λ (h : 1 < i).
      ap (λ (r : List ℕ). follows r rec)
      (record-middle Point.width Point.identifier (lit≤ tt) file (i - 1) (omega arith) (omega arith)))
      (eq-or-lt_of_le low)

  next-kept : follows rec (record_at Point.width after (i + 1)) ≡ follows rec (record_at Point.width file (i + 1))
  next-kept =
      ⊎_elim
      (λ (e : suc i ≡ records point_format file - 1).
      let next : i + 1 ≡ records point_format file - 1 = omega arith in
      rw next
      (follower-kept Point.identifier 255 (lit≤ tt) refl _ _
      (end-renewed Point.width Point.identifier (lit≤ tt) file all) rec dated))
      (λ (h : suc i < records point_format file - 1).
      ap (follows rec)
      (record-middle Point.width Point.identifier (lit≤ tt) file (i + 1) (omega arith) (omega arith)))
      (eq-or-lt_of_le high)

  pub placed-kept : in_place point_format after i ≡ in_place point_format file i
  unfolding placed
  placed-kept =
      ap (λ (r : List ℕ). placed (record_at Point.width after (i - 1)) r (record_at Point.width after (i + 1)))
      (here-kept point_format Point.identifier (lit≤ tt) file i low high)
      ∙ ap₂ (λ (next before : Bool). cond (eqb (get_or rec Point.type 0) 49) (eqb (needed rec) 0 || next) before) next-kept before-kept

pub points-identified : Identified point_format Point.identifier
points-identified =
    record {
      some = lit≤ tt;
      narrow = lit≤ tt;
      heads = header-kept Point.identifier (lit≤ tt) (changes 50);
      ends = trailer-kept Point.identifier (lit≤ tt);
      between =
          λ file all i low high.
          judged-kept point_format (unspaced Point.width Point.identifier file) file i
          (here-kept point_format Point.identifier (lit≤ tt) file i low high)
          (rises-kept point_format Point.identifier (lit≤ tt) file i low high) (placed-kept file all i low high);
    }
