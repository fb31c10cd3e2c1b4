-- Laws of the trailer, and of the array in which row starts are kept.
-- Assumes nothing.
use Prim.Native.Nat.{ℕ, ◌+◌, ◌*◌, ◌/◌, ◌≤◌, ◌<◌}
use mathlib.Core.Path.{◌≡◌, sym, ap, ◌∙◌}
use mathlib.Core.Bool.{Bool, true, false, ◌&&◌}
use mathlib.Core.List.{List}
use native.Mathlib.Omega.{arith}
use native.Mathlib.Nat.{le_of_lt, lt-mul-div-succ, div-le_self}
use borrow.Author.Tests.{le-leb, lt-leb, eqb-true}
use lib.Dec.{eqb, leb, lit<}
use lib.ListN.{length, replicate, length-replicate}
use Rattle.field.proofs.Tests.{and_right}
use Rattle.field_outward.specs.Outward.{outward_fault}
use Rattle.pack.specs.Names.{known, point_width, trailer_width}
use Rattle.pack.specs.Opening.{edition, row_count, points_start, point_count, outward, length_said, trailer_good}
use Rattle.pack_read.specs.declared.layout.Layout.{Layout}
use Rattle.pack_read.specs.Laid.{LaidIn}
use Rattle.pack_rows.specs.Walks.{GoodRows, Cut, Starts}
use Rattle.pack_rows.specs.Marks.{Fine}
use Rattle.pack_points.specs.Ready.{Sized, Marked, Told, Kept}

module _ (pack : List ℕ) where
  abbrev width : ℕ
  width = trailer_width (edition pack)

  pub trailer-short : length pack < width → trailer_good pack ≡ false
  unfolding trailer_good
  trailer-short h = simp (lt-leb width (length pack) h)

  abbrev size-test : Bool
  size-test = eqb (points_start pack + point_width (edition pack) * point_count pack + width) (length pack)

  abbrev tests : Bool
  tests =
      known (edition pack)
      && (eqb (length_said pack) (length pack) && (eqb (outward_fault (outward pack)) 0 && size-test))

  trailer-long : width ≤ length pack → trailer_good pack ≡ tests
  unfolding trailer_good
  trailer-long h = simp (le-leb width (length pack) h)

  -- the same of what was read, one after the other
  pub trailer-tests : (l : Layout) → LaidIn pack l → l.trailer ≤ length pack
      → {k : Bool} {said fault start count : ℕ}
      → k ≡ known l.edition
      → said ≡ length_said pack
      → fault ≡ outward_fault (outward pack)
      → start ≡ points_start pack
      → count ≡ point_count pack
      → k
      && (eqb said (length pack)
      && (eqb fault 0 && eqb (start + l.point * count + l.trailer) (length pack)))
      ≡ trailer_good pack
  trailer-tests l laid long k said fault start count =
      rw (k, said, fault, start, count, laid.edition, laid.point, laid.trailer)
      (sym (trailer-long (rw laid.trailer at long)))

  pub trailer-sized : trailer_good pack ≡ true → Sized pack
  unfolding trailer_good
  trailer-sized good =
      eqb-true _ (length pack)
      (and_right (eqb (outward_fault (outward pack)) 0) size-test
      (and_right (eqb (length_said pack) (length pack)) _
      (and_right (known (edition pack)) _ (and_right (leb width (length pack)) tests good))))

-- so many stretches are enough, and keep so
module _ (pack rows : List ℕ) (fine : Bool) (kept : List ℕ) (is : Kept pack rows fine kept) where
  abbrev stretch : ℕ
  stretch = length rows / 16_384 + 1

  cut : Cut rows stretch kept
  cut =
      record {
        some = omega arith;
        small = omega (arith, div-le_self (length rows) 16_384, is.area.small);
        enough = rw is.size (le_of_lt (lt-mul-div-succ (length rows) {b = 16_384} (lit< tt)));
      }

  pub fresh : (length rows < 4_294_967_296) × (GoodRows rows × Cut rows stretch kept)
  fresh = (is.area.small, (record { count = row_count pack; good = is.area.good }, cut))

  pub told : (starts : List ℕ) → length starts ≡ length kept → Starts rows (row_count pack) stretch starts
      → Told pack rows stretch starts
  told starts e known =
      record {
        area = is.area.area;
        cut = record { some = cut.some; small = cut.small; enough = rw e cut.enough };
        kept = known;
      }

  -- and the bits are where the rows are fine and not too long
  pub covered : fine ≡ true → length rows ≤ 524_288 → Marked pack rows kept
  covered e h = record { area = is.area.area; room = omega (arith, is.size); fine = is.marked e }

pub as_long : (n : ℕ) (kept : List ℕ) → length kept ≡ length (replicate {A = ℕ} n 0) → length kept ≡ n
as_long n kept e = e ∙ length-replicate n 0

pub same_count : {rows marks : List ℕ} {n m : ℕ} → n ≡ m → Fine rows n marks → Fine rows m marks
same_count e fine = rw e at fine
