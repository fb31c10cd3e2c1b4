-- `pack_open::open_pack` meets its contract. Assumes nothing.
use borrow.Author.Rules.{rules}
use mathlib.Core.Path.{◌≡◌, sym, ap, ◌∙◌}
use native.Mathlib.Omega.{arith}
use lib.Seq.{length-take-le}
use borrow.Author.Tests.{not-true, not-false}
use mathlib.Core.Bool.{true}
use Prim.Native.Nat.{ℕ, ◌≤◌}
use lib.Dec.{lit≤}
use lib.ListN.{length, take}
use mathlib.Core.List.{List}
use Rattle.pack_points.specs.Ready.{Sized, Kept}
use Rattle.pack.specs.Opening.{row_count, row_area, rows_good, trailer_good, all_rows_good, all_points_good, opened}
use Rattle.pack_rows.specs.Marks.{Fine}
use Rattle.pack_read.specs.Laid.{Trailed}
use Rattle.pack_points.proofs.PointLaws.{trailed}
use Rattle.bits.proofs.Fresh.{fresh_unmarked}
use Rattle.pack_open.proofs.Trailers.{trailer-sized, same_count, as_long}
use Rattle.pack_open.proofs.open_pack.Statement.{statement}
use Rattle.pack_open.proofs.open_pack.Tie as tie

-- past step 1
module _ (c : tie.Else-not-trailer_good) where
  abbrev Pack : List ℕ
  Pack = c.args.pack.now

  trailer : trailer_good Pack ≡ true
  trailer = sym c.trailer_good.ensures ∙ c.if-not-trailer_good.false

  sized : Sized Pack
  sized = trailer-sized Pack trailer

  there : Trailed Pack c.layout_in-layout.result
  there = trailed Pack sized _ c.layout_in-layout.ensures

within : (c : tie.After-trailer_number-start) → c.trailer_number-start.result ≤ length (Pack c.before)
within c = omega (arith, c.trailer_number-start.ensures.0, sized c.before)

-- the rows as they were found at first sight, and judged
module _ (c : tie.After-all_rows_good) where
  abbrev at-fine : tie.After-rows_fine-fine
  at-fine = c.before.before

  abbrev at_count : tie.After-trailer_number-count
  at_count = at-fine.before.before

  abbrev at-start : tie.After-trailer_number-start
  at-start = at_count.before

  abbrev past : tie.Else-not-trailer_good
  past = at-start.before

  abbrev Rows : List ℕ
  Rows = take at-start.trailer_number-start.result (Pack past)

  -- they are those of the row area, and as many as the trailer says
  rows_are : Rows ≡ row_area (Pack past)
  rows_are = ap (λ k. take k (Pack past)) at-start.trailer_number-start.ensures.0

  rows-said : c.all_rows_good.result ≡ all_rows_good (Pack past)
  unfolding all_rows_good
  rows-said =
      c.all_rows_good.ensures
      ∙ (ap (λ rows. rows_good rows at_count.trailer_number-count.result 1 0) rows_are
      ∙ ap (λ n. rows_good (row_area (Pack past)) n 1 0) at_count.trailer_number-count.ensures.0)

  marked : at-fine.rows_fine-fine.result ≡ true → Fine Rows (row_count (Pack past)) at-fine.rows_fine-fine.new.marks
  marked e = same_count at_count.trailer_number-count.ensures.0 (at-fine.rows_fine-fine.ensures e)

  kept : c.all_rows_good.result ≡ true
      → Kept (Pack past) Rows at-fine.rows_fine-fine.result at-fine.rows_fine-fine.new.marks
  unfolding all_rows_good
  kept e =
      record {
        area = record {
          area = rows_are;
          small = rw (length-take-le _ _ (within at-start)) at-start.trailer_number-start.ensures.1;
          good = ap (λ rows. rows_good rows (row_count (Pack past)) 1 0) rows_are ∙ (sym rows-said ∙ e);
        };
        size = as_long 16_384 at-fine.rows_fine-fine.new.marks at-fine.rows_fine-fine.auto.marks;
        marked = marked;
      }

returns : tie.Need-returns-then-not-trailer_good
unfolding opened
returns c =
    let t = c in
    rw c.bad_pack.ensures (simp (sym t.trailer_good.ensures ∙ c.if-not-trailer_good.true))

trailer-number-requires : tie.Need-trailer_number-start-requires
trailer-number-requires c κs = (there c, lit≤ tt)

slice-aggregate-rows : tie.Need-slice_bounds-rows-end
slice-aggregate-rows c = sym (length-take-le _ _ (within c))

trailer-number-requires-2 : tie.Need-trailer_number-count-requires
trailer-number-requires-2 c κs = (there c.before, lit≤ tt)

rows-fine-requires : tie.Need-rows_fine-fine-requires
rows-fine-requires c κs = fresh_unmarked 16_384

all-rows-good-requires : tie.Need-all_rows_good-requires
all-rows-good-requires c κs = λ e. (c.rows_fine-fine.ensures e).good

returns-2 : tie.Need-returns-then-not-all_rows_good
unfolding opened
returns-2 c =
    let g = c in
    rw c.bad_pack-then-not-all_rows_good.ensures
    (simp (trailer (past g.before.before), sym (rows-said g.before.before) ∙ c.if-not-all_rows_good.true))

all-points-good-requires : tie.Need-all_points_good-requires
all-points-good-requires c κs =
    let e = c in
    let g = e in
    (sized (past g.before.before), ((past g.before.before).layout_in-layout.ensures, kept g.before.before (e.if-not-all_rows_good.false)))

returns-3 : tie.Need-returns-then-not-all_points_good
unfolding opened
returns-3 c =
    let p = c in
    let e = p in
    let g = e in
    rw c.bad_pack-then-not-all_points_good.ensures
    (simp (
      trailer (past g.before.before.before.before.before.before),
      sym (rows-said g.before.before.before.before.before.before) ∙ e.if-not-all_rows_good.false,
      sym p.all_points_good.ensures ∙ c.if-not-all_points_good.true,
    ))

-- past step 3
module _ (c : tie.Else-not-all_points_good) where
  abbrev at-points : tie.After-all_points_good
  at-points = c.before.before

  abbrev past-rows : tie.Else-not-all_rows_good
  past-rows = at-points.before.before

  abbrev of_rows : tie.After-all_rows_good
  of_rows = past-rows.before

  rows-good : all_rows_good (Pack (past of_rows)) ≡ true
  rows-good = sym (rows-said of_rows) ∙ past-rows.if-not-all_rows_good.false

  points-good : all_points_good (Pack (past of_rows)) ≡ true
  points-good = sym at-points.all_points_good.ensures ∙ c.if-not-all_points_good.false

counts-good-requires : tie.Need-counts_good-requires
counts-good-requires c κs = (sized (past (of_rows c)), (past (of_rows c)).layout_in-layout.ensures)

returns-4 : tie.Need-returns-then-not-counts_good
unfolding opened
returns-4 c =
    let asked = c in
    let e = asked in
    rw c.bad_pack-then-not-counts_good.ensures
    (simp (
      trailer (past (of_rows e.before.before.before)),
      rows-good e.before.before.before,
      points-good e.before.before.before,
      sym asked.counts_good.ensures ∙ c.if-not-counts_good.true,
    ))

trailer-number-requires-3 : tie.Need-trailer_number-requires
trailer-number-requires-3 c κs = (there (past (of_rows c.before.before)), lit≤ tt)

returns-5 : tie.Need-returns
unfolding opened
returns-5 c =
    let last = c in
    let asked = last in
    let e = asked in
    rw c.trailer_number.ensures.0
    (simp (
      trailer (past (of_rows e.before.before.before)),
      rows-good e.before.before.before,
      points-good e.before.before.before,
      sym asked.counts_good.ensures ∙ last.if-not-counts_good.false,
    ))

pub open_pack_spec : {M : Type 1} → statement M
open_pack_spec =
    tie.close
    (tie.spec
    (search rules)
    (search rules)
    (search rules)
    returns
    trailer-number-requires
    slice-aggregate-rows
    trailer-number-requires-2
    (search rules)
    rows-fine-requires
    all-rows-good-requires
    (search rules)
    returns-2
    (search rules)
    all-points-good-requires
    (search rules)
    returns-3
    counts-good-requires
    (search rules)
    returns-4
    trailer-number-requires-3
    returns-5)
