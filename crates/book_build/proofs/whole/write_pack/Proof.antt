-- `book_build::whole::write_pack` meets its contract. Assumes nothing.
use borrow.Author.Rules.{rules}
use Prim.Native.Nat.{ℕ, ◌+◌, ◌*◌, ◌≤◌}
use mathlib.Core.Path.{refl, ap}
use mathlib.Core.List.{List, ◌++◌}
use native.Mathlib.Omega.{arith}
use lib.ListN.{length}
use Rattle.label.specs.Put.{Put}
use Rattle.label.proofs.Puts.{wrote, put_as}
use Rattle.label.proofs.Going.{Going, going-left, going-room, going-last}
use Rattle.pack.specs.Names.{newest, point_width}
use Rattle.pack.specs.Layout.{trailer_bytes}
use Rattle.shelf.specs.declared.Shelf.{Shelf}
use Rattle.shelf.specs.Stock.{Stock, stock_of}
use Rattle.changes_source.specs.Rows.{table_stock}
use Rattle.changes_source.proofs.Table.{table_fits}
use Rattle.build.specs.Plan.{Packed, organisation_rows}
use Rattle.build.specs.Bytes.{used_rows, points_in, counts_at_in, pack_in}
use Rattle.build.proofs.Pack.{trailer_from, behind_rows, pack-room, pack-start, after-rows, after-organisations, after-points}
use Rattle.build_exact.proofs.Size.{points-long}
use Rattle.book_build.specs.Chosen.{packed_all}
use Rattle.book_build.proofs.Packed.{all_say, all-within}
use Rattle.book_build.proofs.whole.write_pack.Statement.{statement}
use Rattle.book_build.proofs.whole.write_pack.Tie as tie

-- what is handed in
module _ (s : tie.Start) where
  abbrev st : Stock
  st = table_stock s.args.table.now

  abbrev book : List ℕ
  book = s.args.book.now

  abbrev chosen : List ℕ
  chosen = s.args.chosen.now

  abbrev starts : List ℕ
  starts = s.args.starts.now

  abbrev code : List ℕ
  code = s.args.code.now

  abbrev ds : List Packed
  ds = packed_all book chosen

  abbrev pack : List ℕ
  pack = pack_in st book book starts ds code

  abbrev behind : ℕ → ℕ → List ℕ
  behind = behind_rows st book book starts ds code s.args.rows (length chosen)

  abbrev behind-points : ℕ → ℕ → List ℕ
  behind-points = trailer_from st book book starts ds code s.args.rows (length chosen)

  room : 0 + length pack ≤ length s.args.out.now
  room = pack-room st book book starts ds code s.args.rows (length chosen) s.requires.1

  -- all points have one width
  points-size : (i : ℕ) → point_width newest * length chosen ≤ length (points_in st book book starts i ds)
  points-size i =
      let inside = s.requires.0.of_chosen.inside in
      omega (arith, points-long st starts i (all_say book chosen inside) (all-within book chosen inside), s.requires.1.of_points)

-- the rows are written
module _ (at_rows : tie.After-rows_at-i) where
  abbrev start-of-rows : tie.Start
  start-of-rows = at_rows.before.before.before.before.before.before.before.before.before.before

  rows-put : Put (used_rows (st start-of-rows) (starts start-of-rows)) start-of-rows.args.out.now 0 at_rows.rows_at-i.result at_rows.rows_at-i.new.out
  rows-put =
      put_as (ap (λ (s : Shelf). used_rows (stock_of s start-of-rows.args.table.now) (starts start-of-rows)) at_rows.table_shelf.ensures)
      at_rows.rows_at-i.ensures

rows-at-requires : tie.Need-rows_at-i-requires
rows-at-requires c κs =
    let t = c in
    let s = t.before.before.before.before.before.before.before.before in
    let rows = used_rows (st s.before) (starts s.before) in
    let i = length rows in
    let j = i + length (organisation_rows (book s.before) (ds s.before)) in
    rw t.table_shelf.ensures (
      table_fits,
      going-room rows (organisation_rows (book s.before) (ds s.before) ++ behind s.before i j)
          (pack-start (st s.before) (book s.before) (book s.before) (starts s.before) (ds s.before) (code s.before) s.args.rows (length (chosen s.before)) s.requires.1 i j
          refl refl) (room s.before),
    )

organisations-at-requires : tie.Need-organisations_at-j-requires
organisations-at-requires c κs =
    let at_rows = c.before.before.before in
    let s = start-of-rows at_rows in
    let i = at_rows.rows_at-i.result in
    let organisations = organisation_rows (book s) (ds s) in
    let j = i + length organisations in (
      s.requires.0.of_chosen,
      going-room organisations (behind s i j)
          (after-rows (st s) (book s) (book s) (starts s) (ds s) (code s) s.args.rows (length (chosen s)) s.requires.1
          (rows-put at_rows) j refl) (room s),
    )

-- so are the organisations' rows
module _ (at-organisations : tie.After-organisations_at-j) where
  abbrev rows_before : tie.After-rows_at-i
  rows_before = at-organisations.before.before.before.before

  abbrev start-of-organisations : tie.Start
  start-of-organisations = start-of-rows rows_before

  points_left : Going (pack start-of-organisations) (behind start-of-organisations rows_before.rows_at-i.result at-organisations.organisations_at-j.result) start-of-organisations.args.out.now 0
      at-organisations.organisations_at-j.result at-organisations.organisations_at-j.new.out
  points_left =
      after-organisations (st start-of-organisations) (book start-of-organisations) (book start-of-organisations) (starts start-of-organisations) (ds start-of-organisations) (code start-of-organisations) start-of-organisations.args.rows
      (length (chosen start-of-organisations)) start-of-organisations.requires.1 (rows-put rows_before) at-organisations.organisations_at-j.ensures

points-at-requires : tie.Need-points_at-k-requires
points-at-requires c κs =
    let at-organisations = c.before.before.before in
    let s = start-of-organisations at-organisations in
    let i = (rows_before at-organisations).rows_at-i.result in
    let j = at-organisations.organisations_at-j.result in (
      s.requires.0,
      (
        omega (arith, at-organisations.organisations_at-j.ensures.size),
        going-room (points_in (st s) (book s) (book s) (starts s) i (ds s))
            (behind-points s i j) (points_left at-organisations) (room s),
      ),
    )

-- and the points
module _ (at-points : tie.After-points_at-k) where
  abbrev organisations-before : tie.After-organisations_at-j
  organisations-before = at-points.before.before.before.before

  abbrev start-of-points : tie.Start
  start-of-points = start-of-organisations organisations-before

  abbrev out-with-points : List ℕ
  out-with-points = at-points.points_at-k.new.out

  trailer-left : Going (pack start-of-points)
      (trailer_bytes newest start-of-points.args.rows organisations-before.organisations_at-j.result (length (chosen start-of-points)) (code start-of-points)
      (counts_at_in out-with-points (length (chosen start-of-points)) organisations-before.organisations_at-j.result))
      start-of-points.args.out.now 0 at-points.points_at-k.result out-with-points
  trailer-left =
      after-points (st start-of-points) (book start-of-points) (book start-of-points) (starts start-of-points) (ds start-of-points) (code start-of-points) start-of-points.args.rows (length (chosen start-of-points))
      start-of-points.requires.1 (rows-put (rows_before organisations-before)) organisations-before.organisations_at-j.ensures at-points.points_at-k.ensures
      (points-size start-of-points (rows_before organisations-before).rows_at-i.result)

trailer-at-requires : tie.Need-trailer_at-requires
trailer-at-requires c κs =
    let at-points = c.before.before.before in
    let s = start-of-points at-points in (
      omega (
        arith,
        going-left (points_left (organisations-before at-points)) (room s),
        s.requires.0.of_chosen.few,
        s.well_formed,
      ),
      (
        omega (
          arith,
          at-points.points_at-k.ensures.size,
          points-size s (rows_before (organisations-before at-points)).rows_at-i.result,
        ),
        going-left (trailer-left at-points) (room s),
      ),
    )

returns : tie.Need-returns
returns c =
    let behind-trailer-at = c in
    let at-points = behind-trailer-at in
    wrote (going-last (trailer-left at-points.before.before.before.before.before.before) behind-trailer-at.trailer_at.ensures (room (start-of-points at-points.before.before.before.before.before.before)))

pub write_pack_spec : {M : Type 1} → statement M
write_pack_spec =
    tie.close
    (tie.spec (search rules) rows-at-requires organisations-at-requires points-at-requires trailer-at-requires
    (search rules) returns)
