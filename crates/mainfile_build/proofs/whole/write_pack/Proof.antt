-- `mainfile_build::whole::write_pack` meets its contract. Assumes nothing.
use borrow.Author.Rules.{rules}
use Prim.Native.Nat.{ℕ, ◌+◌, ◌*◌, ◌≤◌}
use mathlib.Core.Path.{◌≡◌, refl, sym, ap}
use mathlib.Core.List.{List, ◌++◌}
use native.Mathlib.Omega.{arith}
use lib.ListN.{length}
use Rattle.label.specs.Put.{Put}
use Rattle.label.proofs.Puts.{wrote, put_as}
use Rattle.label.proofs.Going.{Going, going-left, going-room, going-last}
use Rattle.pack.specs.Names.{newest, point_width}
use Rattle.pack.specs.Layout.{trailer_bytes}
use Rattle.shelf.specs.Stock.{Stock}
use Rattle.build.specs.Plan.{Packed, organisation_rows}
use Rattle.build.specs.Bytes.{used_rows, points_in, counts_at_in, pack_in}
use Rattle.build.proofs.Pack.{trailer_from, behind_rows, pack-room, pack-start, after-rows, after-organisations, after-points}
use Rattle.build_exact.proofs.Size.{points-long}
use Rattle.mainfile.specs.Set.{Set, set_of}
use Rattle.mainfile.specs.Rows.{set_stock}
use Rattle.mainfile_mark.specs.Packed.{packed_in, packed_by}
use Rattle.mainfile_points.proofs.Said.{all_say, all-within}
use Rattle.mainfile_build.specs.Written.{set_starts}
use Rattle.mainfile_build.proofs.Laws.{ended-only, rows_are, packed-is, standing, stop-few}
use Rattle.mainfile_build.proofs.whole.write_pack.Statement.{statement}
use Rattle.mainfile_build.proofs.whole.write_pack.Tie as tie

-- what is handed in
module _ (k : tie.After-slice_known-1) where
  abbrev start : tie.Start
  start =
      k.before.before.before.before.before.before.before.before.before.before.before.before.before.before.before.before.before.before.before

  abbrev files : Set
  files =
      let a = start.args in
      set_of a.localities.now a.thoroughfares.now a.descriptors.now a.buildings.now a.sub_buildings.now
      a.organisations.now a.addresses.now

  abbrev st : Stock
  st = set_stock files

  abbrev own : List ℕ
  own = start.args.addresses.now

  abbrev others : List ℕ
  others = start.args.organisations.now

  abbrev starts : List ℕ
  starts =
      let a = start.args in
      set_starts files a.of_localities.now a.of_thoroughfares.now a.of_descriptors.now a.of_buildings.now
      a.of_sub_buildings.now

  abbrev code : List ℕ
  code = start.args.code.now

  abbrev ds : List Packed
  ds = packed_in files code

  abbrev rows : ℕ
  rows = start.args.rows

  abbrev many : ℕ
  many = start.args.many

  abbrev pack : List ℕ
  pack = pack_in st own others starts ds code

  abbrev behind : ℕ → ℕ → List ℕ
  behind = behind_rows st own others starts ds code rows many

  abbrev behind-points : ℕ → ℕ → List ℕ
  behind-points = trailer_from st own others starts ds code rows many

  room : 0 + length pack ≤ length start.args.out.now
  room = pack-room st own others starts ds code rows many start.requires.1

  -- all points have one width
  points-size : (i : ℕ) → point_width newest * many ≤ length (points_in st own others starts i ds)
  points-size i =
      let ok = start.requires.0.marks.judged.of_set in
      omega (arith, points-long st starts i (all_say files ok code) (all-within files ok code), start.requires.1.of_points)

  same-ds : ds ≡ packed_by own others start.args.first many
  same-ds = packed-is files start.requires.0

set-rows-at-requires : tie.Need-set_rows_at-i-requires
set-rows-at-requires c κs =
    let k = c.before in
    let i = length (used_rows (st k) (starts k)) in
    let j = i + length (organisation_rows (others k) (ds k)) in (
      ended-only (files k) (start k).requires.0.marks.judged.of_set.rows,
      omega (
        arith,
        ap length (rows_are (files k) (start k).requires.0),
        going-room (used_rows (st k) (starts k)) (organisation_rows (others k) (ds k) ++ behind k i j)
            (pack-start (st k) (own k) (others k) (starts k) (ds k) (code k) (rows k) (many k) (start k).requires.1 i j refl refl)
            (room k),
      ),
    )

-- the rows are written
module _ (r : tie.After-set_rows_at-i) where
  abbrev r-start : tie.After-slice_known-1
  r-start = r.before.before

  abbrev rows_end : ℕ
  rows_end = r.set_rows_at-i.result

  rows-put : Put (used_rows (st r-start) (starts r-start)) (start r-start).args.out.now 0 rows_end
      r.set_rows_at-i.new.out
  rows-put = put_as (rows_are (files r-start) (start r-start).requires.0) r.set_rows_at-i.ensures

organisations-at-requires : tie.Need-organisations_at-j-requires
organisations-at-requires c κs =
    let r = c.before.before.before in
    let k = r-start r in
    let organisations = organisation_rows (others k) (ds k) in
    let j = rows_end r + length organisations in (
      standing (files k) (start k).requires.0,
      omega (
        arith,
        ap (λ (x : List Packed). length (organisation_rows (others k) x)) (same-ds k),
        going-room organisations (behind k (rows_end r) j)
            (after-rows (st k) (own k) (others k) (starts k) (ds k) (code k) (rows k) (many k) (start k).requires.1 (rows-put r) j
            refl)
            (room k),
      ),
    )

-- so are the organisations' rows
module _ (o : tie.After-organisations_at-j) where
  abbrev o-rows : tie.After-set_rows_at-i
  o-rows = o.before.before.before.before

  abbrev o-start : tie.After-slice_known-1
  o-start = r-start o-rows

  abbrev organisations-end : ℕ
  organisations-end = o.organisations_at-j.result

  organisations-put : Put (organisation_rows (others o-start) (ds o-start))
      o-rows.set_rows_at-i.new.out (rows_end o-rows) organisations-end
      o.organisations_at-j.new.out
  organisations-put = put_as (ap (organisation_rows (others o-start)) (sym (same-ds o-start))) o.organisations_at-j.ensures

  points_left : Going (pack o-start) (behind o-start (rows_end o-rows) organisations-end) (start o-start).args.out.now 0
      organisations-end o.organisations_at-j.new.out
  points_left =
      after-organisations (st o-start) (own o-start) (others o-start) (starts o-start) (ds o-start) (code o-start)
      (rows o-start) (many o-start) (start o-start).requires.1 (rows-put o-rows) organisations-put

points-at-requires : tie.Need-points_at-k-requires
points-at-requires c κs =
    let o = c.before.before.before in
    let k = o-start o in
    let i = rows_end (o-rows o) in (
      (start k).requires.0,
      (
        omega (arith, (organisations-put o).size),
        going-room (points_in (st k) (own k) (others k) (starts k) i (ds k))
            (behind-points k i (organisations-end o)) (points_left o) (room k),
      ),
    )

-- and the points
module _ (p : tie.After-points_at-k) where
  abbrev p-organisations : tie.After-organisations_at-j
  p-organisations = p.before.before.before.before

  abbrev p-start : tie.After-slice_known-1
  p-start = o-start p-organisations

  abbrev out-with-points : List ℕ
  out-with-points = p.points_at-k.new.out

  trailer-left : Going (pack p-start)
      (trailer_bytes newest (rows p-start) (organisations-end p-organisations) (many p-start) (code p-start)
      (counts_at_in out-with-points (many p-start) (organisations-end p-organisations)))
      (start p-start).args.out.now 0 p.points_at-k.result out-with-points
  trailer-left =
      after-points (st p-start) (own p-start) (others p-start) (starts p-start) (ds p-start) (code p-start) (rows p-start)
      (many p-start) (start p-start).requires.1 (rows-put (o-rows p-organisations)) (organisations-put p-organisations)
      p.points_at-k.ensures (points-size p-start (rows_end (o-rows p-organisations)))

trailer-at-requires : tie.Need-trailer_at-requires
trailer-at-requires c κs =
    let p = c.before.before.before in
    let k = p-start p in (
      omega (
        arith,
        going-left (points_left (p-organisations p)) (room k),
        stop-few (files k) (start k).requires.0,
        (start k).well_formed,
      ),
      (
        omega (arith, p.points_at-k.ensures.size, points-size k (rows_end (o-rows (p-organisations p)))),
        going-left (trailer-left p) (room k),
      ),
    )

returns : tie.Need-returns
returns c =
    let t = c in
    let p = t in
    wrote (going-last (trailer-left p.before.before.before.before.before.before) t.trailer_at.ensures (room (p-start p.before.before.before.before.before.before)))

pub write_pack_spec : {M : Type 1} → statement M
write_pack_spec =
    tie.close
    (tie.spec set-rows-at-requires organisations-at-requires points-at-requires trailer-at-requires (search rules) returns)
