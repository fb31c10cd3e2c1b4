-- `changes_build::write_if_room` meets its contract. Assumes nothing.
use borrow.Author.Rules.{rules}
use mathlib.Core.Path.{◌≡◌, sym, ap, subst, ◌∙◌}
use Prim.Native.Nat.{ℕ, ◌+◌, ◌*◌, ◌≤◌, ◌<◌}
use mathlib.Core.List.{List}
use lib.ListN.{length}
use Rattle.changes_source.specs.Rows.{table_stock}
use Rattle.changes_source.proofs.Table.{table_fits}
use Rattle.shelf.specs.declared.Shelf.{Shelf}
use Rattle.shelf.specs.Stock.{stock_of}
use Rattle.label.proofs.Puts.{wrote_as}
use Rattle.label.proofs.Room.{counted-short, counted-written}
use Rattle.build.specs.Rows.{all_bytes, all_count}
use Rattle.build.specs.Placed.{Placed}
use Rattle.build.specs.Bytes.{pack_in}
use Rattle.changes_build.specs.Views.{packed_in}
use Rattle.changes_build.specs.Build.{live_pack}
use Rattle.pack.specs.Names.{newest, point_width, trailer_width}
use Rattle.changes_whole.specs.Marked.{Packable}
use Rattle.changes_whole.specs.Marked as any
use Rattle.changes_whole.proofs.Rows.{table-small, marked-long}
use Rattle.changes_whole.proofs.Whole.{rows-small, rows-counted}
use Rattle.changes_pair.specs.Live.{live_in}
use Rattle.changes_build.specs.Ready.{Marked}
use Rattle.changes_build.proofs.Laws.{count-of, packable, marked-whole, counted, written}
use native.Mathlib.Omega.{arith}
use Rattle.changes_build.proofs.write_if_room.Statement.{statement}
use Rattle.changes_build.proofs.write_if_room.Tie as tie

-- once the views are counted
module _ (w : tie.After-count_wanted-count) where
  abbrev o : tie.After-organisations_in-of_points
  o = w.before

  abbrev r : tie.After-place_rows-of_table
  r = o.before.before.before

  abbrev t : tie.After-table_shelf
  t = r.before.before

  abbrev s : tie.Start
  s = t.before.before.before.before.before.before.before

  abbrev table : List ℕ
  table = s.args.table.now

  abbrev points : List ℕ
  points = s.args.points.now

  abbrev code : List ℕ
  code = s.args.code.now

  abbrev marks : List ℕ
  marks = s.args.starts.now

  abbrev starts : List ℕ
  starts = r.place_rows-of_table.new.marks

  abbrev pack : List ℕ
  pack = live_pack table points code

  marked : Marked table points code marks
  marked = s.requires.1

  ready : Packable table points (packed_in points code) (live_in points code) code
  ready = packable table points code marked.judged

  all-marked : any.Marked table (packed_in points code) marks
  all-marked = marked-whole marked

  placed : Placed (table_stock table) marks starts
  placed = subst (λ (z : Shelf). Placed (stock_of z table) marks starts) t.table_shelf.ensures r.place_rows-of_table.ensures.1.1

  rows_of : r.place_rows-of_table.result.rows ≡ all_count (table_stock table) marks
  rows_of = r.place_rows-of_table.ensures.0 ∙ ap (λ (z : Shelf). all_count (stock_of z table) marks) t.table_shelf.ensures

  bytes_of : r.place_rows-of_table.result.bytes ≡ all_bytes (table_stock table) marks
  bytes_of = r.place_rows-of_table.ensures.1.0 ∙ ap (λ (z : Shelf). all_bytes (stock_of z table) marks) t.table_shelf.ensures

  views : w.count_wanted-count.result ≡ length (packed_in points code)
  views = w.count_wanted-count.ensures ∙ count-of code points

  whole : length pack
      ≡ r.place_rows-of_table.result.bytes + o.organisations_in-of_points.result.bytes + point_width newest * w.count_wanted-count.result
      + trailer_width newest
  whole = omega (arith, counted table points code marks starts marked placed, views, bytes_of, o.organisations_in-of_points.ensures.1)

  is-pack : pack_in (table_stock table) points points starts (packed_in points code) code ≡ pack
  is-pack = written table points code marks starts marked placed

  few : length pack < 4_294_967_295
  few = ready.small

place-rows-requires : tie.Need-place_rows-of_table-requires
place-rows-requires c κs =
    let t = c in
    let s = t.before.before.before.before.before.before.before in
    let small = table-small s.args.table.now s.requires.0.of_table in
    rw t.table_shelf.ensures (table_fits, (omega (arith, small, marked-long (marked-whole s.requires.1)), omega (arith, small)))

add-needed : tie.Need-overflow_add-needed
add-needed c = omega (arith, whole c.before.before, few c.before.before)

mul-needed : tie.Need-overflow_mul-needed
mul-needed c = omega (arith, whole c.before.before, few c.before.before)

add-needed-2 : tie.Need-overflow_add-needed-2
add-needed-2 c = omega (arith, whole c.before.before, few c.before.before)

add-needed-3 : tie.Need-overflow_add-needed-3
add-needed-3 c = omega (arith, whole c.before.before, few c.before.before)

returns : tie.Need-returns-then-out-needed
returns c =
    let w = c in
    let out = (s w.before.before.before.before).args.out.now in
    rw c.into.ensures
    (counted-short (pack w.before.before.before.before) out (sym (whole w.before.before.before.before)) (omega (arith, whole w.before.before.before.before)))

add-rows : tie.Need-overflow_add-rows
add-rows c =
    let w = c in
    omega (
      arith,
      rows-small (ready w.before.before.before.before.before) (all-marked w.before.before.before.before.before) (placed w.before.before.before.before.before),
      rows_of w.before.before.before.before.before,
      (o w.before.before.before.before.before).organisations_in-of_points.ensures.0,
    )

write-pack-requires : tie.Need-write_pack-requires
write-pack-requires c κs =
    let w = c in
    let is = is-pack w.before.before.before.before.before.before in (
      (s w.before.before.before.before.before.before).requires.0,
      record {
        of_rows =
            omega (
              arith,
              rows-counted (ready w.before.before.before.before.before.before) (all-marked w.before.before.before.before.before.before) (placed w.before.before.before.before.before.before),
              rows_of w.before.before.before.before.before.before,
              (o w.before.before.before.before.before.before).organisations_in-of_points.ensures.0,
            );
        of_points = views w.before.before.before.before.before.before;
        of_room = omega (arith, ap length is, whole w.before.before.before.before.before.before);
      },
    )

returns-2 : tie.Need-returns
returns-2 c =
    let p = c in
    let w = p in
    let out = (s w.before.before.before.before.before.before.before.before.before).args.out.now in
    let is = is-pack w.before.before.before.before.before.before.before.before.before in
    let fits : length (pack w.before.before.before.before.before.before.before.before.before) ≤ length out = omega (arith, whole w.before.before.before.before.before.before.before.before.before) in
    let wrote = wrote_as is p.write_pack.ensures in
    counted-written (pack w.before.before.before.before.before.before.before.before.before) out fits wrote.size wrote.is

pub write_if_room_spec : {M : Type 1} → statement M
write_if_room_spec =
    tie.close
    (tie.spec (search rules) place-rows-requires (search rules) (search rules) add-needed mul-needed add-needed-2
    add-needed-3 (search rules) (search rules) returns add-rows write-pack-requires (search rules) (search rules) returns-2)
