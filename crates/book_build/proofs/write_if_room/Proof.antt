-- `book_build::write_if_room` meets its contract. Assumes nothing.
use borrow.Author.Rules.{rules}
use mathlib.Core.Path.{◌≡◌, sym, ap, subst, ◌∙◌}
use Prim.Native.Nat.{ℕ, ◌+◌, ◌*◌, ◌≤◌, ◌<◌}
use mathlib.Core.List.{List}
use lib.ListN.{length}
use native.Mathlib.Omega.{arith}
use Rattle.changes_source.specs.Rows.{table_stock}
use Rattle.changes_source.proofs.Table.{table_fits}
use Rattle.shelf.specs.declared.Shelf.{Shelf}
use Rattle.shelf.specs.Stock.{stock_of}
use Rattle.label.proofs.Puts.{wrote_as}
use Rattle.label.proofs.Room.{counted-short, counted-written}
use Rattle.pack.specs.Names.{newest, point_width, trailer_width}
use Rattle.build.specs.Plan.{Packed}
use Rattle.build.specs.Rows.{all_bytes, all_count}
use Rattle.build.specs.Placed.{Placed}
use Rattle.changes_whole.proofs.Rows.{table-small, marked-long}
use Rattle.changes_whole.proofs.Whole.{counted, rows-small, rows-counted, written}
use Rattle.book_build.specs.Chosen.{packed_all}
use Rattle.book_build.specs.Ready.{chosen_pack, MayPack}
use Rattle.book_build.proofs.Packed.{packed-length}
use Rattle.book_build.proofs.write_if_room.Statement.{statement}
use Rattle.book_build.proofs.write_if_room.Tie as tie

-- once rows and organisations are counted
module _ (o : tie.After-organisations_in-of_book) where
  abbrev r : tie.After-place_rows-of_table
  r = o.before.before.before

  abbrev t : tie.After-table_shelf
  t = r.before.before

  abbrev s : tie.Start
  s = t.before.before.before.before.before.before.before.before

  abbrev table : List ℕ
  table = s.args.table.now

  abbrev marks : List ℕ
  marks = s.args.starts.now

  abbrev starts : List ℕ
  starts = r.place_rows-of_table.new.marks

  abbrev ds : List Packed
  ds = packed_all s.args.book.now s.args.chosen.now

  abbrev count : ℕ
  count = length s.args.chosen.now

  abbrev pack : List ℕ
  pack = chosen_pack table s.args.book.now s.args.chosen.now s.args.code.now

  may : MayPack table s.args.book.now s.args.chosen.now s.args.code.now
  may = s.requires.1.0

  placed : Placed (table_stock table) marks starts
  placed = subst (λ (z : Shelf). Placed (stock_of z table) marks starts) t.table_shelf.ensures r.place_rows-of_table.ensures.1.1

  rows_of : r.place_rows-of_table.result.rows ≡ all_count (table_stock table) marks
  rows_of = r.place_rows-of_table.ensures.0 ∙ ap (λ (z : Shelf). all_count (stock_of z table) marks) t.table_shelf.ensures

  bytes_of : r.place_rows-of_table.result.bytes ≡ all_bytes (table_stock table) marks
  bytes_of = r.place_rows-of_table.ensures.1.0 ∙ ap (λ (z : Shelf). all_bytes (stock_of z table) marks) t.table_shelf.ensures

  points : count ≡ length ds
  points = sym (packed-length s.args.book.now s.args.chosen.now)

  whole : length pack
      ≡ r.place_rows-of_table.result.bytes + o.organisations_in-of_book.result.bytes + point_width newest * count + trailer_width newest
  whole = omega (arith, counted may.packable s.requires.1.1 placed, points, bytes_of, o.organisations_in-of_book.ensures.1)

  few : length pack < 4_294_967_295
  few = may.packable.small

place-rows-requires : tie.Need-place_rows-of_table-requires
place-rows-requires c κs =
    let t = c in
    let s = t.before.before.before.before.before.before.before.before in
    let small = table-small s.args.table.now s.requires.0.of_table in
    rw t.table_shelf.ensures (table_fits, (omega (arith, small, marked-long s.requires.1.1), omega (arith, small)))

organisations-in-requires : tie.Need-organisations_in-of_book-requires
organisations-in-requires c κs =
    let t = c in
    t.requires.0.of_chosen

mul-points : tie.Need-overflow_mul-points
mul-points c = omega (arith, whole c, few c)

add-needed : tie.Need-overflow_add-needed
add-needed c = omega (arith, whole c.before.before, few c.before.before)

add-needed-2 : tie.Need-overflow_add-needed-2
add-needed-2 c = omega (arith, whole c.before.before, few c.before.before)

add-needed-3 : tie.Need-overflow_add-needed-3
add-needed-3 c = omega (arith, whole c.before.before, few c.before.before)

returns : tie.Need-returns-then-out-needed
returns c =
    let o = c in
    rw c.into.ensures
    (counted-short (pack o.before.before.before.before) (s o.before.before.before.before).args.out.now (sym (whole o.before.before.before.before)) (omega (arith, whole o.before.before.before.before)))

add-rows : tie.Need-overflow_add-rows
add-rows c =
    let o = c in
    omega (
      arith,
      rows-small (may o.before.before.before.before.before).packable (s o.before.before.before.before.before).requires.1.1 (placed o.before.before.before.before.before),
      rows_of o.before.before.before.before.before,
      o.organisations_in-of_book.ensures.0,
    )

write-pack-requires : tie.Need-write_pack-requires
write-pack-requires c κs =
    let o = c in
    let is = written (may o.before.before.before.before.before.before).packable (s o.before.before.before.before.before.before).requires.1.1 (placed o.before.before.before.before.before.before) in (
      (s o.before.before.before.before.before.before).requires.0,
      record {
        of_rows =
            omega (
              arith,
              rows-counted (may o.before.before.before.before.before.before).packable (s o.before.before.before.before.before.before).requires.1.1 (placed o.before.before.before.before.before.before),
              rows_of o.before.before.before.before.before.before,
              o.organisations_in-of_book.ensures.0,
            );
        of_points = points o.before.before.before.before.before.before;
        of_room = omega (arith, ap length is, whole o.before.before.before.before.before.before);
      },
    )

returns-2 : tie.Need-returns
returns-2 c =
    let p = c in
    let o = p in
    let out = (s o.before.before.before.before.before.before.before.before.before).args.out.now in
    let is = written (may o.before.before.before.before.before.before.before.before.before).packable (s o.before.before.before.before.before.before.before.before.before).requires.1.1 (placed o.before.before.before.before.before.before.before.before.before) in
    let fits : length (pack o.before.before.before.before.before.before.before.before.before) ≤ length out = omega (arith, whole o.before.before.before.before.before.before.before.before.before) in
    let wrote = wrote_as is p.write_pack.ensures in
    counted-written (pack o.before.before.before.before.before.before.before.before.before) out fits wrote.size wrote.is

pub write_if_room_spec : {M : Type 1} → statement M
write_if_room_spec =
    tie.close
    (tie.spec (search rules) place-rows-requires organisations-in-requires mul-points add-needed add-needed-2 add-needed-3
    (search rules) (search rules) returns add-rows write-pack-requires (search rules) (search rules) returns-2)
