-- `mainfile_build::write_if_room` meets its contract. Assumes nothing.
use borrow.Author.Rules.{rules}
use Prim.Native.Nat.{ℕ, ◌+◌, ◌*◌, ◌≤◌, ◌<◌}
use mathlib.Core.Path.{◌≡◌, refl, sym, ap, ap₂, ◌∙◌}
use mathlib.Core.List.{List}
use native.Mathlib.Omega.{arith}
use lib.ListN.{length}
use Rattle.label.proofs.Puts.{wrote_as}
use Rattle.label.proofs.Room.{counted-short, counted-written}
use Rattle.build.specs.Plan.{Packed, organisation_rows, organisation_count}
use Rattle.build.specs.Rows.{all_bytes, all_count}
use Rattle.mainfile.specs.Set.{Set, set_of}
use Rattle.mainfile.specs.Rows.{set_stock}
use Rattle.mainfile_source.proofs.Joined.{same_rows}
use Rattle.mainfile_mark.specs.Marks.{set_marks}
use Rattle.mainfile_mark.specs.Packed.{packed_by, packed_in}
use Rattle.mainfile_build.specs.Build.{set_pack}
use Rattle.pack.specs.Names.{newest, point_width, trailer_width}
use Rattle.mainfile_build.specs.Ready.{Stretched, Marked}
use Rattle.mainfile_build.proofs.Laws.{marks-only, rows-only, fresh-blocks, counted, small, rows-small, rows-counted, written, stretch-packed, stretch-long, stretch-standing}
use Rattle.mainfile_build.proofs.write_if_room.Statement.{statement}
use Rattle.mainfile_build.proofs.write_if_room.Tie as tie

-- what is handed in
module _ (k : tie.After-slice_known-1) where
  abbrev start : tie.Start
  start = k.before.before.before.before.before.before.before.before.before.before.before.before.before.before

  abbrev files : Set
  files =
      let a = start.args in
      set_of a.localities.now a.thoroughfares.now a.descriptors.now a.buildings.now a.sub_buildings.now
      a.organisations.now a.addresses.now

  abbrev code : List ℕ
  code = start.args.code.now

  abbrev l : List ℕ
  l = start.args.of_localities.now

  abbrev t : List ℕ
  t = start.args.of_thoroughfares.now

  abbrev d : List ℕ
  d = start.args.of_descriptors.now

  abbrev b : List ℕ
  b = start.args.of_buildings.now

  abbrev s : List ℕ
  s = start.args.of_sub_buildings.now

  abbrev marks : List ℕ
  marks = set_marks files l t d b s

  abbrev pack : List ℕ
  pack = set_pack files code

  marked : Marked files code l t d b s
  marked = start.requires.0

  stretched : Stretched files code start.args.first start.args.many
  stretched = start.requires.1

place-set-requires : tie.Need-place_set-of_rows-requires
place-set-requires c κs =
    let k = c.before.before.before.before.before in
    let ok = (marked k).judged.of_set.rows in
    (rows-only (files k) ok, fresh-blocks (files k) ok 15_625 _ refl refl)

-- once the blocks have their starts
module _ (r : tie.After-place_set-of_rows) where
  abbrev r-start : tie.After-slice_known-1
  r-start = r.before.before.before.before.before.before

  rows_of : r.place_set-of_rows.result.rows ≡ all_count (set_stock (files r-start)) (marks r-start)
  rows_of =
      r.place_set-of_rows.ensures.0
      ∙ sym (ap₂ all_count (same_rows (files r-start)) (marks-only (files r-start) (l r-start) (t r-start) (d r-start) (b r-start) (s r-start)))

  bytes_of : r.place_set-of_rows.result.bytes ≡ all_bytes (set_stock (files r-start)) (marks r-start)
  bytes_of =
      r.place_set-of_rows.ensures.1.0
      ∙ sym (ap₂ all_bytes (same_rows (files r-start)) (marks-only (files r-start) (l r-start) (t r-start) (d r-start) (b r-start) (s r-start)))

organisations-in-requires : tie.Need-organisations_in-of_own-requires
organisations-in-requires c κs =
    let k = r-start c.before.before.before.before.before in
    stretch-standing (files k) (marked k).judged.of_set (stretched k)

-- and the organisations are counted
module _ (o : tie.After-organisations_in-of_own) where
  abbrev placed : tie.After-place_set-of_rows
  placed = o.before.before.before.before.before.before

  abbrev k : tie.After-slice_known-1
  k = r-start placed

  abbrev many : ℕ
  many = (start k).args.many

  abbrev others : List ℕ
  others = (start k).args.organisations.now

  packed-is : packed_in (files k) (code k) ≡ packed_by (start k).args.addresses.now others (start k).args.first many
  packed-is = stretch-packed (files k) (marked k).judged.of_set (stretched k)

  whole : length (pack k)
      ≡ placed.place_set-of_rows.result.bytes + o.organisations_in-of_own.result.bytes + point_width newest * many + trailer_width newest
  whole =
      omega (
        arith,
        counted (files k) (code k) (l k) (t k) (d k) (b k) (s k) (marked k),
        stretch-long (files k) (marked k).judged.of_set (stretched k),
        bytes_of placed,
        o.organisations_in-of_own.ensures.1,
        ap (λ (ds : List Packed). length (organisation_rows others ds)) packed-is,
      )

  few : length (pack k) < 4_294_967_295
  few = small (files k) (code k) (l k) (t k) (d k) (b k) (s k) (marked k)

  rows_all : placed.place_set-of_rows.result.rows + o.organisations_in-of_own.result.rows
      ≡ all_count (set_stock (files k)) (marks k) + organisation_count (packed_in (files k) (code k))
  rows_all =
      omega (arith, rows_of placed, o.organisations_in-of_own.ensures.0, ap organisation_count packed-is)

add-needed : tie.Need-overflow_add-needed
add-needed c = omega (arith, whole c.before.before, few c.before.before)

mul-needed : tie.Need-overflow_mul-needed
mul-needed c = omega (arith, whole c.before.before, few c.before.before)

add-needed-2 : tie.Need-overflow_add-needed-2
add-needed-2 c = omega (arith, whole c.before.before, few c.before.before)

add-needed-3 : tie.Need-overflow_add-needed-3
add-needed-3 c = omega (arith, whole c.before.before, few c.before.before)

returns : tie.Need-returns-then-out-needed
returns c =
    let o = c in
    let out = (start (k o.before.before.before.before)).args.out.now in
    rw c.into.ensures
    (counted-short (pack (k o.before.before.before.before)) out (sym (whole o.before.before.before.before)) (omega (arith, whole o.before.before.before.before)))

add-rows : tie.Need-overflow_add-rows
add-rows c =
    let o = c in
    omega (arith, rows-small (files (k o.before.before.before.before.before)) (code (k o.before.before.before.before.before)) (l (k o.before.before.before.before.before)) (t (k o.before.before.before.before.before)) (d (k o.before.before.before.before.before)) (b (k o.before.before.before.before.before)) (s (k o.before.before.before.before.before)) (marked (k o.before.before.before.before.before)), rows_all o.before.before.before.before.before)

write-pack-requires : tie.Need-write_pack-requires
write-pack-requires c κs =
    let o = c in
    let f = k o.before.before.before.before.before.before.before.before.before.before.before in
    let is = written (files f) (code f) (l f) (t f) (d f) (b f) (s f) (marked f) in (
      record { marks = marked f; blocks = (placed o.before.before.before.before.before.before.before.before.before.before.before).place_set-of_rows.ensures.1.1; stretch = stretched f },
      record {
        of_rows =
            omega (arith, rows-counted (files f) (code f) (l f) (t f) (d f) (b f) (s f) (marked f), rows_all o.before.before.before.before.before.before.before.before.before.before.before);
        of_points = sym (stretch-long (files f) (marked f).judged.of_set (stretched f));
        of_room = omega (arith, ap length is, whole o.before.before.before.before.before.before.before.before.before.before.before);
      },
    )

returns-2 : tie.Need-returns
returns-2 c =
    let p = c in
    let o = p in
    let f = k o.before.before.before.before.before.before.before.before.before.before.before.before.before.before in
    let out = (start f).args.out.now in
    let is = written (files f) (code f) (l f) (t f) (d f) (b f) (s f) (marked f) in
    let there = p in
    let fits : length (pack f) ≤ length out = omega (arith, whole o.before.before.before.before.before.before.before.before.before.before.before.before.before.before, there.if-out-needed.false) in
    let wrote = wrote_as is p.write_pack.ensures in
    counted-written (pack f) out fits wrote.size wrote.is

pub write_if_room_spec : {M : Type 1} → statement M
write_if_room_spec =
    tie.close
    (tie.spec (search rules) (search rules) (search rules) (search rules) (search rules) place-set-requires
    organisations-in-requires add-needed mul-needed add-needed-2 add-needed-3 (search rules) returns add-rows (search rules) (search rules)
    (search rules) (search rules) (search rules) write-pack-requires (search rules) returns-2)
