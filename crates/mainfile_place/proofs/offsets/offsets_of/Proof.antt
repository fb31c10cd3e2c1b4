-- `mainfile_place::offsets::offsets_of` meets its contract. Assumes nothing.
use borrow.Author.Rules.{rules}
use Rattle.mainfile.specs.Set.{Set}
use Rattle.mainfile_source.specs.Rows.{row_files}
use Rattle.mainfile_place.proofs.Small.{kind-few}
use Rattle.mainfile_place.proofs.KeyOffsets.{offsets-placed}
use Rattle.mainfile_place.proofs.offsets.offsets_of.Statement.{statement}
use Rattle.mainfile_place.proofs.offsets.offsets_of.Tie as tie

module _ (c : tie.Start) where
  abbrev files : Set
  files =
      row_files c.args.localities.now c.args.thoroughfares.now c.args.descriptors.now c.args.buildings.now
      c.args.sub_buildings.now

abbrev start : tie.After-shared_slice_known-15-1 → tie.Start
start c =
    c.before.before.before.before.before.before.before.before.before.before.before.before.before.before.before

offset-in-requires : tie.Need-offset_in-l-requires
offset-in-requires c κs =
    let s = start c in
    ((s.requires.blocks.room.of_localities, (kind-few (files s) s.requires.accepted 1).1), s.requires.there.locality)

offset-in-requires-2 : tie.Need-offset_in-t-requires
offset-in-requires-2 c κs =
    let s = start c.before in
    ((s.requires.blocks.room.of_thoroughfares, (kind-few (files s) s.requires.accepted 2).1), s.requires.there.thoroughfare)

offset-in-requires-3 : tie.Need-offset_in-d-requires
offset-in-requires-3 c κs =
    let s = start c.before.before in
    ((s.requires.blocks.room.of_descriptors, (kind-few (files s) s.requires.accepted 3).1), s.requires.there.descriptor)

offset-in-requires-4 : tie.Need-offset_in-dependent-requires
offset-in-requires-4 c κs =
    let s = start c.before.before.before in
    ((s.requires.blocks.room.of_thoroughfares, (kind-few (files s) s.requires.accepted 2).1), s.requires.there.dependent)

offset-in-requires-5 : tie.Need-offset_in-second-requires
offset-in-requires-5 c κs =
    let s = start c.before.before.before.before in
    ((s.requires.blocks.room.of_descriptors, (kind-few (files s) s.requires.accepted 3).1), s.requires.there.second)

offset-in-requires-6 : tie.Need-offset_in-b-requires
offset-in-requires-6 c κs =
    let s = start c.before.before.before.before.before in
    ((s.requires.blocks.room.of_buildings, (kind-few (files s) s.requires.accepted 4).1), s.requires.there.building)

offset-in-requires-7 : tie.Need-offset_in-s-requires
offset-in-requires-7 c κs =
    let s = start c.before.before.before.before.before.before in
    ((s.requires.blocks.room.of_sub_buildings, (kind-few (files s) s.requires.accepted 5).1), s.requires.there.sub_building)

returns : tie.Need-returns
returns c =
    let sixth = c in
    let fifth = sixth in
    let fourth = fifth in
    let third = fourth in
    let second = third in
    let first = second in
    let s = start first.before.before.before.before.before.before.before in
    let a = s.args in
    let starts = s.requires.blocks in
    offsets-placed (files s) a.l_bits.now a.t_bits.now a.d_bits.now a.b_bits.now
    a.s_bits.now a.l_blocks.now a.t_blocks.now a.d_blocks.now
    a.b_blocks.now a.s_blocks.now a.rows s.requires a.keys
    s.well_formed.1.1.1.1.1.1.1.1.1.1.1.1.1.1.1.0.1.0.1 first.offset_in-l.result
    second.offset_in-t.result third.offset_in-d.result fourth.offset_in-dependent.result fifth.offset_in-second.result
    sixth.offset_in-b.result c.offset_in-s.result
    (first.offset_in-l.ensures _ starts.of_localities)
    (second.offset_in-t.ensures _ starts.of_thoroughfares)
    (third.offset_in-d.ensures _ starts.of_descriptors)
    (fourth.offset_in-dependent.ensures _ starts.of_thoroughfares)
    (fifth.offset_in-second.ensures _ starts.of_descriptors)
    (sixth.offset_in-b.ensures _ starts.of_buildings)
    (c.offset_in-s.ensures _ starts.of_sub_buildings)

pub offsets_of_spec : {M : Type 1} → statement M
offsets_of_spec =
    tie.close
    (tie.spec (search rules) (search rules) offset-in-requires (search rules) (search rules) offset-in-requires-2
    (search rules) (search rules) offset-in-requires-3 (search rules) (search rules) offset-in-requires-4 (search rules)
    (search rules) offset-in-requires-5 (search rules) (search rules) offset-in-requires-6 (search rules) (search rules)
    offset-in-requires-7 returns)
