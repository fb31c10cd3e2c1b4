-- `mainfile_place::places::place_kind` meets its contract. Assumes nothing.
use borrow.Author.Rules.{rules}
use Prim.Native.Nat.{◌*◌}
use lib.ListN.{length}
use Rattle.mainfile_place.proofs.OfKind.{fits-of, placed_of}
use Rattle.mainfile_place.proofs.places.place_kind.Statement.{statement}
use Rattle.mainfile_place.proofs.places.place_kind.Tie as tie

place-rows-requires : tie.Need-place_rows-requires
place-rows-requires c κs =
    let s = c.before.before.before.before.before in
    let a = s.args in
    (fits-of a.kind c.row_shelf.ensures a.file.now (64 * length a.blocks.now) s.requires.0, s.requires.1)

returns : tie.Need-returns
returns c =
    let l = c in
    let s = l in
    let a = s.args in
    placed_of a.kind l.row_shelf.ensures a.file.now a.bits.now a.start
    l.place_rows.result l.place_rows.new.blocks l.place_rows.ensures s.requires.0.1

pub place_kind_spec : {M : Type 1} → statement M
place_kind_spec = tie.close (tie.spec (search rules) place-rows-requires (search rules) returns)
