-- `mainfile_place::offsets::offset_in` meets its contract. Assumes nothing.
use borrow.Author.Rules.{rules}
use borrow.Author.Tests.{eq-eqb, ne_eqb}
use Prim.Native.Nat.{◌*◌}
use lib.ListN.{length}
use Rattle.mainfile_place.proofs.OfKind.{fits-of, row_of, starts-of}
use Rattle.mainfile_place.proofs.offsets.offset_in.Statement.{statement}
use Rattle.mainfile_place.proofs.offsets.offset_in.Tie as tie

returns : tie.Need-returns-then-key-eq0
returns c = λ start b. simp (eq-eqb _ 0 c.if-key-eq0.true)

returns-2 : tie.Need-returns-then-row-eq0
returns-2 c = λ start b. simp (ne_eqb _ 0 c.if-key-eq0.false, eq-eqb _ 0 c.if-row-eq0.true)

start-in-requires : tie.Need-start_in-requires
start-in-requires c κs =
    let some = c.if-row-eq0.false in
    let s = c in
    let a = s.args in (
      fits-of a.kind c.row_shelf.ensures a.file.now (64 * length a.blocks.now) s.requires.0,
      row_of a.kind c.row_shelf.ensures a.file.now a.row some s.requires.1,
    )

returns-3 : tie.Need-returns
returns-3 c =
    let k = c in
    let rowed = k in
    let keyed = rowed in
    let a = keyed.args in
    λ start b.
    simp (ne_eqb _ 0 keyed.if-key-eq0.false, ne_eqb _ 0 rowed.if-row-eq0.false)
    (starts-of a.kind k.row_shelf.ensures a.file.now a.bits.now a.blocks.now a.row
    c.start_in.result c.start_in.ensures start b)

pub offset_in_spec : {M : Type 1} → statement M
offset_in_spec = tie.close (tie.spec returns returns-2 (search rules) start-in-requires returns-3)
