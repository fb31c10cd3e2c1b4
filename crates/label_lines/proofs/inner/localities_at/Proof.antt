-- `label_lines::inner::localities_at` meets its contract: three places, with the front before the first that there is.
-- Assumes nothing.
use borrow.Author.Rules.{rules}
use Rattle.label.specs.Put.{localities_in}
use Rattle.label.proofs.Pieces.{localities_pieces, localities-made}
use Rattle.label.proofs.Walk.{Begun, begun, room, step, last}
use Rattle.label_lines.proofs.inner.localities_at.Statement.{statement}
use Rattle.label_lines.proofs.inner.localities_at.Tie as tie

at-double : (c : tie.After-front_after-h) → let none = c in
    let g = none.args in
    let a = g.a.now in let b = g.b.now in
    Begun (localities_in a b g.f g.e)
    (localities_pieces a b none.no_text-none.result g.f c.front_after-g.result c.front_after-h.result g.e)
    g.out.now g.at
at-double c =
    let none = c in
    let start = none in
    begun
    (localities-made _ _ start.args.f start.args.e none.no_text-none.ensures c.front_after-g.ensures
    c.front_after-h.ensures)
    start.requires

place-at-requires : tie.Need-place_at-i-requires
place-at-requires c κs = room (at-double c.before)

place-at-requires-2 : tie.Need-place_at-j-requires
place-at-requires-2 c κs =
    let double = c in
    room (step (at-double double.before.before.before.before.before) double.place_at-i.ensures)

place-at-requires-3 : tie.Need-place_at-requires
place-at-requires-3 c κs =
    let dependent = c in
    let double = dependent in
    room (step (step (at-double double.before.before.before.before.before.before.before.before.before) double.place_at-i.ensures) dependent.place_at-j.ensures)

returns : tie.Need-returns
returns c =
    let town = c in
    let dependent = town in
    let double = dependent in
    last
    (step (step (at-double double.before.before.before.before.before.before.before.before.before.before.before.before) double.place_at-i.ensures) dependent.place_at-j.ensures)
    town.place_at.ensures

pub localities_at_spec : {M : Type 1} → statement M
localities_at_spec =
    tie.close
    (tie.spec (search rules) (search rules) (search rules) place-at-requires place-at-requires-2
    place-at-requires-3 (search rules) returns)
