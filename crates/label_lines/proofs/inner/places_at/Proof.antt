-- `label_lines::inner::places_at` meets its contract: two thoroughfares and the localities, with the front before the first that there is.
-- Assumes nothing.
use borrow.Author.Rules.{rules}
use Rattle.label.specs.Put.{places_in}
use Rattle.label.proofs.Pieces.{places_pieces, places-made}
use Rattle.label.proofs.Walk.{Begun, begun, room, step, last}
use Rattle.label_lines.proofs.inner.places_at.Statement.{statement}
use Rattle.label_lines.proofs.inner.places_at.Tie as tie

at-dependent : (c : tie.After-front_after-h)
    → let g = c.args in
    let a = g.a.now in let b = g.b.now in
    Begun (places_in a b g.f g.e)
    (places_pieces a b g.f c.front_after-g.result c.front_after-h.result g.e) g.out.now g.at
at-dependent c =
    let start = c in
    begun (places-made _ _ start.args.f start.args.e c.front_after-g.ensures c.front_after-h.ensures)
    start.requires

place-at-requires : tie.Need-place_at-i-requires
place-at-requires c κs = room (at-dependent c.before)

place-at-requires-2 : tie.Need-place_at-j-requires
place-at-requires-2 c κs =
    let dependent = c in
    room (step (at-dependent dependent.before.before.before.before.before) dependent.place_at-i.ensures)

localities-at-requires : tie.Need-localities_at-requires
localities-at-requires c κs =
    let street = c in
    let dependent = street in
    room
    (step (step (at-dependent dependent.before.before.before.before.before.before.before.before.before) dependent.place_at-i.ensures) street.place_at-j.ensures)

returns : tie.Need-returns
returns c =
    let rest = c in
    let street = rest in
    let dependent = street in
    last
    (step (step (at-dependent dependent.before.before.before.before.before.before.before.before.before.before.before.before) dependent.place_at-i.ensures) street.place_at-j.ensures)
    rest.localities_at.ensures

pub places_at_spec : {M : Type 1} → statement M
places_at_spec =
    tie.close
    (tie.spec (search rules) (search rules) place-at-requires place-at-requires-2 localities-at-requires
    (search rules) returns)
