-- Assumes nothing.
use Rattle.std.proofs.Common.{◌*◌, ◌<◌, length, arith}
use Rattle.std.proofs.lemmas.Grind.{common_steps}
use Rattle.std.proofs.lemmas.Nat.{rows}
use Rattle.pack_rows.proofs.WalkLaws.{next_place, stretch-begins, place-within, keeps-next, keeps-last, tells-within}
use Rattle.pack_rows.proofs.starts.keep_starts.Goals as goal

pub overflow_cast-starts : goal.overflow_cast-starts
overflow_cast-starts c =
    let l = c.loop-j in
    let g = c.requires.1.0 in
    let place = l.j * c.args.width in
    let h : place < length c.args.rows.now = stretch-begins _ c.args.width l.j c.requires.1.1.some (omega arith) in
    let t = c.walk_to-at.ensures.1 g.count place (omega arith) h ((l.invariant g.count g.good).ahead place (omega arith) h) in
    omega (arith, tells-within c.args.rows.now g.count place c.walk_to-at.result t)

pub loop-j-preserved : goal.loop-j-preserved
loop-j-preserved c =
    let rows = c.args.rows.now in
    let l = c.loop-j in
    let h : l.j * c.args.width < length rows = stretch-begins _ c.args.width l.j c.requires.1.1.some (omega arith) in
    λ n good.
    rw (next_place l.j c.args.width)
    (keeps-next rows n c.args.width l.starts l.at c.walk_to-at.result l.j c.requires.1.1.some
    (omega (arith, place-within rows c.args.width c.args.starts.now c.requires.1.1 l.j h))
    (l.invariant n good)
    (λ o p h. c.walk_to-at.ensures.1 n o p h ((l.invariant n good).ahead o p h)))

pub returns : goal.returns
returns c =
    λ n good.
    keeps-last c.args.rows.now n c.args.width c.loop-j.starts c.loop-j.at _ (grind (arith, common_steps, rows)) good
    (c.loop-j.invariant n good)
