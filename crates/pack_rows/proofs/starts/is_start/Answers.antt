-- Assumes nothing.
use Rattle.std.proofs.Common.{sym, arith}
use Rattle.pack_rows.proofs.WalkLaws.{none-behind, tells-here, stretch-within}
use Rattle.pack_rows.proofs.starts.is_start.Goals as goal

pub returns-then-rows-o : goal.returns-then-rows-o
returns-then-rows-o c = λ n s. sym (none-behind c.args.rows.now n 1 0 c.args.o s.good c.if-rows-o.true)

pub bounds-starts-j : goal.bounds-starts-j
bounds-starts-j c =
    stretch-within c.args.rows.now c.args.width c.args.starts.now c.requires c.args.o c.if-rows-o.false

pub returns : goal.returns
returns c =
    let a = c.args in
    λ n s.
    sym
    (tells-here a.rows.now n a.o c.if-rows-o.false _ c.walk_to.ensures.0
    (c.walk_to.ensures.1 n a.o (omega arith) c.if-rows-o.false (s.tells a.o c.if-rows-o.false)))
