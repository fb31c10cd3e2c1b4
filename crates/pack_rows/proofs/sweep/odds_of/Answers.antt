-- Assumes nothing.
use Rattle.std.proofs.Common.{◌/◌, length, arith}
use Rattle.std.proofs.lemmas.Grind.{common_steps}
use Rattle.pack_rows.proofs.OddLaws.{odds-parts, odds-bound}
use Rattle.pack_rows.proofs.sweep.odds_of.Goals as goal

pub loop-part-init : goal.loop-part-init
loop-part-init c =
    let all = odds-parts 240 (length c.args.s.now / 240) c.args.s.now in
    grind (arith, common_steps)

pub overflow_add-n : goal.overflow_add-n
overflow_add-n c =
    let all = odds-bound c.args.s.now in
    grind (arith, common_steps)
