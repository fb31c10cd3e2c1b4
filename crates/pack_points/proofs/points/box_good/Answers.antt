-- Assumes nothing.
use Rattle.std.proofs.Common.{sym, ◌∙◌, arith}
use Rattle.std.proofs.lemmas.Bool.Decides.{nat_tests}
use Rattle.field_test.proofs.Laws.{blank-text}
use Rattle.pack_points.proofs.points.box_good.Goals as goal

pub returns-then-all_are : goal.returns-then-all_are
returns-then-all_are c =
    let blank = blank-text c.args.s.now (sym c.all_are.ensures ∙ c.if-all_are.true) in
    grind (arith, nat_tests)
