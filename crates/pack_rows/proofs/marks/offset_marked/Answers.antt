-- Assumes nothing.
use Rattle.std.proofs.Common.{◌/◌, ◌<◌, length, arith}
use Rattle.std.proofs.lemmas.Grind.{common_steps}
use Rattle.std.proofs.lemmas.Nat.{div_below}
use Rattle.pack.specs.Opening.{offset_good}
use Rattle.pack_rows.proofs.WalkLaws.{first-start, none-behind}
use Rattle.pack_rows.proofs.marks.offset_marked.Goals as goal

pub returns-then-rows-at : goal.returns-then-rows-at
unfolding offset_good
returns-then-rows-at c =
    λ n fine.
    let none = none-behind c.args.rows.now n 1 0 c.args.o fine.good in
    let some = fine.some in
    grind (arith, common_steps)

pub returns : goal.returns
unfolding offset_good
returns c =
    λ n fine.
    let bit : c.if-absent.at / 32 < length c.args.marks.now = div_below _ 32 _ (omega arith) (omega arith) in
    let told = fine.told c.if-absent.at bit in
    let first = first-start c.args.rows.now n fine.some fine.good in
    grind (arith, common_steps)
