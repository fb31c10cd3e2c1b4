use Rattle.std.proofs.Common.{arith}
use Rattle.van_fold.proofs.Counts.{counted-all, line_low, line-last, line-next}
use Rattle.van_fold.proofs.inner.line_size.Goals as goal

-- src/inner.rt:51:9
pub overflow_add-rows : goal.overflow_add-rows
overflow_add-rows c =
    let next = line-next _ c.loop-rest.invariant c.first_row.ensures.row c.first_row.ensures.left c.loop-rest-test.true in
    omega (arith, (line_low c.args.line.now next).0)

-- src/inner.rt:52:9
pub overflow_add-bytes-in-loop-rest : goal.overflow_add-bytes-in-loop-rest
overflow_add-bytes-in-loop-rest c =
    let next = line-next _ c.loop-rest.invariant c.first_row.ensures.row c.first_row.ensures.left c.loop-rest-test.true in
    omega (arith, (line_low c.args.line.now next).1)

-- src/inner.rt:49:5
pub loop-rest-preserved : goal.loop-rest-preserved
loop-rest-preserved c =
    line-next _ c.loop-rest.invariant c.first_row.ensures.row c.first_row.ensures.left c.loop-rest-test.true

-- src/inner.rt:56:15
pub overflow_add-result : goal.overflow_add-result
overflow_add-result c =
    omega (arith, (line_low c.args.line.now (line-last _ c.loop-rest.invariant c.loop-rest-test.false)).0)

-- src/inner.rt:57:16
pub overflow_add-result-2 : goal.overflow_add-result-2
overflow_add-result-2 c =
    omega (arith, (line_low c.args.line.now (line-last _ c.loop-rest.invariant c.loop-rest-test.false)).1)

-- src/inner.rt:57:16
pub overflow_add-result-3 : goal.overflow_add-result-3
overflow_add-result-3 c =
    omega (arith, (line_low c.args.line.now (line-last _ c.loop-rest.invariant c.loop-rest-test.false)).1)

-- src/inner.rt:43:1
pub returns : goal.returns
returns c = counted-all (line-last _ c.loop-rest.invariant c.loop-rest-test.false)
