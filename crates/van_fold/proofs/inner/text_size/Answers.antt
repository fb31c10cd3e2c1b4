use Rattle.std.proofs.Common.{sym, ◌∙◌, arith}
use Rattle.van_fold.proofs.Counts.{counted-all, text-low, text-last, text-next}
use Rattle.van_fold.proofs.inner.text_size.Goals as goal

-- src/inner.rt:114:9
pub overflow_add-rows : goal.overflow_add-rows
overflow_add-rows c =
    let next =
    text-next _ c.loop-rest.invariant c.first_line.ensures.line c.first_line.ensures.left c.line_size-size.ensures
    (sym c.is_empty.ensures ∙ c.loop-rest-test.true) in
    omega (arith, (text-low c.args.text.now next).0)

-- src/inner.rt:115:9
pub overflow_add-bytes : goal.overflow_add-bytes
overflow_add-bytes c =
    let next =
    text-next _ c.loop-rest.invariant c.first_line.ensures.line c.first_line.ensures.left c.line_size-size.ensures
    (sym c.is_empty.ensures ∙ c.loop-rest-test.true) in
    omega (arith, (text-low c.args.text.now next).1)

-- src/inner.rt:111:5
pub loop-rest-preserved : goal.loop-rest-preserved
loop-rest-preserved c =
    text-next _ c.loop-rest.invariant c.first_line.ensures.line c.first_line.ensures.left c.line_size-size.ensures
    (sym c.is_empty.ensures ∙ c.loop-rest-test.true)

-- src/inner.rt:105:1
pub returns : goal.returns
returns c = counted-all (text-last _ c.loop-rest.invariant (sym c.is_empty.ensures ∙ c.loop-rest-test.false))
