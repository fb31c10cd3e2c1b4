use mathlib.Core.Path.{◌∙◌}
use native.Mathlib.Omega.{arith}
use Rattle.item_write.proofs.Headed.{refusal-room, refusal-line}
use Rattle.item_write.proofs.inner.over_refusal.Goals as goal

pub returns-then-number-eq10 : goal.returns-then-number-eq10
returns-then-number-eq10 c =
    rw c.into.ensures
    (refusal-room c.args.heading.now c.args.reason c.args.out.now (omega arith) c.detail_of.ensures)

pub both_texts-requires : goal.both_texts-requires
both_texts-requires c =
    (c.requires.0, rw c.refused_line-line.ensures.is c.refused_line-line.ensures.short)

pub returns : goal.returns
returns c =
    rw c.refused_line-line.ensures.is at c.both_texts.ensures
    ∙ refusal-line c.args.heading.now c.args.reason c.args.out.now (λ z. omega arith) (λ z. omega arith)
