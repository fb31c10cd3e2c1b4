-- `report_write::blocks::fresh_label` meets its contract. Assumes nothing.
use borrow.Author.Rules.{rules}
use mathlib.Core.Path.{sym, subst}
use Rattle.refusal.specs.Outcome.{Outcome}
use Rattle.report_write.specs.Fresh.{TailZero}
use Rattle.report_write.proofs.Labels.{fresh-zero}
use Rattle.report_write.proofs.blocks.fresh_label.Statement.{statement}
use Rattle.report_write.proofs.blocks.fresh_label.Tie as tie
use Rattle.refusal.specs.Answer.{Answer}

label-at-requires : tie.Need-label_at-answer-requires
label-at-requires c κs = c.requires

returns : tie.Need-returns
returns c =
    let l = c in
    let s = l in
    let a = s.args in (
      l.label_at-answer.ensures,
      subst (λ (o : Outcome Answer). TailZero o.answer o.memory) (sym l.label_at-answer.ensures)
          (fresh-zero a.table.now a.points.now a.place s.requires),
    )

pub fresh_label_spec : {M : Type 1} → statement M
fresh_label_spec = tie.close (tie.spec (search rules) label-at-requires returns)
