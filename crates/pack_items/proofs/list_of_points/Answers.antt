use mathlib.Core.Path.{sym, ◌∙◌}
use Rattle.refusal.proofs.Outcomes.{afterwards-refused}
use Rattle.item.specs.Lines.{point_line}
use Rattle.pack_items.specs.Lists.{pack_list, pack_listed}
use Rattle.pack_items.proofs.Laws.{points-listed}
use Rattle.refusal.specs.Answer.{refusal}
use Rattle.refusal.proofs.Passed.{said-passed}
use Rattle.pack_items.proofs.list_of_points.Goals as goal

pub list_points-requires : goal.list_points-requires
list_points-requires c =
    sym c.open_pack.ensures ∙ c.in_ok-points.was

pub returns : goal.returns
unfolding pack_list
returns c =
    let a = c.args in
    c.list_points.ensures
    ∙ sym (points-listed point_line a.pack.now a.first a.count a.out.now (sym c.open_pack.ensures ∙ c.in_ok-points.was))

pub returns-in_err-points : goal.returns-in_err-points
unfolding pack_list pack_listed
returns-in_err-points c =
    let a = c.args in
    said-passed _ c.from_residual.ensures.1
    ∙ sym (afterwards-refused refusal a.out.now _ (sym c.open_pack.ensures ∙ c.in_err-points.was))
