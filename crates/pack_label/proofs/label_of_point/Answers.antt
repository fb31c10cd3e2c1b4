use Rattle.std.proofs.Common.{◌≡◌, Ok}
use mathlib.Core.Path.{sym, ◌∙◌}
use Rattle.refusal.specs.Answer.{refusal}
use Rattle.refusal.proofs.Outcomes.{afterwards-value}
use Rattle.refusal.proofs.Passed.{afterwards-passed}
use Rattle.pack.specs.Opening.{opened}
use Rattle.pack.specs.Points.{pack_label}
use Rattle.pack_open.proofs.Opened.{opened-all, opened-sized}
use Rattle.pack_label.proofs.label_of_point.Goals as goal

pub returns-in_err-count : goal.returns-in_err-count
unfolding pack_label
returns-in_err-count c = afterwards-passed _ _ c.open_pack.ensures c.in_err-count.was c.from_residual.ensures.1

pub label_at-requires : goal.label_at-requires
label_at-requires c =
    let value : opened c.args.pack.now ≡ Ok c.in_ok-count.count = sym c.open_pack.ensures ∙ c.in_ok-count.was in
    (opened-sized _ _ value, (opened-all _ _ value).counted)

pub returns : goal.returns
unfolding pack_label
returns c =
    c.label_at.ensures ∙ sym (afterwards-value refusal c.args.out.now _ (sym c.open_pack.ensures ∙ c.in_ok-count.was))
