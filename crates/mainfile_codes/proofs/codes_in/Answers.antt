use mathlib.Core.Path.{sym, ◌∙◌}
use Rattle.file.specs.Mainfile.{addresses}
use Rattle.file.proofs.Accepted.{accepted}
use Rattle.refusal.proofs.Outcomes.{afterwards-value, afterwards-refused}
use Rattle.mainfile_codes.specs.Codes.{codes_outcome}
use Rattle.refusal.specs.Answer.{refusal}
use Rattle.refusal.proofs.Passed.{said-passed}
use Rattle.mainfile_codes.proofs.codes_in.Goals as goal

pub list_codes-requires : goal.list_codes-requires
list_codes-requires c =
    let e = sym c.check_main.ensures ∙ c.in_ok-check_main.was in
    accepted addresses c.args.addresses.now _ e

pub returns : goal.returns
unfolding codes_outcome
returns c =
    c.list_codes.ensures
    ∙ sym
    (afterwards-value refusal c.args.out.now _
    (sym c.check_main.ensures ∙ c.in_ok-check_main.was))

pub returns-in_err-check_main : goal.returns-in_err-check_main
unfolding codes_outcome
returns-in_err-check_main c =
    said-passed _ c.from_residual.ensures.1
    ∙ (sym
    (afterwards-refused refusal c.args.out.now _
    (sym c.check_main.ensures ∙ c.in_err-check_main.was)))
