use Rattle.std.proofs.Common.{ℕ}
use mathlib.Core.Path.{sym, ap₂, ◌∙◌}
use Rattle.run.specs.Series.{run_from}
use Rattle.mainfile.specs.Set.{set_of}
use Rattle.mainfile_check.proofs.Laws.{set-accepted}
use Rattle.mainfile_label.proofs.Laws.{all-between}
use Rattle.mainfile_runs.specs.Shown.{shown_among}
use Rattle.ask.proofs.Shown.{views-refused}
use Rattle.mainfile.specs.Main.{main_of}
use Rattle.mainfile_runs.proofs.Meant.{views-shown}
use Rattle.refusal.proofs.Passed.{said-passed}
use Rattle.mainfile_runs.proofs.asked.of_views.Goals as goal

pub walk-requires : goal.walk-requires
walk-requires c =
    let set = set_of c.args.localities.now c.args.thoroughfares.now c.args.descriptors.now c.args.buildings.now
    c.args.subs.now c.args.organisations.now c.args.addresses.now in
    rw (c.all_in.ensures.first, c.all_in.ensures.many)
    (all-between set (set-accepted set (sym c.check_set.ensures ∙ c.in_ok-check_set.was)))

pub returns : goal.returns
returns c =
    let set = set_of c.args.localities.now c.args.thoroughfares.now c.args.descriptors.now c.args.buildings.now
    c.args.subs.now c.args.organisations.now c.args.addresses.now in
    let taken = sym c.check_set.ensures ∙ c.in_ok-check_set.was in
    c.walk.ensures
    ∙ (ap₂ (λ (n m : ℕ). run_from (shown_among c.args.listed set n m) c.args.first c.args.count c.args.out.now)
    c.all_in.ensures.first c.all_in.ensures.many
    ∙ views-shown set taken c.args.first c.args.count c.args.out.now c.args.listed)

pub returns-in_err-check_set : goal.returns-in_err-check_set
returns-in_err-check_set c =
    let set = set_of c.args.localities.now c.args.thoroughfares.now c.args.descriptors.now c.args.buildings.now
    c.args.subs.now c.args.organisations.now c.args.addresses.now in
    said-passed _ c.from_residual.ensures.1
    ∙ (views-refused (main_of set) (sym c.check_set.ensures ∙ c.in_err-check_set.was) c.args.first c.args.count
    c.args.out.now c.args.listed)
