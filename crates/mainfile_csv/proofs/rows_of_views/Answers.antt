use Rattle.std.proofs.Common.{ℕ}
use mathlib.Core.Path.{sym, ap₂, ◌∙◌}
use Rattle.refusal.proofs.Outcomes.{afterwards-refused}
use Rattle.run.specs.Series.{run_from}
use Rattle.mainfile.specs.Set.{set_of}
use Rattle.mainfile_check.proofs.Laws.{set-accepted}
use Rattle.mainfile_label.proofs.Laws.{all-between}
use Rattle.csv_paf.specs.Row.{view_rows}
use Rattle.mainfile_csv.specs.Rows.{rows_among}
use Rattle.mainfile_csv.proofs.Laws.{rows-by-place}
use Rattle.refusal.specs.Answer.{refusal}
use Rattle.refusal.proofs.Passed.{said-passed}
use Rattle.mainfile_csv.proofs.rows_of_views.Goals as goal

pub walk-requires : goal.walk-requires
walk-requires c =
    let set = set_of c.args.localities.now c.args.thoroughfares.now c.args.descriptors.now c.args.buildings.now
    c.args.subs.now c.args.organisations.now c.args.addresses.now in
    rw (c.all_in.ensures.first, c.all_in.ensures.many)
    (all-between set (set-accepted set (sym c.check_set.ensures ∙ c.in_ok-check_set.was)))

pub returns : goal.returns
returns c =
    let set = set_of c.args.localities.now c.args.thoroughfares.now c.args.descriptors.now c.args.buildings.now
    c.args.subs.now c.args.organisations.now c.args.addresses.now in
    c.walk.ensures
    ∙ (ap₂ (λ (n m : ℕ). run_from (rows_among set n m) c.args.first c.args.count c.args.out.now)
    c.all_in.ensures.first c.all_in.ensures.many
    ∙ rows-by-place set (sym c.check_set.ensures ∙ c.in_ok-check_set.was) c.args.first c.args.count c.args.out.now)

pub returns-in_err-check_set : goal.returns-in_err-check_set
unfolding view_rows
returns-in_err-check_set c =
    said-passed _ c.from_residual.ensures.1
    ∙ (sym
    (afterwards-refused refusal c.args.out.now _ (sym c.check_set.ensures ∙ c.in_err-check_set.was)))
