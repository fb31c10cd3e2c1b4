use Rattle.std.proofs.Common.{false}
use mathlib.Core.Path.{sym, ◌∙◌}
use Rattle.refusal.proofs.Passed.{afterwards-passed}
use Rattle.csv_paf.specs.Ask.{csv_labels}
use Rattle.csv_label.proofs.ShownLaws.{rows-shown}
use Rattle.csv_label.proofs.labels_of_rows.Goals as goal

pub returns-in_err-rows : goal.returns-in_err-rows
unfolding csv_labels
returns-in_err-rows c =
    afterwards-passed _ _ c.check_csv.ensures c.in_err-rows.was c.from_residual.ensures.1

pub walk-requires : goal.walk-requires
walk-requires c = sym c.check_csv.ensures ∙ c.in_ok-rows.was

pub returns : goal.returns
returns c =
    c.walk.ensures
    ∙ rows-shown c.args.csv.now (sym c.check_csv.ensures ∙ c.in_ok-rows.was) false c.args.first c.args.count
    c.args.out.now
