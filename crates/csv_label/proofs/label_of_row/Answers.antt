use Rattle.std.proofs.Common.{ℕ, List}
use mathlib.Core.Option.{Option}
use mathlib.Core.Path.{sym, ap, ◌∙◌}
use Rattle.refusal.proofs.Passed.{afterwards-passed}
use Rattle.csv_paf.specs.Ask.{resolved_of, label_or, row_label, csv_label}
use Rattle.csv_label.proofs.RowLaws.{row_here}
use Rattle.csv_label.proofs.ShownLaws.{label-asked}
use Rattle.csv_label.proofs.label_of_row.Goals as goal

pub returns-in_err-check_csv : goal.returns-in_err-check_csv
unfolding csv_label
returns-in_err-check_csv c =
    afterwards-passed _ _ c.check_csv.ensures c.in_err-check_csv.was c.from_residual.ensures.1

pub label_at-requires : goal.label_at-requires
label_at-requires c =
    row_here c.args.csv.now (sym c.check_csv.ensures ∙ c.in_ok-check_csv.was) c.args.row c.row_place.result
    c.row_place.ensures.0 c.row_place.ensures.1

pub returns : goal.returns
unfolding row_label
returns c =
    c.label_at.ensures
    ∙ (ap (λ (o : Option (List ℕ)). label_or (resolved_of o) c.args.out.now) c.row_place.ensures.1
    ∙ label-asked c.args.csv.now (sym c.check_csv.ensures ∙ c.in_ok-check_csv.was) c.args.row c.args.out.now)
