use Rattle.std.proofs.Common.{ℕ}
use mathlib.Core.Path.{sym, ap₂, ◌∙◌}
use Rattle.refusal.specs.Answer.{refusal}
use Rattle.refusal.proofs.Outcomes.{afterwards-refused}
use Rattle.refusal.proofs.Passed.{said-passed}
use Rattle.csv_paf.specs.Row.{view_row}
use Rattle.mainfile.specs.Set.{set_of}
use Rattle.mainfile_check.proofs.Laws.{set-accepted}
use Rattle.mainfile_label.specs.Places.{place_among}
use Rattle.mainfile_label.proofs.Laws.{all-between, between-few, among-place}
use Rattle.mainfile_csv.proofs.Laws.{row-by-place}
use Rattle.mainfile_csv.proofs.row_of_view.Goals as goal

pub place_among-place-requires : goal.place_among-place-requires
place_among-place-requires c =
    let set = set_of c.args.localities.now c.args.thoroughfares.now c.args.descriptors.now c.args.buildings.now
    c.args.subs.now c.args.organisations.now c.args.addresses.now in
    rw (c.all_in.ensures.first, c.all_in.ensures.many)
    (between-few set _ _ (all-between set (set-accepted set (sym c.check_set.ensures ∙ c.in_ok-check_set.was))))

pub row_at-requires : goal.row_at-requires
row_at-requires c =
    let set = set_of c.args.localities.now c.args.thoroughfares.now c.args.descriptors.now c.args.buildings.now
    c.args.subs.now c.args.organisations.now c.args.addresses.now in
    rw (c.place_among-place.ensures, c.all_in.ensures.first, c.all_in.ensures.many)
    (among-place set _ _ (all-between set (set-accepted set (sym c.check_set.ensures ∙ c.in_ok-check_set.was)))
    c.args.view)

pub returns : goal.returns
returns c =
    let set = set_of c.args.localities.now c.args.thoroughfares.now c.args.descriptors.now c.args.buildings.now
    c.args.subs.now c.args.organisations.now c.args.addresses.now in
    let place = c.place_among-place.ensures
    ∙ ap₂ (λ (n m : ℕ). place_among n m c.args.view) c.all_in.ensures.first c.all_in.ensures.many in
    rw place at c.row_at.ensures
    ∙ row-by-place set (sym c.check_set.ensures ∙ c.in_ok-check_set.was) c.args.view c.args.out.now

pub returns-in_err-check_set : goal.returns-in_err-check_set
unfolding view_row
returns-in_err-check_set c =
    said-passed _ c.from_residual.ensures.1
    ∙ sym (afterwards-refused refusal c.args.out.now _ (sym c.check_set.ensures ∙ c.in_err-check_set.was))
