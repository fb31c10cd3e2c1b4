-- `mainfile_runs::shown::shown_at` meets its contract. Assumes nothing.
use borrow.Author.Rules.{rules}
use mathlib.Core.Path.{sym, ap, ◌∙◌}
use mathlib.Core.Bool.{Bool}
use Rattle.mainfile.specs.Set.{Set, set_of}
use Rattle.mainfile_runs.specs.Shown.{shown_at}
use Rattle.mainfile_runs.proofs.Laws.{shown-label}
use Rattle.mainfile_runs.proofs.shown.shown_at.Statement.{statement}
use Rattle.mainfile_runs.proofs.shown.shown_at.Tie as tie

module _ (c : tie.Start) where
  abbrev files : Set
  files =
      let a = c.args in
      set_of a.localities.now a.thoroughfares.now a.descriptors.now a.buildings.now a.subs.now
      a.organisations.now a.addresses.now

returns : tie.Need-returns-then-listed
returns c =
    let item = c in
    let listed = item in
    let s = listed in
    item.item_at.ensures
    ∙ sym (ap (λ (t : Bool). shown_at t (files s.before.before.before.before.before.before.before.before.before.before.before.before.before) s.args.place s.args.out.now) listed.if-listed.true)

returns-2 : tie.Need-returns
returns-2 c =
    let label = c in
    let alone = label in
    let s = alone in
    label.label_at.ensures
    ∙ (shown-label (files s.before.before.before.before.before.before.before.before.before.before.before.before.before) s.args.place s.args.out.now
    ∙ sym (ap (λ (t : Bool). shown_at t (files s.before.before.before.before.before.before.before.before.before.before.before.before.before) s.args.place s.args.out.now) alone.if-listed.false))

pub shown_at_spec : {M : Type 1} → statement M
shown_at_spec =
    tie.close
    (tie.spec (λ c κs. search rules) (search rules) returns (λ c κs. search rules) (search rules) returns-2)
