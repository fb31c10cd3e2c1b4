use Rattle.std.proofs.Common.{ℕ}
use mathlib.Core.Path.{sym, ap₂, ◌∙◌}
use Rattle.refusal.specs.Answer.{refusal}
use Rattle.refusal.proofs.Passed.{said-passed}
use Rattle.ask.specs.Labels.{code_label}
use Rattle.ask.proofs.Laws.{by-bad-code, by-refused}
use Rattle.mainfile.specs.Set.{set_of}
use Rattle.mainfile.specs.Main.{main_of}
use Rattle.mainfile_check.proofs.Laws.{set-accepted}
use Rattle.mainfile_label.specs.Places.{place_among}
use Rattle.mainfile_label.proofs.Laws.{code-between, between-few, among-place, code-by-place}
use Rattle.mainfile_label.proofs.label_in_code.Goals as goal

pub returns-then-outward_fault-ne0 : goal.returns-then-outward_fault-ne0
unfolding code_label
returns-then-outward_fault-ne0 c =
    let set = set_of c.args.localities.now c.args.thoroughfares.now c.args.descriptors.now c.args.buildings.now
    c.args.subs.now c.args.organisations.now c.args.addresses.now in
    rw c.into.ensures
    (sym
    (by-bad-code refusal c.args.code.now c.args.out.now _ (main_of set)
    (sym c.check_set.ensures ∙ c.in_ok-check_set.was) (rw c.outward_fault.ensures at c.if-outward_fault-ne0.true)))

pub place_among-place-requires : goal.place_among-place-requires
place_among-place-requires c =
    let set = set_of c.args.localities.now c.args.thoroughfares.now c.args.descriptors.now c.args.buildings.now
    c.args.subs.now c.args.organisations.now c.args.addresses.now in
    rw (c.stretch_in.ensures.first, c.stretch_in.ensures.many)
    (between-few set _ _
    (code-between set (set-accepted set (sym c.check_set.ensures ∙ c.in_ok-check_set.was)) c.args.code.now))

pub label_at-requires : goal.label_at-requires
label_at-requires c =
    let set = set_of c.args.localities.now c.args.thoroughfares.now c.args.descriptors.now c.args.buildings.now
    c.args.subs.now c.args.organisations.now c.args.addresses.now in
    rw (c.place_among-place.ensures, c.stretch_in.ensures.first, c.stretch_in.ensures.many)
    (among-place set _ _
    (code-between set (set-accepted set (sym c.check_set.ensures ∙ c.in_ok-check_set.was)) c.args.code.now) c.args.k)

pub returns : goal.returns
returns c =
    let set = set_of c.args.localities.now c.args.thoroughfares.now c.args.descriptors.now c.args.buildings.now
    c.args.subs.now c.args.organisations.now c.args.addresses.now in
    let place = c.place_among-place.ensures
    ∙ ap₂ (λ (n m : ℕ). place_among n m c.args.k) c.stretch_in.ensures.first c.stretch_in.ensures.many in
    rw place at c.label_at.ensures
    ∙ code-by-place set (sym c.check_set.ensures ∙ c.in_ok-check_set.was) c.args.code.now
    (rw c.outward_fault.ensures at c.if-outward_fault-ne0.false) c.args.k c.args.out.now

pub returns-in_err-check_set : goal.returns-in_err-check_set
unfolding code_label
returns-in_err-check_set c =
    let set = set_of c.args.localities.now c.args.thoroughfares.now c.args.descriptors.now c.args.buildings.now
    c.args.subs.now c.args.organisations.now c.args.addresses.now in
    said-passed _ c.from_residual.ensures.1
    ∙ sym
    (by-refused refusal c.args.code.now c.args.out.now _ (main_of set)
    (sym c.check_set.ensures ∙ c.in_err-check_set.was))
