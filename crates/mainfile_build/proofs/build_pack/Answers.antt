use mathlib.Core.Path.{sym, ◌∙◌}
use Rattle.ask.proofs.Laws.{by-good-code, by-bad-code, by-refused}
use Rattle.pack.specs.Cutting.{pack_built}
use Rattle.mainfile.specs.Set.{set_of}
use Rattle.mainfile.specs.Main.{main_of}
use Rattle.mainfile_check.proofs.Laws.{set-accepted}
use Rattle.refusal.specs.Answer.{refusal}
use Rattle.refusal.proofs.Passed.{said-passed}
use Rattle.mainfile_build.proofs.build_pack.Goals as goal

pub returns-then-outward_fault-ne0 : goal.returns-then-outward_fault-ne0
unfolding pack_built
returns-then-outward_fault-ne0 c =
    let set = set_of c.args.localities.now c.args.thoroughfares.now c.args.descriptors.now c.args.buildings.now
    c.args.subs.now c.args.organisations.now c.args.addresses.now in
    rw c.into.ensures
    (sym
    (by-bad-code refusal c.args.code.now c.args.out.now _ (main_of set)
    (sym c.check_set.ensures ∙ c.in_ok-check_set.was) (rw c.outward_fault.ensures at c.if-outward_fault-ne0.true)))

pub cut-requires : goal.cut-requires
cut-requires c =
    let set = set_of c.args.localities.now c.args.thoroughfares.now c.args.descriptors.now c.args.buildings.now
    c.args.subs.now c.args.organisations.now c.args.addresses.now in
    record {
      of_set = set-accepted set (sym c.check_set.ensures ∙ c.in_ok-check_set.was);
      of_code = rw c.outward_fault.ensures at c.if-outward_fault-ne0.false;
    }

pub returns : goal.returns
unfolding pack_built
returns c =
    let set = set_of c.args.localities.now c.args.thoroughfares.now c.args.descriptors.now c.args.buildings.now
    c.args.subs.now c.args.organisations.now c.args.addresses.now in
    c.cut.ensures
    ∙ sym
    (by-good-code refusal c.args.code.now c.args.out.now _ (main_of set)
    (sym c.check_set.ensures ∙ c.in_ok-check_set.was) (rw c.outward_fault.ensures at c.if-outward_fault-ne0.false))

pub returns-in_err-check_set : goal.returns-in_err-check_set
unfolding pack_built
returns-in_err-check_set c =
    let set = set_of c.args.localities.now c.args.thoroughfares.now c.args.descriptors.now c.args.buildings.now
    c.args.subs.now c.args.organisations.now c.args.addresses.now in
    said-passed _ c.from_residual.ensures.1
    ∙ (sym
    (by-refused refusal c.args.code.now c.args.out.now _ (main_of set)
    (sym c.check_set.ensures ∙ c.in_err-check_set.was)))
