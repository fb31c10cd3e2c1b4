use Rattle.std.proofs.Common.{◌+◌, sym, ◌∙◌, arith, rules, of_calls}
use Rattle.refusal.proofs.Passed.{passed-on}
use Rattle.refusal.proofs.Verdicts.{bad-fine}
use Rattle.build.proofs.Walks.{marking-start, marking-as, marking-on, marking-end}
use Rattle.mainfile.specs.Set.{set_of}
use Rattle.mainfile_mark.proofs.Packed.{packed_start, packed_step, packed-end, bits-kept}
use Rattle.mainfile_mark.proofs.Stopped.{fine-before, stopped}
use Rattle.mainfile_mark.proofs.walk.mark_addresses.Goals as goal

pub loop-i-init : goal.loop-i-init
loop-i-init c =
    let a = c.args in
    marking-as (packed_start a.addresses.now a.organisations.now a.first a.many) (marking-start _ _ _)

pub mark_address-requires : goal.mark_address-requires
mark_address-requires c =
    let a = c.args in
    let s = set_of a.localities.now a.thoroughfares.now a.descriptors.now a.buildings.now a.sub_buildings.now a.organisations.now a.addresses.now in
    let k = c.loop-i.auto in
    record {
      markable =
          record {
            accepted = c.requires.markable.accepted;
            bits = bits-kept s c.requires.markable.bits k.of_localities k.of_thoroughfares k.of_descriptors k.of_buildings k.of_sub_buildings;
          };
      i_bound = omega arith;
    }

pub returns-in_err-map_err : goal.returns-in_err-map_err
returns-in_err-map_err c =
    let a = c.args in
    let left = marking-as (packed_step a.addresses.now a.organisations.now c.loop-i.i-counter (a.first + a.many) (omega arith)) c.loop-i.invariant in
    let why = stopped c.mark_address.result c.map_err.result _ c.map_err.ensures.cases (λ e x q. search (of_calls, rules)) c.mark_address.ensures.said left c.in_err-map_err.was in
    let is = passed-on c.from_residual.result _ c.from_residual.ensures.1 in
    record { said = is ∙ sym why; marks_all = λ e. absurd (bad-fine _ (sym is ∙ e)) }

pub loop-i-preserved : goal.loop-i-preserved
loop-i-preserved c =
    let a = c.args in
    let left = marking-as (packed_step a.addresses.now a.organisations.now c.loop-i.i-counter (a.first + a.many) (omega arith)) c.loop-i.invariant in
    let clean = fine-before c.mark_address.result c.map_err.result _ c.map_err.ensures.cases c.in_ok-map_err.was in
    marking-on left (sym c.mark_address.ensures.said ∙ clean) (c.mark_address.ensures.marks_rows clean)

pub returns : goal.returns
returns c =
    let a = c.args in
    let none = packed-end a.addresses.now a.organisations.now c.loop-i.i-counter (a.first + a.many) (omega arith) in
    let done = marking-end (marking-as none c.loop-i.invariant) in
    record { said = done.0; marks_all = λ e. done.1 }
