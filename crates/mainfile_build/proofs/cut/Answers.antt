use Prim.Native.Nat.{ℕ}
use lib.ListN.{replicate}
use mathlib.Core.List.{List}
use mathlib.Core.Path.{refl, sym, ap, ◌∙◌}
use Rattle.std.specs.Prelude.{Err}
use Rattle.refusal.specs.Verdict.{fine}
use Rattle.refusal.proofs.Passed.{said-passed}
use Rattle.bits.proofs.Fresh.{fresh_unmarked}
use Rattle.build.specs.Plan.{Packed, first_refused, mark_all}
use Rattle.mainfile.specs.Set.{set_of}
use Rattle.mainfile.specs.Rows.{set_stock}
use Rattle.mainfile_mark.specs.Marks.{set_marks}
use Rattle.mainfile_build.proofs.Laws.{fresh-bits, fresh-marked, stretch-high, stretch-packed, cut_as}
use Rattle.mainfile_build.proofs.cut.Goals as goal

pub mark_addresses-requires : goal.mark_addresses-requires
mark_addresses-requires c =
    let set = set_of c.args.localities.now c.args.thoroughfares.now c.args.descriptors.now c.args.buildings.now
    c.args.sub_buildings.now c.args.organisations.now c.args.addresses.now in
    record {
      markable = record { accepted = c.requires.of_set; bits = fresh-bits set c.requires.of_set.rows 31_250 _ refl refl };
      many_bound =
          stretch-high set c.requires.of_set
          (record { first_is = c.stretch_in-found.ensures.first; many_is = c.stretch_in-found.ensures.many });
    }

pub write_if_room-requires : goal.write_if_room-requires
write_if_room-requires c =
    let set = set_of c.args.localities.now c.args.thoroughfares.now c.args.descriptors.now c.args.buildings.now
    c.args.sub_buildings.now c.args.organisations.now c.args.addresses.now in
    let packed = stretch-packed set c.requires.of_set
    (record { first_is = c.stretch_in-found.ensures.first; many_is = c.stretch_in-found.ensures.many }) in
    let verdict = c.mark_addresses.ensures.said ∙ sym (ap (first_refused (set_stock set)) packed) in
    let zeros : List ℕ = replicate 31_250 0 in
    let none = set_marks set zeros zeros zeros zeros zeros in
    record {
      marked =
          fresh-marked set c.args.code.now zeros _ _ _ _ _ c.requires (fresh_unmarked 31_250)
          (sym verdict ∙ c.in_ok-mark_addresses.was)
          (c.mark_addresses.ensures.marks_all c.in_ok-mark_addresses.was
          ∙ sym (ap (λ (ds : List Packed). mark_all (set_stock set) ds none) packed));
      stretched = record { first_is = c.stretch_in-found.ensures.first; many_is = c.stretch_in-found.ensures.many };
    }

pub returns : goal.returns
returns c =
    let set = set_of c.args.localities.now c.args.thoroughfares.now c.args.descriptors.now c.args.buildings.now
    c.args.sub_buildings.now c.args.organisations.now c.args.addresses.now in
    let packed = stretch-packed set c.requires.of_set
    (record { first_is = c.stretch_in-found.ensures.first; many_is = c.stretch_in-found.ensures.many }) in
    let verdict = c.mark_addresses.ensures.said ∙ sym (ap (first_refused (set_stock set)) packed) in
    c.write_if_room.ensures
    ∙ sym (cut_as set c.args.code.now c.args.out.now c.requires fine (sym verdict ∙ c.in_ok-mark_addresses.was))

pub returns-in_err-mark_addresses : goal.returns-in_err-mark_addresses
returns-in_err-mark_addresses c =
    let set = set_of c.args.localities.now c.args.thoroughfares.now c.args.descriptors.now c.args.buildings.now
    c.args.sub_buildings.now c.args.organisations.now c.args.addresses.now in
    let packed = stretch-packed set c.requires.of_set
    (record { first_is = c.stretch_in-found.ensures.first; many_is = c.stretch_in-found.ensures.many }) in
    let verdict = c.mark_addresses.ensures.said ∙ sym (ap (first_refused (set_stock set)) packed) in
    said-passed _ c.from_residual.ensures.1
    ∙ sym
    (cut_as set c.args.code.now c.args.out.now c.requires (Err c.in_err-mark_addresses.field-0.0)
    (sym verdict ∙ c.in_err-mark_addresses.was))
