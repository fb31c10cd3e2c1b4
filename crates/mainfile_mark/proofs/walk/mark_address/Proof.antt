-- `mainfile_mark::walk::mark_address` meets its contract. Assumes nothing.
use borrow.Author.Rules.{rules}
use Prim.Native.Nat.{ℕ, ◌/◌, ◌<◌}
use mathlib.Core.Path.{◌≡◌, sym, ap, ◌∙◌}
use mathlib.Core.List.{List}
use native.Mathlib.Omega.{arith}
use lib.ListN.{length}
use Rattle.source.specs.declared.DeliveryPoint.{DeliveryPoint}
use Rattle.source.specs.Delivery.{asked_of, refusal_in}
use Rattle.build.specs.Plan.{mark_rows}
use Rattle.mainfile.specs.Set.{Set, set_of}
use Rattle.mainfile_source.specs.Rows.{rows_by, kind_found}
use Rattle.mainfile_meaning.specs.Elements.{point_at, rows_at}
use Rattle.mainfile_mark.specs.Marks.{set_marks}
use Rattle.mainfile_mark.proofs.Refused.{refused-alike}
use Rattle.mainfile_mark.proofs.Packed.{found-in-files, found_rows, found-seven}
use Rattle.mainfile_mark.proofs.walk.mark_address.Statement.{statement}
use Rattle.mainfile_mark.proofs.walk.mark_address.Tie as tie

-- once the rows are looked up
module _ (looked : tie.After-kind_rows-found) where
  abbrev read : tie.After-delivery_at-p
  read = looked.before.before

  abbrev start : tie.Start
  start = read.before.before.before.before.before.before.before.before.before.before.before.before.before

  abbrev i : ℕ
  i = start.args.i

  abbrev files : Set
  files =
      let a = start.args in
      set_of a.localities.now a.thoroughfares.now a.descriptors.now a.buildings.now
      a.sub_buildings.now a.organisations.now a.addresses.now

  abbrev rows : List ℕ
  rows = looked.kind_rows-found.result.rows

  high : i < length start.args.addresses.now / 88
  high = omega (arith, start.requires.1)

  rows_are : rows ≡ rows_at files i
  rows_are =
      looked.kind_rows-found.ensures
      ∙ ap (λ (p : DeliveryPoint). rows_by (kind_found files) (asked_of p)) read.delivery_at-p.ensures

returns : tie.Need-returns
returns c =
    let m = c in
    let k = m in
    let s = files k.before.before.before.before.before.before.before.before.before.before.before.before.before.before.before.before in
    let a = (start k.before.before.before.before.before.before.before.before.before.before.before.before.before.before.before.before).args in
    let ok = (start k.before.before.before.before.before.before.before.before.before.before.before.before.before.before.before.before).requires.0.accepted in
    let refers = found_rows s ok (i k.before.before.before.before.before.before.before.before.before.before.before.before.before.before.before.before) (high k.before.before.before.before.before.before.before.before.before.before.before.before.before.before.before.before) (rows k.before.before.before.before.before.before.before.before.before.before.before.before.before.before.before.before) (rows_are k.before.before.before.before.before.before.before.before.before.before.before.before.before.before.before.before) in
    record {
      said =
          m.mark_point.ensures.0
          ∙ (ap (λ (p : DeliveryPoint). refusal_in p (rows k.before.before.before.before.before.before.before.before.before.before.before.before.before.before.before.before)) (read k.before.before.before.before.before.before.before.before.before.before.before.before.before.before.before.before).delivery_at-p.ensures
          ∙ (sym (refused-alike s (point_at s (i k.before.before.before.before.before.before.before.before.before.before.before.before.before.before.before.before)) (rows k.before.before.before.before.before.before.before.before.before.before.before.before.before.before.before.before) (found-seven s ok (i k.before.before.before.before.before.before.before.before.before.before.before.before.before.before.before.before) (high k.before.before.before.before.before.before.before.before.before.before.before.before.before.before.before.before) (rows k.before.before.before.before.before.before.before.before.before.before.before.before.before.before.before.before) (rows_are k.before.before.before.before.before.before.before.before.before.before.before.before.before.before.before.before)))
          ∙ ap (refusal_in (point_at s (i k.before.before.before.before.before.before.before.before.before.before.before.before.before.before.before.before))) refers));
      marks_rows =
          λ e.
          m.mark_point.ensures.1 e s (found-in-files s ok (i k.before.before.before.before.before.before.before.before.before.before.before.before.before.before.before.before) (high k.before.before.before.before.before.before.before.before.before.before.before.before.before.before.before.before) (rows k.before.before.before.before.before.before.before.before.before.before.before.before.before.before.before.before) (rows_are k.before.before.before.before.before.before.before.before.before.before.before.before.before.before.before.before))
          (start k.before.before.before.before.before.before.before.before.before.before.before.before.before.before.before.before).requires.0.bits
          ∙ ap (λ (found : List ℕ). mark_rows found (set_marks s a.of_localities.now a.of_thoroughfares.now
          a.of_descriptors.now a.of_buildings.now a.of_sub_buildings.now)) refers;
    }

pub mark_address_spec : {M : Type 1} → statement M
mark_address_spec =
    tie.close
    (tie.spec (λ c κs. search rules) (λ c κs. search rules) (λ c κs. search rules) (λ c. search rules)
    (λ c. search rules) (λ c. search rules) (λ c. search rules) (λ c. search rules) returns)
