-- `mainfile_source::delivery::delivery_at` meets its contract. Assumes nothing.
use borrow.Author.Rules.{rules}
use Prim.Native.Nat.{◌+◌, ◌*◌, ◌<◌}
use mathlib.Core.Path.{refl}
use native.Mathlib.Omega.{arith}
use Rattle.field.proofs.Texts.{part-bound}
use Rattle.field.proofs.Fronts.{four-digits}
use Rattle.mainfile_source.specs.Delivery.{delivery_at}
use Rattle.mainfile_source.proofs.Places.{start-within, own-before}
use Rattle.mainfile_source.proofs.delivery.delivery_at.Statement.{statement}
use Rattle.mainfile_source.proofs.delivery.delivery_at.Tie as tie

-- places in the two files, and what is added to them, fit
module _ (s : tie.After-own_row-row) where
  abbrev start : tie.Start
  start = s.before.before.before.before.before

  at-fits : s.start_at-at.result + 100 < 18_446_744_073_709_551_616
  at-fits =
      omega (
        arith,
        s.start_at-at.ensures,
        start-within start.args.addresses.now start.args.i,
        start.well_formed.0.1,
      )

  row_fits : s.own_row-row.result * 153 + 100 < 18_446_744_073_709_551_616
  row_fits =
      let rec = s.address_record-rec.result.now in
      omega (
        arith,
        s.own_row-row.ensures,
        own-before start.args.organisations.now rec,
        start.well_formed.1.0.1,
      )

cast-t10 : tie.Need-overflow_cast-result
cast-t10 c =
    let p = c in
    let bound = part-bound p.address_record-rec.result.now 45 49 in
    omega (arith, c.value_of.ensures, four-digits p.part_of-number.result.now (rw p.part_of-number.ensures bound))

add-t19 : tie.Need-overflow_add-result-2
add-t19 c = omega (arith, at-fits c.before.before.before.before.before.before.before.before)

add-t20 : tie.Need-overflow_add-result-3
add-t20 c = omega (arith, at-fits c.before.before.before.before.before.before.before.before)

mul-t22 : tie.Need-overflow_mul-result
mul-t22 c = omega (arith, row_fits c.before.before.before.before.before.before.before.before)

add-t23 : tie.Need-overflow_add-result-4
add-t23 c = omega (arith, row_fits c.before.before.before.before.before.before.before.before)

returns : tie.Need-returns
unfolding delivery_at
returns c =
    let b2 = c in
    let k2 = b2 in
    let v = k2 in
    let keys = v in
    let s = keys in
    rw (
      c.needs_row.ensures,
      b2.byte_of-3.ensures,
      b2.byte_of-2.ensures,
      b2.byte_of.ensures,
      k2.key_in-2.ensures,
      k2.key_in.ensures,
      v.value_of.ensures,
      v.part_of-number.ensures,
      keys.keys_in-keys.ensures,
      keys.own_row-row.ensures,
      s.start_at-at.ensures,
      s.address_record-rec.ensures,
    ) refl

pub delivery_at_spec : {M : Type 1} → statement M
delivery_at_spec = tie.close (tie.spec (λ c κs. search rules) (λ c κs. search rules) (λ c κs. search rules) (λ c κs. search rules) (λ c κs. search rules) (λ c κs. search rules) cast-t10 (λ c κs. search rules) (λ c κs. search rules) (λ c κs. search rules) (λ c κs. search rules) (λ c κs. search rules) (λ c. search rules) add-t19 add-t20 mul-t22 add-t23 (λ c κs. search rules) returns)
