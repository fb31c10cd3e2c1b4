use Rattle.std.proofs.Common.{rules, arith}
use Rattle.field.proofs.Texts.{part-bound}
use Rattle.field.proofs.Fronts.{value-small, four-digits}
use Rattle.changes_source.specs.Delivery.{delivery_at}
use Rattle.changes_source.proofs.delivery_at.Goals as goal

pub overflow_cast-result : goal.overflow_cast-result
overflow_cast-result c =
    let bound = part-bound c.point_record-rec.result.now 82 86 in
    omega (arith, c.value_of.ensures, four-digits c.part_of-number.result.now (rw c.part_of-number.ensures bound))

pub overflow_cast-result-2 : goal.overflow_cast-result-2
overflow_cast-result-2 c = omega (arith, c.value_of-2.ensures, value-small c.part_of-address.result.now)

pub overflow_cast-result-3 : goal.overflow_cast-result-3
overflow_cast-result-3 c = omega (arith, c.value_of-3.ensures, value-small c.part_of-organisation.result.now)

pub returns : goal.returns
unfolding delivery_at
returns c = search rules
