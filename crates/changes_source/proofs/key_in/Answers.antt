use Rattle.std.proofs.Common.{arith}
use Rattle.field.proofs.Fronts.{value-small}
use Rattle.changes_source.proofs.key_in.Goals as goal

pub overflow_cast-result : goal.overflow_cast-result
overflow_cast-result c = omega (arith, c.value_of.ensures, value-small c.part_of.result.now)
