use Rattle.std.proofs.Common.{ℕ, ◌+◌, refl, ap, ◌∙◌, arith}
use Rattle.field.proofs.Fronts.{value-small}
use Rattle.shelf.specs.Shelf.{ref_at}
use Rattle.shelf_read.proofs.inner.ref_at.Goals as goal

pub overflow_add-result : goal.overflow_add-result
overflow_add-result c = omega (arith, c.value_of.ensures, value-small c.part_of.result.now, c.requires.base_small)

pub returns : goal.returns
unfolding ref_at
returns c = (
  ap (λ (n : ℕ). c.args.s.base + n) (c.value_of.ensures ∙ rw (c.part_of.ensures, c.record_of-rec.ensures) refl),
  omega (arith, c.value_of.ensures, value-small c.part_of.result.now, c.requires.base_small),
)
