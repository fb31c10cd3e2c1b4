-- `mainfile_source::delivery::key_in` meets its contract. Assumes nothing.
use borrow.Author.Rules.{rules}
use mathlib.Core.Path.{ap, ◌∙◌}
use native.Mathlib.Omega.{arith}
use Rattle.field.specs.Digits.{value}
use Rattle.field.proofs.Fronts.{value-small}
use Rattle.mainfile_source.proofs.delivery.key_in.Statement.{statement}
use Rattle.mainfile_source.proofs.delivery.key_in.Tie as tie

cast-result : tie.Need-overflow_cast-result
cast-result c = omega (arith, c.value_of.ensures, value-small c.part_of.result.now)

returns : tie.Need-returns
returns c = c.value_of.ensures ∙ ap value c.part_of.ensures

pub key_in_spec : {M : Type 1} → statement M
key_in_spec = tie.close (tie.spec (λ c κs. search rules) (λ c κs. search rules) cast-result returns)
