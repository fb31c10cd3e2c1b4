-- `mainfile_source::organisations::number_at` meets its contract. Assumes nothing.
use borrow.Author.Rules.{rules}
use mathlib.Core.Path.{refl}
use native.Mathlib.Omega.{arith}
use Rattle.field.proofs.Fronts.{value-small}
use Rattle.mainfile_source.specs.Organisations.{number_at}
use Rattle.mainfile_source.proofs.organisations.number_at.Statement.{statement}
use Rattle.mainfile_source.proofs.organisations.number_at.Tie as tie

number-of-requires : tie.Need-number_of-requires
number-of-requires c κs = omega (arith, c.value_of-key.ensures, value-small c.part_of.result.now)

returns : tie.Need-returns
unfolding number_at
returns c =
    let b = c in
    let v = b in
    let p = v in
    rw (c.number_of.ensures, b.byte_of.ensures, v.value_of-key.ensures, p.part_of.ensures, p.organisation_record-rec.ensures) refl

pub number_at_spec : {M : Type 1} → statement M
number_at_spec = tie.close (tie.spec (λ c κs. search rules) (λ c κs. search rules) (λ c κs. search rules) (λ c κs. search rules) number-of-requires returns)
