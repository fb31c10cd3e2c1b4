-- `refusal::detail_of` meets its contract. Assumes nothing.
use mathlib.Core.Path.{sym, ap}
use borrow.Author.Rules.{rules}
use Rattle.refusal.specs.Refusal.{detail}
use Rattle.refusal.proofs.detail_of.Statement.{statement}
use Rattle.refusal.proofs.detail_of.Tie as tie

returns-4 : tie.Need-returns-in-Malformed
returns-4 c = ap detail (sym c.in-Malformed.is)

returns-8 : tie.Need-returns-in-Combination
returns-8 c = ap detail (sym c.in-Combination.is)

returns-9 : tie.Need-returns-in-MissingKey
returns-9 c = ap detail (sym c.in-MissingKey.is)

returns-14 : tie.Need-returns-in-BadRow
returns-14 c = ap detail (sym c.in-BadRow.is)

pub detail_of_spec : {M : Type 1} → statement M
detail_of_spec =
    tie.close
    (tie.spec
    (λ c. search rules)
    (λ c. search rules)
    (λ c. search rules)
    (λ c. search rules)
    (λ c. search rules)
    (λ c. search rules)
    (λ c. search rules)
    (λ c. search rules)
    (λ c. search rules)
    (λ c. search rules)
    (λ c. search rules)
    (λ c. search rules)
    (λ c. search rules)
    (λ c. search rules)
    (λ c. search rules)
    (λ c. search rules)
    (λ c. search rules)
    (λ c. search rules)
    (λ c. search rules)
    (λ c. search rules)
    returns-4
    (λ c. search rules)
    (λ c. search rules)
    (λ c. search rules)
    returns-8
    returns-9
    (λ c. search rules)
    (λ c. search rules)
    (λ c. search rules)
    (λ c. search rules)
    returns-14
    (λ c. search rules)
    (λ c. search rules)
    (λ c. search rules))
