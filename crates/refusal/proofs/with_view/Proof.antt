-- `refusal::with_view` meets its contract. Assumes nothing.
use mathlib.Core.Path.{sym, ap}
use Rattle.refusal.specs.Refusal.{with_view}
use borrow.Author.Rules.{rules}
use Rattle.refusal.proofs.with_view.Statement.{statement}
use Rattle.refusal.proofs.with_view.Tie as tie

returns-3 : tie.Need-returns-in-Trailer
returns-3 c = ap (with_view c.args.view) (sym c.in-Trailer.is)

returns-4 : tie.Need-returns-in-Malformed
returns-4 c = ap (with_view c.args.view) (sym c.in-Malformed.is)

returns-5 : tie.Need-returns-in-NotAbove
returns-5 c = ap (with_view c.args.view) (sym c.in-NotAbove.is)

returns-6 : tie.Need-returns-in-Follower
returns-6 c = ap (with_view c.args.view) (sym c.in-Follower.is)

returns-8 : tie.Need-returns-in-Combination
returns-8 c = ap (with_view c.args.view) (sym c.in-Combination.is)

returns-9 : tie.Need-returns-in-MissingKey
returns-9 c = ap (with_view c.args.view) (sym c.in-MissingKey.is)

returns-10 : tie.Need-returns-in-Room
returns-10 c = ap (with_view c.args.view) (sym c.in-Room.is)

returns-11 : tie.Need-returns-in-BadPack
returns-11 c = ap (with_view c.args.view) (sym c.in-BadPack.is)

returns-14 : tie.Need-returns-in-BadRow
returns-14 c = ap (with_view c.args.view) (sym c.in-BadRow.is)

returns-17 : tie.Need-returns-in-Later
returns-17 c = ap (with_view c.args.view) (sym c.in-Later.is)

pub with_view_spec : {M : Type 1} → statement M
with_view_spec =
    tie.close
    (tie.spec
    (λ c. search rules)
    (λ c. search rules)
    (λ c. search rules)
    (λ c. search rules)
    (λ c. search rules)
    (λ c. search rules)
    (λ c. search rules)
    (λ c. search rules)
    (λ c. search rules)
    (λ c. search rules)
    (λ c. search rules)
    (λ c. search rules)
    (λ c. search rules)
    (λ c. search rules)
    (λ c. search rules)
    (λ c. search rules)
    (λ c. search rules)
    (λ c. search rules)
    (λ c. search rules)
    returns-3
    returns-4
    returns-5
    returns-6
    (λ c. search rules)
    returns-8
    returns-9
    returns-10
    returns-11
    (λ c. search rules)
    (λ c. search rules)
    returns-14
    (λ c. search rules)
    (λ c. search rules)
    returns-17)
