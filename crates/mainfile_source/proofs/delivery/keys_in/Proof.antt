-- `mainfile_source::delivery::keys_in` meets its contract. Assumes nothing.
use borrow.Author.Rules.{rules}
use mathlib.Core.Path.{refl}
use Rattle.mainfile_source.proofs.delivery.keys_in.Statement.{statement}
use Rattle.mainfile_source.proofs.delivery.keys_in.Tie as tie

returns : tie.Need-returns
returns c =
    let sixth = c in
    let fifth = sixth in
    let fourth = fifth in
    let third = fourth in
    let second = third in
    rw (
      c.key_in-sub_building.ensures,
      sixth.key_in-building.ensures,
      fifth.key_in-second.ensures,
      fourth.key_in-dependent.ensures,
      third.key_in-descriptor.ensures,
      second.key_in-thoroughfare.ensures,
      second.key_in-locality.ensures,
    ) refl

pub keys_in_spec : {M : Type 1} → statement M
keys_in_spec = tie.close (tie.spec (λ c κs. search rules) (λ c κs. search rules) (λ c κs. search rules) (λ c κs. search rules) (λ c κs. search rules) (λ c κs. search rules) (λ c κs. search rules) returns)
