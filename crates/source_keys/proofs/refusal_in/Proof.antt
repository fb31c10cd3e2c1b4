-- `source_keys::refusal_in` meets its contract. Assumes nothing.
use borrow.Author.Rules.{rules}
use Prim.Native.Nat.{ℕ}
use mathlib.Core.Path.{◌≡◌, refl}
use mathlib.Core.List.{List}
use native.Mathlib.Omega.{arith}
use borrow.Author.Tests.{eq-eqb, ne_eqb}
use Rattle.refusal.specs.declared.Reason.TheVariants.{Combination, MissingKey}
use Rattle.source.specs.declared.DeliveryPoint.{DeliveryPoint}
use Rattle.source.specs.Delivery.{forbidden_in, missing_in, refusal_in}
use Rattle.source_keys.proofs.refusal_in.Statement.{statement}
use Rattle.source_keys.proofs.refusal_in.Tie as tie
use Rattle.std.specs.Prelude.{Err}
use Rattle.refusal.specs.Verdict.{fine}

module _ (p : DeliveryPoint) (rows : List ℕ) (rule field : ℕ) (ruled : rule ≡ forbidden_in p) (lacking : field ≡ missing_in p rows)
  where
    forbidden-mix : (rule ≡ 0 → ⊥) → Err (Combination rule 0) ≡ refusal_in p rows
    unfolding refusal_in
    forbidden-mix some = rw ruled (simp (ne_eqb _ 0 (rw ruled at some)))

    key-missing : rule ≡ 0 → (field ≡ 0 → ⊥) → Err (MissingKey field 0) ≡ refusal_in p rows
    unfolding refusal_in
    key-missing none some = rw lacking (simp (eq-eqb _ 0 (rw ruled at none), ne_eqb _ 0 (rw lacking at some)))

    none-refused : rule ≡ 0 → field ≡ 0 → fine ≡ refusal_in p rows
    unfolding refusal_in
    none-refused none nothing = simp (eq-eqb _ 0 (rw ruled at none), eq-eqb _ 0 (rw lacking at nothing))

-- no goal is called by its test, so that another test is refused for what it means
pub refusal_in_spec : {M : Type 1} → statement M
refusal_in_spec =
    tie.close
    (tie.spec (search rules)
    (λ c.
    forbidden-mix c.args.p c.args.found.rows c.forbidden_in-rule.result (missing_in c.args.p c.args.found.rows)
    c.forbidden_in-rule.ensures refl (λ z. omega arith))
    (search rules)
    (λ c.
    key-missing c.args.p c.args.found.rows c.forbidden_in-rule.result c.missing_in-field.result c.forbidden_in-rule.ensures
    c.missing_in-field.ensures (omega arith) (λ z. omega arith))
    (λ c.
    none-refused c.args.p c.args.found.rows c.forbidden_in-rule.result c.missing_in-field.result
    c.forbidden_in-rule.ensures c.missing_in-field.ensures (omega arith) (omega arith)))
