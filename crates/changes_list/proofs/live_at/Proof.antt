-- `changes_list::live_at` meets its contract. Assumes nothing.
use borrow.Author.Rules.{rules}
use Prim.Native.Nat.{ℕ}
use mathlib.Core.Path.{◌≡◌}
use mathlib.Core.List.{List}
use native.Mathlib.Omega.{arith}
use borrow.Author.Tests.{eq-eqb, ne_eqb}
use Rattle.field_outward.specs.Outward.{outward_fault}
use Rattle.refusal.specs.declared.Reason.TheVariants.{BadCode}
use Rattle.changes_views.specs.Views.{wanted_count}
use Rattle.changes_list.specs.Listing.{live_at}
use Rattle.changes_list.proofs.live_at.Statement.{statement}
use Rattle.changes_list.proofs.live_at.Tie as tie
use Rattle.std.specs.Prelude.{Ok}
use Rattle.refusal.specs.Answer.{refusal}

module _ (points code : List ℕ) where
  counted : outward_fault code ≡ 0 → Ok (wanted_count code points) ≡ live_at points code
  unfolding live_at
  counted clean = simp (eq-eqb (outward_fault code) 0 clean)

  malformed : (outward_fault code ≡ 0 → ⊥) → refusal 0 BadCode ≡ live_at points code
  unfolding live_at
  malformed fault = simp (ne_eqb (outward_fault code) 0 fault)

-- a goal is not called by the test that leads to it, so that another test is refused for what it means
pub live_at_spec : {M : Type 1} → statement M
live_at_spec =
    tie.close
    (tie.spec (search rules) (search rules)
    (search rules)
    (λ c. rw c.count_wanted.ensures (counted c.args.points.now c.args.code.now (omega arith)))
    (λ c. rw c.into.ensures (malformed c.args.points.now c.args.code.now (λ z. omega arith))))
