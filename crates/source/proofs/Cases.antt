-- What an address resolves to, case by case: its elements, or 8 or 9, whose details are small.
-- Assumes nothing.
use Prim.Native.Nat.{ℕ, suc, ◌+◌, ◌≤◌}
use mathlib.Core.Path.{◌≡◌, refl}
use mathlib.Core.Bool.{Bool, true, false, cond, not, ◌&&◌, ◌||◌}
use mathlib.Core.List.{List, [], ◌∷◌}
use native.Mathlib.Omega.{arith}
use borrow.Author.Tests.{eqb-true, eqb-false}
use lib.Dec.{eqb}
use lib.ListN.{length}
use Rattle.refusal.specs.declared.Reason.TheVariants.{Combination, MissingKey}
use Rattle.source.specs.Address.{Lookup, Address, present, Asked, keys_of}
use Rattle.source.specs.Resolve.{forbidden, lacks, missing_from, lacks_organisation, missing, elements_of, elements, refused, resolve}

pub data Resolving (look : Lookup) (a : Address) : Type 0 where
  mixed : (forbidden a ≡ 0 → ⊥) → resolve look a ≡ refused (Combination (forbidden a) 0) → Resolving look a
  lacking : forbidden a ≡ 0 → (missing look a ≡ 0 → ⊥) → resolve look a ≡ refused (MissingKey (missing look a) 0)
      → Resolving look a
  fine : forbidden a ≡ 0 → missing look a ≡ 0 → resolve look a ≡ elements (elements_of look a) → Resolving look a

pub resolving : (look : Lookup) (a : Address) → Resolving look a
unfolding resolve
resolving look a = by_tests (eqb (forbidden a) 0) (eqb (missing look a) 0) refl refl
  where
    by_tests : (t u : Bool) → eqb (forbidden a) 0 ≡ t → eqb (missing look a) 0 ≡ u → Resolving look a
    by_tests true true p q = fine (eqb-true _ 0 p) (eqb-true _ 0 q) (rw (p, q))
    by_tests true false p q = lacking (eqb-true _ 0 p) (eqb-false _ 0 q) (rw (p, q))
    by_tests false u p q = mixed (eqb-false _ 0 p) (rw p)

-- "8 | .. | 1, 2, 3"
pub three-rules : (a : Address) → forbidden a ≤ 3
unfolding forbidden
three-rules a =
    by_tests (present a.sub_building && not (present a.building || present a.number))
    (present a.dependent && not (present a.thoroughfare))
    ((present a.descriptor && not (present a.thoroughfare))
    || (present a.dependent_descriptor && not (present a.dependent)))
  where
    by_tests : (t u v : Bool) → cond t 1 (cond u 2 (cond v 3 0)) ≤ 3
    by_tests true u v = omega arith
    by_tests false true v = omega arith
    by_tests false false true = omega arith
    by_tests false false false = omega arith

missing-bound : (look : Lookup) (n : ℕ) (keys : List Asked) → missing_from look n keys ≤ n + length keys
missing-bound look n [] = omega arith
missing-bound look n (a ∷ more) =
    by-test (present a.key && lacks (look a.kind a.key)) (missing-bound look (suc n) more)
  where
    by-test : (t : Bool) → missing_from look (suc n) more ≤ suc n + length more
        → cond t n (missing_from look (suc n) more) ≤ n + suc (length more)
    by-test true h = omega arith
    by-test false h = omega arith

-- seven keys, and behind them the organisation
pub eight-fields : (look : Lookup) (a : Address) → missing look a ≤ 8
unfolding missing
eight-fields look a =
    by_tests (not (present a.locality)) (eqb (missing_from look 1 (keys_of a)) 0) (lacks_organisation a.organisation)
    (missing-bound look 1 (keys_of a))
  where
    by_tests : (t u v : Bool) → missing_from look 1 (keys_of a) ≤ 8
        → cond t 1 (cond u (cond v 8 0) (missing_from look 1 (keys_of a))) ≤ 8
    by_tests true u v h = omega arith
    by_tests false true true h = omega arith
    by_tests false true false h = omega arith
    by_tests false false v h = h
