-- A row without a fault has its sixteen fields, each of its form.
-- Assumes nothing.
use Prim.Native.Nat.{ℕ, zero, suc, ◌<◌}
use mathlib.Core.Path.{◌≡◌, refl, ap}
use mathlib.Core.Bool.{Bool, true, false, cond}
use mathlib.Core.List.{List, [], ◌∷◌}
use native.Mathlib.Omega.{arith}
use lib.ListN.{length, get_or}
use Rattle.csv_paf.specs.File.{field_fault}
use Rattle.csv_read.specs.Judged.{no_form}

-- of fields without a fault: as many as there are forms, each of its own
pub record AllFormed (forms : List (List ℕ → Bool)) (fs : List (List ℕ)) : Type 0 where
  pub many : length fs ≡ length forms
  pub each : (n : ℕ) → n < length forms → get_or forms n no_form (get_or fs n []) ≡ true

pub all-formed : (forms : List (List ℕ → Bool)) (k : ℕ) (fs : List (List ℕ)) (ended : Bool)
    → field_fault forms (suc k) fs ended ≡ 0
    → AllFormed forms fs
all-formed [] k [] ended e = record { many = refl; each = λ n h. absurd (omega (arith, h)) }
all-formed [] k (f ∷ fs) ended e = absurd (omega (arith, e))
all-formed (form ∷ forms) k [] ended e = absurd (omega (arith, e))
all-formed (form ∷ forms) k (f ∷ fs) ended e = by-test (form f) refl e (λ q. all-formed forms (suc k) fs ended q)
  where
    by-test : (t : Bool) → form f ≡ t → cond t (field_fault forms (suc (suc k)) fs ended) (suc k) ≡ 0
        → (field_fault forms (suc (suc k)) fs ended ≡ 0 → AllFormed forms fs)
        → AllFormed (form ∷ forms) (f ∷ fs)
    by-test false q z more = absurd (omega (arith, z))
    by-test true q z more =
        let rest = more z in
        record { many = ap suc rest.many; each = each-one rest.each }
      where
        each-one : ((n : ℕ) → n < length forms → get_or forms n no_form (get_or fs n []) ≡ true) → (n : ℕ)
            → n < suc (length forms)
            → get_or (form ∷ forms) n no_form (get_or (f ∷ fs) n []) ≡ true
        each-one each zero h = q
        each-one each (suc n) h = each n (omega (arith, h))
