-- Where a record has no fault, each of its fields passes its test.
-- Assumes nothing.
use Prim.Native.Nat.{ℕ, zero, suc, ◌+◌}
use mathlib.Core.Path.{◌≡◌, refl, sym, ◌∙◌}
use mathlib.Core.Bool.{Bool, true, false, cond}
use mathlib.Core.List.{List, [], ◌∷◌}
use native.Mathlib.Omega.{arith}
use lib.ListN.{get_or}
use Rattle.field.specs.Test.{elem, every, only}
use Rattle.field.specs.Digits.{digit, digits_fault}
use Rattle.field.specs.Text.{part}
use Rattle.field.proofs.Faults.{no-fault-every}
use Rattle.file_fault.specs.Fields.{Field, place, first, fault_in, one_of, key_fault}
use Rattle.file_fault.specs.Point.{point_head, view_fields, point_rest, point_fault}
use Rattle.file_fault.specs.Table.{table_head, table_rest, table_fault}
use Rattle.file_fault.proofs.Laws.{one_byte}

-- no first fault is no fault
first-zero : (a b : ℕ) → first a b ≡ 0 → (a ≡ 0) × (b ≡ 0)
first-zero zero b e = (refl, e)
first-zero (suc a) b e = absurd (omega arith)

place-zero : (start n : ℕ) → place start n ≡ 0 → n ≡ 0
place-zero start zero e = refl
place-zero start (suc n) e = absurd (omega arith)

-- each field passes its test
abbrev pub Passes : ℕ → List Field → List ℕ → Type 0
Passes start [] rec = Unit {0}
Passes start (f ∷ fs) rec = (f.test (part rec start (start + f.width)) ≡ 0) × Passes (start + f.width) fs rec

pub fields-pass : (start : ℕ) (fs : List Field) (rec : List ℕ) → fault_in start fs rec ≡ 0 → Passes start fs rec
fields-pass start [] rec e = tt
fields-pass start (f ∷ fs) rec e =
    let here = f.test (part rec start (start + f.width)) in
    let both = first-zero (place start here) (fault_in (start + f.width) fs rec) e in
    (place-zero start here both.0, fields-pass (start + f.width) fs rec both.1)

pub digits-pass : (s : List ℕ) → digits_fault s ≡ 0 → every digit s ≡ true
unfolding digits_fault
digits-pass s e = no-fault-every digit s 0 e

-- a table key is of digits
pub key-pass : (s : List ℕ) → key_fault s ≡ 0 → every digit s ≡ true
unfolding key_fault
key-pass s e = by-test (only 48 s) e
  where
    by-test : (t : Bool) → cond t 1 (digits_fault s) ≡ 0 → every digit s ≡ true
    by-test true e = absurd (omega arith)
    by-test false e = digits-pass s e

-- every field of a point record that has no fault
pub point-passes : (rec : List ℕ) → point_fault rec ≡ 0
    → Passes 0 point_head rec × Passes 42 (point_rest (get_or rec 41 0)) rec
unfolding point_fault
point-passes rec e =
    let both = first-zero (fault_in 0 point_head rec) (fault_in 42 (point_rest (get_or rec 41 0)) rec) e in
    (fields-pass 0 point_head rec both.0, fields-pass 42 (point_rest (get_or rec 41 0)) rec both.1)

-- and of a view's record
pub view-passes : (rec : List ℕ) → point_fault rec ≡ 0 → get_or rec 41 0 ≡ 49 → Passes 42 view_fields rec
view-passes rec e view = rw view at (point-passes rec e).1

-- every field of a table record that has no fault
pub table-passes : (rec : List ℕ) → table_fault rec ≡ 0
    → Passes 0 table_head rec × Passes 24 (table_rest (get_or rec 0 0) rec) rec
unfolding table_fault
table-passes rec e =
    let both = first-zero (fault_in 0 table_head rec) (fault_in 24 (table_rest (get_or rec 0 0) rec) rec) e in
    (fields-pass 0 table_head rec both.0, fields-pass 24 (table_rest (get_or rec 0 0) rec) rec both.1)

-- a byte that is one of some
pub one_passes : (bytes rec : List ℕ) (at : ℕ) → one_of bytes (part rec at (at + 1)) ≡ 0 → elem (get_or rec at 0) bytes ≡ true
one_passes bytes rec at e = by-test (elem (get_or rec at 0) bytes) (sym (one_byte bytes rec at) ∙ e)
  where
    by-test : (t : Bool) → ◌≡◌ {A = ℕ} (cond t 0 1) 0 → t ≡ true
    by-test true e = refl
    by-test false e = absurd (omega arith)
