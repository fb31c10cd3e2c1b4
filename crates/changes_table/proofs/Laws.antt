-- Laws of records whose fields are tested at once.
-- Assumes nothing.
use Prim.Native.Nat.{ℕ}
use mathlib.Core.Path.{◌≡◌, refl}
use mathlib.Core.Bool.{true, false}
use mathlib.Core.List.{List, [], ◌∷◌}
use lib.Dec.{lit≤}
use lib.ListN.{get_or}
use Rattle.field.specs.Test.{elem, only}
use Rattle.field.specs.Digits.{digits_fault}
use Rattle.field.specs.Text.{text_fault, filled_fault, part}
use Rattle.file_fault.specs.Fields.{place, fault_in, one_of, key_fault}
use Rattle.file_fault.specs.Table.{table_head, table_rest, locality_fields, double_fault, table_fault}
use Rattle.file_fault.proofs.Laws.{digits-join, one_byte}

module _ (rec : List ℕ) where
  -- date and time are one run of digits
  pub head-fine : elem (get_or rec 0 0) (49 ∷ 50 ∷ 51 ∷ 52 ∷ 53 ∷ []) ≡ true
      → only 48 (part rec 1 9) ≡ false
      → digits_fault (part rec 1 9) ≡ 0
      → digits_fault (part rec 9 23) ≡ 0
      → place 23 (one_of (66 ∷ 67 ∷ 68 ∷ 73 ∷ 32 ∷ []) (part rec 23 24)) ≡ 0
      → fault_in 0 table_head rec ≡ 0
  unfolding key_fault
  head-fine kind zero key when letter =
      rw (one_byte (49 ∷ 50 ∷ 51 ∷ 52 ∷ 53 ∷ []) rec 0, kind, zero, key, digits-join rec 9 17 23 (lit≤ tt) (lit≤ tt), when, letter) refl

  pub locality-fine : filled_fault (part rec 69 99) ≡ 0
      → text_fault (part rec 99 134) ≡ 0
      → double_fault (part rec 99 134) (part rec 134 169) ≡ 0
      → fault_in 24 (locality_fields rec) rec ≡ 0
  locality-fine town dependent double = rw (town, dependent, double) refl

  pub table-fine : fault_in 0 table_head rec ≡ 0 → fault_in 24 (table_rest (get_or rec 0 0) rec) rec ≡ 0 → table_fault rec ≡ 0
  unfolding table_fault
  table-fine head rest = rw head rest
