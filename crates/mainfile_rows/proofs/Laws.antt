-- Laws of records whose fields are tested at once.
-- Assumes nothing.
use Prim.Native.Nat.{ℕ, ◌+◌}
use mathlib.Core.Path.{◌≡◌, refl}
use mathlib.Core.List.{List, [], ◌∷◌}
use native.Mathlib.Nat.{zero-add}
use lib.ListN.{get_or}
use Rattle.field.specs.Text.{text_fault, filled_fault, part}
use Rattle.file_fault.specs.Fields.{place, one_of, key_fault}
use Rattle.file_fault.specs.Table.{double_fault}
use Rattle.mainfile_fault.specs.Faults.{main_locality_fault, main_text_fault, name_fault, main_organisation_fault}

module _ (rec : List ℕ) where
  pub locality-fine : key_fault (part rec 0 6) ≡ 0
      → filled_fault (part rec 51 81) ≡ 0
      → text_fault (part rec 81 116) ≡ 0
      → double_fault (part rec 81 116) (part rec 116 151) ≡ 0
      → main_locality_fault rec ≡ 0
  unfolding main_locality_fault
  locality-fine key town dependent double = rw (key, town, dependent, double) refl

  pub text-fine : (digits bytes : ℕ) → key_fault (part rec 0 digits) ≡ 0
      → filled_fault (part rec digits (digits + bytes)) ≡ 0
      → main_text_fault digits bytes rec ≡ 0
  unfolding main_text_fault
  text-fine digits bytes key text = rw (zero-add digits, key, text) refl

  pub organisation-fine : key_fault (part rec 0 8) ≡ 0
      → place 8 (one_of (83 ∷ 76 ∷ []) (part rec 8 9)) ≡ 0
      → name_fault (get_or rec 8 0) (part rec 9 69) ≡ 0
      → text_fault (part rec 69 129) ≡ 0
      → main_organisation_fault rec ≡ 0
  unfolding main_organisation_fault
  organisation-fine key type name department = rw (key, type, name, department) refl
