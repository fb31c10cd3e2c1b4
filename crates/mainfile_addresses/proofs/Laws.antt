-- Laws of addresses whose fields are tested at once.
-- Assumes nothing.
use Prim.Native.Nat.{ℕ}
use mathlib.Core.Path.{◌≡◌, refl, ◌∙◌}
use mathlib.Core.List.{List, [], ◌∷◌}
use lib.Dec.{lit≤}
use lib.ListN.{drop}
use Rattle.field.specs.Digits.{digits_fault}
use Rattle.field.specs.Text.{text_fault, part}
use Rattle.field_outward.specs.Outward.{outward_fault}
use Rattle.field_outward.specs.Inward.{inward_fault, suffix_fault}
use Rattle.file_fault.specs.Fields.{place, first, fault_in, one_of}
use Rattle.file_fault.proofs.Laws.{digits-join}
use Rattle.file_fault.proofs.Passing.{fields-pass}
use Rattle.mainfile_fault.specs.Faults.{address_record, main_address_fault}

module _ (rec : List ℕ) where
  -- keys and numbers are 70 digits in a row
  pub address-digits : fault_in 7 (drop 2 address_record) rec
      ≡ first (place 7 (digits_fault (part rec 7 77))) (fault_in 77 (drop 13 address_record) rec)
  address-digits =
      digits-join rec 7 15 21 (lit≤ tt) (lit≤ tt) _
      ∙ (digits-join rec 7 21 29 (lit≤ tt) (lit≤ tt) _
      ∙ (digits-join rec 7 29 33 (lit≤ tt) (lit≤ tt) _
      ∙ (digits-join rec 7 33 41 (lit≤ tt) (lit≤ tt) _
      ∙ (digits-join rec 7 41 45 (lit≤ tt) (lit≤ tt) _
      ∙ (digits-join rec 7 45 49 (lit≤ tt) (lit≤ tt) _
      ∙ (digits-join rec 7 49 57 (lit≤ tt) (lit≤ tt) _
      ∙ (digits-join rec 7 57 65 (lit≤ tt) (lit≤ tt) _
      ∙ (digits-join rec 7 65 69 (lit≤ tt) (lit≤ tt) _
      ∙ digits-join rec 7 69 77 (lit≤ tt) (lit≤ tt) (fault_in 77 (drop 13 address_record) rec)))))))))

  pub rest-fine : place 77 (one_of (83 ∷ 76 ∷ []) (part rec 77 78)) ≡ 0
      → place 78 (one_of (89 ∷ 32 ∷ []) (part rec 78 79)) ≡ 0
      → suffix_fault (part rec 79 81) ≡ 0
      → place 81 (one_of (89 ∷ 32 ∷ []) (part rec 81 82)) ≡ 0
      → text_fault (part rec 82 88) ≡ 0
      → fault_in 77 (drop 13 address_record) rec ≡ 0
  rest-fine user concatenation suffix indicator box = rw (user, concatenation, suffix, indicator, box) refl

  pub address_is : main_address_fault rec
      ≡ first (place 0 (outward_fault (part rec 0 4)))
      (first (place 4 (inward_fault (part rec 4 7)))
      (first (place 7 (digits_fault (part rec 7 77))) (fault_in 77 (drop 13 address_record) rec)))
  unfolding main_address_fault
  address_is = rw address-digits refl

  pub address-fine : outward_fault (part rec 0 4) ≡ 0
      → inward_fault (part rec 4 7) ≡ 0
      → digits_fault (part rec 7 77) ≡ 0
      → fault_in 77 (drop 13 address_record) rec ≡ 0
      → main_address_fault rec ≡ 0
  address-fine outward inward keys rest = address_is ∙ rw (outward, inward, keys, rest) refl

  -- an address without a fault has a good outward code
  pub good-outward : main_address_fault rec ≡ 0 → outward_fault (part rec 0 4) ≡ 0
  unfolding main_address_fault
  good-outward e = (fields-pass 0 address_record rec e).0
