-- No fault of a record of a set is told further than one byte behind the record's last field.
-- Assumes nothing.
use Prim.Native.Nat.{ℕ, ◌+◌, ◌≤◌}
use mathlib.Core.Bool.{Bool, true, false, cond}
use mathlib.Core.List.{List, [], ◌∷◌}
use native.Mathlib.Omega.{arith}
use lib.Dec.{eqb}
use lib.ListN.{length, drop, get_or}
use Rattle.field.specs.Text.{text_fault, filled_fault, part}
use Rattle.field.proofs.Texts.{text-bound, filled-bound}
use Rattle.field_outward.proofs.Codes.{outward-bound, inward-bound, suffix-bound}
use Rattle.file_fault.specs.Fields.{field, key_fault}
use Rattle.file_fault.proofs.Laws.{digits-bound}
use Rattle.file_fault.proofs.Bounds.{Near, AllNear, fields-bound, one-of-near, key-near, double-near}
use Rattle.mainfile_fault.specs.Faults.{locality_record, main_locality_fault, main_text_fault, name_fault, organisation_record, main_organisation_fault, address_record, main_address_fault}

name-near : (type : ℕ) → Near (name_fault type)
name-near type s = by-test (eqb type 83)
  where
    by-test : (t : Bool) → cond t (filled_fault s) (text_fault s) ≤ 1 + length s
    by-test true = filled-bound s
    by-test false = text-bound s

-- the fields of an address, from the last back
rest-near : AllNear (drop 13 address_record)
rest-near = (one-of-near _, (one-of-near _, (suffix-bound, (one-of-near _, (text-bound, tt)))))

numbers-near : AllNear (drop 8 address_record)
numbers-near = (digits-bound, (digits-bound, (digits-bound, (digits-bound, (digits-bound, rest-near)))))

keys-near : AllNear (drop 2 address_record)
keys-near =
    (digits-bound, (digits-bound, (digits-bound, (digits-bound, (digits-bound, (digits-bound, numbers-near))))))

module _ (rec : List ℕ) where
  pub locality-bound : main_locality_fault rec ≤ 170
  unfolding main_locality_fault
  locality-bound =
      omega (
        arith,
        fields-bound 0 (locality_record rec) rec
            (key-near, ((λ s. omega arith), (filled-bound, (text-bound, (double-near (part rec 81 116), tt))))),
      )

  pub text-file-bound : (digits bytes : ℕ) → digits + bytes ≤ 169 → main_text_fault digits bytes rec ≤ 170
  unfolding main_text_fault
  text-file-bound digits bytes h =
      omega (
        arith,
        fields-bound 0 (field digits key_fault ∷ field bytes filled_fault ∷ []) rec (key-near, (filled-bound, tt)),
      )

  pub organisation-bound : main_organisation_fault rec ≤ 170
  unfolding main_organisation_fault
  organisation-bound =
      omega (
        arith,
        fields-bound 0 (organisation_record rec) rec
            (key-near, (one-of-near _, (name-near (get_or rec 8 0), (text-bound, tt)))),
      )

  pub address-bound : main_address_fault rec ≤ 170
  unfolding main_address_fault
  address-bound = omega (arith, fields-bound 0 address_record rec (outward-bound, (inward-bound, keys-near)))
