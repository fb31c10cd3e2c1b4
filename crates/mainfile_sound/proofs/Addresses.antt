-- The fields of every address of an accepted set are well formed, and its views rise.
-- Assumes nothing.
use Prim.Native.Nat.{ℕ, zero, suc, ◌+◌, ◌-◌, ◌/◌, ◌≤◌, ◌<◌}
use mathlib.Core.Path.{◌≡◌}
use mathlib.Core.List.{List, [], ◌∷◌}
use native.Mathlib.Omega.{arith}
use lib.ListN.{length}
use Rattle.file_record.specs.Parts.{record_at}
use Rattle.file_record.proofs.Records.{part_length, record-length}
use Rattle.file_fault.proofs.Passing.{fields-pass, one_passes}
use Rattle.mainfile_fault.specs.Faults.{address_record, main_address_fault}
use Rattle.file.specs.Mainfile as Format
use Rattle.file.proofs.Laws.{at-least-two, within-limit}
use Rattle.source.specs.Same.{AllOf}
use Rattle.mainfile.specs.Set.{Set}
use Rattle.mainfile.specs.Addresses.{address_of, addresses_from, addresses_in}
use Rattle.mainfile.specs.Accepted.{AcceptedSet}
use Rattle.pack_sound.proofs.Fields.{FieldsSound, key_fits, number_fits}
use Rattle.pack_sound.proofs.Addresses.{Rising}
use Rattle.mainfile_sound.proofs.Organisations.{organisation-sound}

module _ (s : Set) (ok : AcceptedSet s) where
  abbrev file : List ℕ
  file = s.addresses

  fields_at : (n : ℕ) → 1 ≤ n → n < length file / 88 - 1
      → FieldsSound (address_of n (record_at 88 file n) s.organisations)
  unfolding address_of main_address_fault
  fields_at n low high =
      let rec = record_at 88 file n in
      let long : length rec ≡ 88 = record-length 88 file n (omega arith) in
      let p = fields-pass 0 address_record rec (ok.addresses.each n low high).well_formed in
      let kinds = p.1.1.1.1.1.1.1.1.1.1.1.1.1 in
      let kind = one_passes (83 ∷ 76 ∷ []) rec 77 kinds.0 in
      record {
        outward = p.0;
        inward = p.1.0;
        suffix = kinds.1.1.0;
        type = kind;
        address_key = key_fits rec 7 15 (omega arith);
        organisation_key = key_fits rec 69 77 (omega arith);
        number = number_fits rec 45 49 (omega arith);
        box_long = part_length rec 82 88 (omega arith) (omega arith);
        box_good = kinds.1.1.1.1.0;
        view = omega (arith, within-limit Format.addresses file ok.addresses.is_whole);
        keys = (
          key_fits rec 15 21 (omega arith),
          (
            key_fits rec 21 29 (omega arith),
            (
              key_fits rec 29 33 (omega arith),
              (
                key_fits rec 33 41 (omega arith),
                (
                  key_fits rec 41 45 (omega arith),
                  (key_fits rec 49 57 (omega arith), (key_fits rec 57 65 (omega arith), tt)),
                ),
              ),
            ),
          ),
        );
        organisation = organisation-sound s.organisations ok.organisations rec kind;
      }

  fields-from : (k n : ℕ) → 1 ≤ n → n + k ≤ length file / 88 - 1 → AllOf FieldsSound (addresses_from s k n)
  fields-from zero n low high = tt
  fields-from (suc k) n low high = (fields_at n low (omega arith), fields-from k (suc n) (omega arith) (omega arith))

  pub views-fields : AllOf FieldsSound (addresses_in s)
  unfolding addresses_in
  views-fields =
      fields-from (length file / 88 - 2) 1 (omega arith)
      (omega (arith, at-least-two Format.addresses file ok.addresses.is_whole))

-- "numbered from 1 in file order"
module _ (s : Set) where
  rises-from : (k low n : ℕ) → low < n → Rising low (addresses_from s k n)
  unfolding address_of
  rises-from zero low n h = tt
  rises-from (suc k) low n h = (h, rises-from k n (suc n) (omega arith))

  pub views-rise : Rising 0 (addresses_in s)
  unfolding addresses_in
  views-rise = rises-from (length s.addresses / 88 - 2) 0 1 (omega arith)
