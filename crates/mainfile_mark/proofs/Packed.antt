-- The addresses of a stretch as they are packed: from one to the next, and the rows that they refer to.
-- Assumes nothing.
use Prim.Native.Nat.{ℕ, zero, suc, ◌+◌, ◌-◌, ◌/◌, ◌≤◌, ◌<◌}
use mathlib.Core.Path.{◌≡◌, refl, ap, ◌∙◌}
use mathlib.Core.Bool.{Bool, true, false, cond}
use mathlib.Core.List.{List, [], ◌∷◌}
use native.Mathlib.Omega.{arith}
use lib.ListN.{length, get_or}
use Rattle.source.specs.Address.{present, key_kinds, asked_by, ref}
use Rattle.source.specs.Delivery.{Small}
use Rattle.shelf.proofs.Last.{found_before}
use Rattle.build.specs.Plan.{rows_of}
use Rattle.mainfile.specs.Set.{Set}
use Rattle.mainfile.specs.Rows.{shelf_of, file_of, kind_stock, set_stock}
use Rattle.mainfile.specs.Addresses.{address_of}
use Rattle.mainfile.specs.Accepted.{AcceptedRows, AcceptedSet}
use Rattle.mainfile_source.specs.Rows.{rows_by, kind_found}
use Rattle.mainfile_source.specs.Delivery.{delivery_at}
use Rattle.mainfile_source.proofs.Joined.{two_records}
use Rattle.mainfile_source.proofs.Seven.{row_or, rows-seven, set-rows}
use Rattle.mainfile_meaning.specs.Elements.{point_at, rows_at}
use Rattle.mainfile_meaning.proofs.Says.{says_at}
use Rattle.mainfile_mark.specs.Marks.{set_rows, InFiles, BitsFor, Ended}
use Rattle.mainfile_mark.specs.Packed.{packed_at, packed_by}

-- ---- from one record to the next, up to an end

module _ (addresses organisations : List ℕ) where
  pub packed_start : (first many : ℕ)
      → packed_by addresses organisations first many ≡ packed_by addresses organisations first (first + many - first)
  packed_start first many =
      let size : many ≡ first + many - first = omega arith in ap (packed_by addresses organisations first) size

  pub packed_step : (i end : ℕ) → i < end
      → packed_by addresses organisations i (end - i)
      ≡ packed_at addresses organisations i ∷ packed_by addresses organisations (i + 1) (end - (i + 1))
  packed_step i end h =
      let size : end - i ≡ suc (end - (i + 1)) = omega arith in
      let next : suc i ≡ i + 1 = omega arith in
      ap (packed_by addresses organisations i) size
      ∙ ap (λ (n : ℕ). packed_at addresses organisations i ∷ packed_by addresses organisations n (end - (i + 1))) next

  pub packed-end : (i end : ℕ) → end ≤ i → packed_by addresses organisations i (end - i) ≡ []
  packed-end i end h = let none : end - i ≡ 0 = omega arith in ap (packed_by addresses organisations i) none

  pub packed-length : (first many : ℕ) → length (packed_by addresses organisations first many) ≡ many
  packed-length first zero = refl
  packed-length first (suc k) = ap suc (packed-length (suc first) k)

-- ---- the rows that are found, each in its file

module _ (s : Set) (ok : AcceptedRows s) where
  pub accepted-ended : Ended s
  accepted-ended =
      record {
        of_localities = omega (arith, two_records _ _ ok.localities);
        of_thoroughfares = omega (arith, two_records _ _ ok.thoroughfares);
        of_descriptors = omega (arith, two_records _ _ ok.descriptors);
        of_buildings = omega (arith, two_records _ _ ok.buildings);
        of_sub_buildings = omega (arith, two_records _ _ ok.sub_buildings);
      }

  row_in : (kind key : ℕ) → 1 ≤ (kind_stock s kind).last → row_or (kind_found s) kind key < (kind_stock s kind).last
  row_in kind key some = by-test (present key)
    where
      by-test : (t : Bool) → cond t (kind_found s kind (ref kind key)) 0 < (kind_stock s kind).last
      by-test true = omega (arith, some, found_before (shelf_of kind) (file_of s kind) (ref kind key))
      by-test false = omega (arith, some)

  rows-in-files : (keys : List ℕ) → length keys ≡ 7 → (rows : List ℕ)
      → rows ≡ rows_by (kind_found s) (asked_by key_kinds keys)
      → InFiles s rows
  rows-in-files keys seven rows e =
      rw (e, rows-seven (kind_found s) keys seven)
      (record {
        locality = row_in 1 (get_or keys 0 0) accepted-ended.of_localities;
        thoroughfare = row_in 2 (get_or keys 1 0) accepted-ended.of_thoroughfares;
        descriptor = row_in 3 (get_or keys 2 0) accepted-ended.of_descriptors;
        dependent = row_in 2 (get_or keys 3 0) accepted-ended.of_thoroughfares;
        second = row_in 3 (get_or keys 4 0) accepted-ended.of_descriptors;
        building = row_in 4 (get_or keys 5 0) accepted-ended.of_buildings;
        sub_building = row_in 5 (get_or keys 6 0) accepted-ended.of_sub_buildings;
      })

-- those of an address record: as rows of the set they are those that it refers to
module _ (s : Set) (ok : AcceptedSet s) (i : ℕ) (high : i < length s.addresses / 88) where
  keys-seven : length (point_at s i).keys ≡ 7
  unfolding delivery_at
  keys-seven = refl

  keys-small : Small (point_at s i).keys
  unfolding delivery_at address_of
  keys-small = (says_at s.addresses s.organisations i high ok.organisations i).small

  pub found-in-files : (rows : List ℕ) → rows ≡ rows_at s i → InFiles s rows
  found-in-files rows e = rows-in-files s ok.rows (point_at s i).keys keys-seven rows e

  pub found_rows : (rows : List ℕ) → rows ≡ rows_at s i → set_rows s rows ≡ rows_of (set_stock s) (point_at s i)
  found_rows rows e = set-rows s ok.rows (point_at s i).keys keys-seven keys-small rows e

  pub found-seven : (rows : List ℕ) → rows ≡ rows_at s i → length rows ≡ 7
  found-seven rows e = ap length (e ∙ rows-seven (kind_found s) (point_at s i).keys keys-seven)

-- there is a bit for each row as long as the arrays keep their lengths
pub bits-kept : (s : Set) {b₁ b₂ b₃ b₄ b₅ c₁ c₂ c₃ c₄ c₅ : List ℕ} → BitsFor s b₁ b₂ b₃ b₄ b₅ → length c₁ ≡ length b₁
    → length c₂ ≡ length b₂
    → length c₃ ≡ length b₃
    → length c₄ ≡ length b₄
    → length c₅ ≡ length b₅
    → BitsFor s c₁ c₂ c₃ c₄ c₅
bits-kept s room e₁ e₂ e₃ e₄ e₅ =
    record {
      of_localities = omega (arith, e₁, room.of_localities);
      of_thoroughfares = omega (arith, e₂, room.of_thoroughfares);
      of_descriptors = omega (arith, e₃, room.of_descriptors);
      of_buildings = omega (arith, e₄, room.of_buildings);
      of_sub_buildings = omega (arith, e₅, room.of_sub_buildings);
    }
