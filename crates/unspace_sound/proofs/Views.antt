-- The views of a rewritten point file are those of the file: identifiers lie outside all that is read of them.
-- Assumes nothing.
use Prim.Native.Nat.{ℕ, zero, suc, ◌+◌, ◌-◌, ◌≤◌, ◌<◌}
use mathlib.Core.Path.{◌≡◌, refl, ap, ap₂, ◌∙◌}
use mathlib.Core.Bool.{Bool, true, false, cond}
use mathlib.Core.List.{List, [], ◌∷◌}
use native.Mathlib.Omega.{arith}
use lib.Dec.{lit≤}
use Rattle.field.specs.Text.{text_in, trim}
use Rattle.file_record.specs.Parts.{record_at}
use Rattle.file_record.specs.Names.Point
use Rattle.file_record.specs.Names.Organisation as Follower
use Rattle.changes_views.specs.Views.{wanted, last_of, wanted_from, wanted_in}
use Rattle.changes_source.specs.Addresses.{address_of, address_at, numbered, addresses_in}
use Rattle.unspace_file.proofs.Records.{as_many, record-middle, record-part-like}
use Rattle.unspace_sound.specs.Sound.{new_points}

module _ (points : List ℕ) where
  abbrev new : List ℕ
  new = new_points points

  last-kept : last_of new ≡ last_of points
  last-kept = ap (λ (n : ℕ). n - 1) (as_many Point.width Point.identifier (lit≤ tt) points)

  middle : (i : ℕ) → 1 ≤ i → i < last_of points → record_at Point.width new i ≡ record_at Point.width points i
  middle = record-middle Point.width Point.identifier (lit≤ tt) points

  from-kept : (code : List ℕ) (k i : ℕ) → 1 ≤ i → k ≤ last_of points - i → wanted_from code new k i ≡ wanted_from code points k i
  from-kept code zero i low high = refl
  from-kept code (suc k) i low high =
      ap₂ (λ (rec rest : List ℕ). cond (wanted code rec) (i ∷ rest) rest) (middle i low (omega arith))
      (from-kept code k (suc i) (omega arith) (omega arith))

  -- the places at which views stand, of a code or all
  pub wanted-kept : (code : List ℕ) → wanted_in code new ≡ wanted_in code points
  unfolding wanted_in
  wanted-kept code =
      ap (λ (n : ℕ). wanted_from code new (n - 1) 1) last-kept ∙ from-kept code (last_of points - 1) 1 (omega arith) (omega arith)

  -- the texts of a follower, were it the trailer
  text-kept : (i from to : ℕ) → Point.identifier ≤ from
      → text_in (record_at Point.width new i) from to ≡ text_in (record_at Point.width points i) from to
  unfolding text_in
  text-kept i from to h = ap trim (record-part-like Point.width Point.identifier (lit≤ tt) points i from to h)

  address_kept : (n i : ℕ) → 1 ≤ i → i < last_of points → address_at new n i ≡ address_at points n i
  unfolding address_of
  address_kept n i low high =
      rw (
        middle i low high,
        text-kept (i + 1) Follower.name Follower.department (lit≤ tt),
        text-kept (i + 1) Follower.department Follower.department_end (lit≤ tt),
      )
      refl

  numbered-kept : (k n i : ℕ) → 1 ≤ i → k ≤ last_of points - i
      → numbered new n (wanted_from [] points k i) ≡ numbered points n (wanted_from [] points k i)
  numbered-kept zero n i low high = refl
  numbered-kept (suc k) n i low high =
      by-test (wanted [] (record_at Point.width points i)) (address_kept n i low (omega arith))
      (λ m. numbered-kept k m (suc i) (omega arith) (omega arith))
    where
      by-test : (t : Bool) → address_at new n i ≡ address_at points n i
          → ((m : ℕ) → numbered new m (wanted_from [] points k (suc i)) ≡ numbered points m (wanted_from [] points k (suc i)))
          → numbered new n (cond t (i ∷ wanted_from [] points k (suc i)) (wanted_from [] points k (suc i)))
          ≡ numbered points n (cond t (i ∷ wanted_from [] points k (suc i)) (wanted_from [] points k (suc i)))
      by-test true here rest = ap₂ ◌∷◌ here (rest (suc n))
      by-test false here rest = rest n

  pub views-kept : addresses_in new ≡ addresses_in points
  unfolding addresses_in wanted_in
  views-kept =
      ap (numbered new 1) (wanted-kept []) ∙ numbered-kept (last_of points - 1) 1 1 (omega arith) (omega arith)
