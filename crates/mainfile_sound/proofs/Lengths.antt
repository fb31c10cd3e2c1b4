-- None of the texts that an address of an accepted set is printed from is longer than its field; and how many addresses a
-- set has, and how they are numbered.
-- Assumes nothing.
use Prim.Native.Nat.{ℕ, zero, suc, ◌+◌, ◌-◌, ◌/◌, ◌≤◌}
use mathlib.Core.Path.{◌≡◌, refl, ap}
use native.Mathlib.Omega.{arith}
use lib.ListN.{length}
use Rattle.file.specs.Mainfile as Format
use Rattle.file.proofs.Laws.{within-limit}
use Rattle.source.specs.Resolve.{elements_of}
use Rattle.source.specs.Same.{AllOf}
use Rattle.label.specs.Widths.{Fits}
use Rattle.mainfile.specs.Set.{Set}
use Rattle.mainfile.specs.Rows.{set_lookup}
use Rattle.mainfile.specs.Addresses.{address_of, addresses_from, addresses_in}
use Rattle.mainfile.specs.Accepted.{AcceptedSet}
use Rattle.pack_sound.proofs.Elements.{all-fit}
use Rattle.mainfile_sound.proofs.Rows.{rows-sound}
use Rattle.mainfile_sound.proofs.Addresses.{views-fields}

module _ (s : Set) where
  many-from : (k n : ℕ) → length (addresses_from s k n) ≡ k
  many-from zero n = refl
  many-from (suc k) n = ap suc (many-from k (suc n))

  numbered-from : (k n m : ℕ) → n + k ≤ suc m → AllOf (λ a. a.view ≤ m) (addresses_from s k n)
  unfolding address_of
  numbered-from zero n m h = tt
  numbered-from (suc k) n m h = (omega arith, numbered-from k (suc n) m (omega arith))

module _ (s : Set) (ok : AcceptedSet s) where
  pub views-fit : AllOf (λ a. Fits (elements_of (set_lookup s) a)) (addresses_in s)
  views-fit = all-fit (set_lookup s) (rows-sound s ok.rows) (addresses_in s) (views-fields s ok)

  -- "at most 1,000,000 records each", header and trailer among them
  pub views-few : length (addresses_in s) ≤ 999_998
  unfolding addresses_in
  views-few =
      let k = length s.addresses / 88 - 2 in
      omega (arith, many-from s k 1, within-limit Format.addresses s.addresses ok.addresses.is_whole)

  pub views-numbered : AllOf (λ a. a.view ≤ 999_998) (addresses_in s)
  unfolding addresses_in
  views-numbered =
      numbered-from s (length s.addresses / 88 - 2) 1 999_998
      (omega (arith, within-limit Format.addresses s.addresses ok.addresses.is_whole))
