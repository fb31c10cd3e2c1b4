-- The packed addresses of an accepted set: each says its address, its texts lie within the two files, and the numbers
-- rise.
-- Assumes nothing.
use Prim.Native.Nat.{ℕ, zero, suc, ◌+◌, ◌≤◌, ◌<◌}
use mathlib.Core.Path.{refl, sym, subst}
use mathlib.Core.List.{List}
use native.Mathlib.Omega.{arith}
use Rattle.file.specs.Mainfile as Format
use Rattle.file.proofs.Laws.{within-limit}
use Rattle.source.specs.Address.{Address}
use Rattle.ask.specs.Source.{in_code}
use Rattle.build_exact.specs.Started.{AllSay, none_says, one_says, Rising}
use Rattle.build_exact.specs.Within.{AllWithin}
use Rattle.mainfile.specs.Set.{Set}
use Rattle.mainfile.specs.Addresses.{address_of, addresses_from}
use Rattle.mainfile.specs.Main.{main_of}
use Rattle.mainfile.specs.Accepted.{AcceptedSet}
use Rattle.mainfile_views.specs.Range.{last_of, first_in, many_in}
use Rattle.mainfile_views.proofs.Together.{in-code-range, range-low, range-high}
use Rattle.mainfile_source.proofs.Joined.{two_records}
use Rattle.mainfile_meaning.proofs.Says.{inside-at, says_at}
use Rattle.mainfile_mark.specs.Packed.{packed_from, packed_in}
use Rattle.mainfile_points.specs.Standing.{Standing}

module _ (s : Set) (ok : AcceptedSet s) where
  -- ---- so many records from one on

  said-from : (k n : ℕ) → n + k ≤ last_of s.addresses
      → AllSay s.addresses s.organisations (packed_from s n k) (addresses_from s k n)
  unfolding address_of
  said-from zero n end = none_says
  said-from (suc k) n end =
      let said = says_at s.addresses s.organisations n (omega arith) ok.organisations n in
      one_says (record { says = said; view = refl }) (said-from k (suc n) (omega arith))

  within-from : (k n : ℕ) → n + k ≤ last_of s.addresses → AllWithin s.addresses (packed_from s n k)
  within-from zero n end = tt
  within-from (suc k) n end =
      let some = two_records _ _ ok.organisations in
      let at = inside-at s.addresses s.organisations n (omega arith) (omega (arith, some)) in
      (record { postcode = at.postcode; suffix = at.suffix; box = at.box }, within-from k (suc n) (omega arith))

  rising-from : (k n low : ℕ) → n + k ≤ last_of s.addresses → low < n → Rising low (packed_from s n k)
  rising-from zero n low end h = tt
  rising-from (suc k) n low end h =
      let limit = within-limit Format.addresses s.addresses ok.addresses.is_whole in
      (h, (omega (arith, limit), rising-from k (suc n) n (omega arith) (omega arith)))

  -- ---- those of a code

  module _ (code : List ℕ) where
    pub standing-in : Standing s.organisations s.addresses (first_in s.addresses code)
        (many_in s.addresses code)
    standing-in =
        record {
          before = range-high s code ok.addresses;
          headed = omega (arith, two_records _ _ ok.organisations);
        }

    pub all_say : AllSay s.addresses s.organisations (packed_in s code) (in_code code (main_of s).live)
    all_say =
        subst (λ (as' : List Address). AllSay s.addresses s.organisations (packed_in s code) as')
        (sym (in-code-range s code ok.addresses))
        (said-from (many_in s.addresses code) (first_in s.addresses code) (range-high s code ok.addresses))

    pub all-within : AllWithin s.addresses (packed_in s code)
    all-within =
        within-from (many_in s.addresses code) (first_in s.addresses code) (range-high s code ok.addresses)

    pub numbers-rise : Rising 0 (packed_in s code)
    numbers-rise =
        rising-from (many_in s.addresses code) (first_in s.addresses code) 0 (range-high s code ok.addresses)
        (omega (arith, range-low s code ok.addresses))
