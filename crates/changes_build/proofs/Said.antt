-- The packed views of an accepted point file: each says its address, its texts lie within the file, and the numbers rise.
-- Assumes nothing.
use Prim.Native.Nat.{ℕ, zero, suc, ◌+◌, ◌-◌, ◌≤◌}
use mathlib.Core.Path.{◌≡◌, refl, sym, subst}
use mathlib.Core.Bool.{Bool, true, false, cond}
use mathlib.Core.List.{List, [], ◌∷◌}
use native.Mathlib.Omega.{arith}
use borrow.Author.Tests.{eq-eqb}
use Rattle.field_outward.specs.Outward.{outward_fault}
use Rattle.file_record.specs.Parts.{record_at}
use Rattle.file.specs.Formats.{point_format}
use Rattle.file.specs.Accepted.{Accepted}
use Rattle.file.proofs.Laws.{within-limit}
use Rattle.changes_views.specs.Views.{last_of, wanted, wanted_from, wanted_in, view_number}
use Rattle.source.specs.Address.{Address}
use Rattle.changes_source.specs.Addresses.{address_of}
use Rattle.changes_meaning.proofs.Says.{says_at}
use Rattle.changes_meaning.proofs.Meant.{wanted-view}
use Rattle.changes_pair.specs.Live.{live_in, views_at, WantedPlaces}
use Rattle.changes_pair.proofs.Live.{live-views, all_wanted}
use Rattle.changes_pair.proofs.Numbers.{number-view, number-rises, number_bound}
use Rattle.build_exact.specs.Started.{AllSay, none_says, one_says, Rising}
use Rattle.build_exact.specs.Within.{AllWithin}
use Rattle.changes_build.specs.Views.{packed_all, packed_in}
use Rattle.changes_build.proofs.Packed.{view-within}

module _ (points code : List ℕ) where
  said_at : (places : List ℕ) → WantedPlaces code points places
      → AllSay points points (packed_all points places) (views_at points places)
  unfolding address_of
  said_at [] w = none_says
  said_at (place ∷ places) w =
      one_says (record { says = says_at points place (omega (arith, w.0.high)) (view_number points place); view = refl })
      (said_at places w.1)

  within_all : (places : List ℕ) → WantedPlaces code points places → AllWithin points (packed_all points places)
  within_all [] w = tt
  within_all (place ∷ places) w =
      let at = view-within points place w.0.high in
      (record { postcode = at.postcode; suffix = at.suffix; box = at.box }, within_all places w.1)

  pub all_said : AllSay points points (packed_in points code) (views_at points (wanted_in code points))
  all_said = said_at (wanted_in code points) (all_wanted code points)

  -- the same by the live views of a code
  pub all_say : outward_fault code ≡ 0 → AllSay points points (packed_in points code) (live_in points code)
  all_say e =
      subst (λ (as' : List Address). AllSay points points (packed_in points code) as') (sym (live-views points code e))
      all_said

  pub all-within : AllWithin points (packed_in points code)
  all-within = within_all (wanted_in code points) (all_wanted code points)

-- of k records behind place j
module _ (points code : List ℕ) (p : Accepted point_format points) where
  rising-from : (k j low : ℕ) → suc j + k ≤ last_of points → low ≤ view_number points j
      → Rising low (packed_all points (wanted_from code points k (suc j)))
  rising-from zero j low end h = tt
  rising-from (suc k) j low end h =
      by-test (wanted code rec) refl (wanted_from code points k (suc (suc j)))
      (λ (lower : ℕ). rising-from k (suc j) lower (omega arith))
    where
      rec : List ℕ
      rec = record_at 168 points (suc j)

      n : ℕ
      n = view_number points (suc j)

      by-test : (t : Bool) → wanted code rec ≡ t → (ps : List ℕ)
          → ((lower : ℕ) → lower ≤ n → Rising lower (packed_all points ps))
          → Rising low (packed_all points (cond t (suc j ∷ ps) ps))
      by-test true e ps later =
          let view = number-view points j (eq-eqb _ 49 (wanted-view code rec e)) in
          let limit = within-limit point_format points p.is_whole in
          (omega arith, (omega (arith, number_bound points (suc j)), later n (omega arith)))
      by-test false e ps later = later low (omega (arith, number-rises points j))

  pub numbers-rise : Rising 0 (packed_in points code)
  unfolding wanted_in
  numbers-rise = by_size (last_of points) refl
    where
      by_size : (m : ℕ) → last_of points ≡ m → Rising 0 (packed_all points (wanted_from code points (m - 1) 1))
      by_size zero e = tt
      by_size (suc m) e = rising-from (suc m - 1) 0 0 (omega arith) (omega arith)
