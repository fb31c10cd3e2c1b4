-- The labels of a pack are those of its source, number by number, and so are the items of its
-- listing, the suffixes and the counts of sectors.
-- Assumes nothing.
use Prim.Native.Nat.{ℕ, zero, suc, ◌<◌}
use mathlib.Core.Path.{◌≡◌, refl, sym, ap, ◌∙◌}
use mathlib.Core.Bool.{Bool, true, false}
use mathlib.Core.List.{List, [], ◌∷◌}
use mathlib.Core.Option.{none, some}
use native.Mathlib.Omega.{arith}
use borrow.Author.Tests.{le-leb, leb-true, leb-false}
use lib.Dec.{leb}
use lib.ListN.{length, get_or}
use Rattle.source.specs.Address.{Lookup, Address}
use Rattle.source.specs.Resolve.{elements_of, elements, resolve}
use Rattle.pack.specs.Layout.{pack_of}
use Rattle.pack.specs.Names.{has_suffix}
use Rattle.pack.specs.Opening.{edition, point_count, suffix_in}
use Rattle.pack.specs.Points.{elements_at, point_place, is_point, point_label, pack_label, point_item, pack_item, suffix_number, point_suffix, pack_suffix, suffix_of, kth_suffix, sector_answer, pack_sector, address_sector}
use Rattle.pack.proofs.Suffixes.{no-point, its-suffix}
use Rattle.pack.specs.Sound.{AddressSound, AddressesSound, Sound}
use Rattle.ask.specs.Labels.{kth, kth_label}
use Rattle.ask.specs.Lists.{kth_item}
use Rattle.item.specs.Item.{Heading}
use Rattle.ask.proofs.Kth.{kth-zero, kth-none}
use Rattle.pack_carries.proofs.Carried.{pack-says, pack-opens, pack-points, pack-digits}
use Rattle.std.specs.Prelude.{Ok}

-- a sound address is refused nothing
pub resolved-sound : (look : Lookup) (code : List ℕ) (a : Address) → AddressSound look code a
    → resolve look a ≡ elements (elements_of look a)
unfolding resolve
resolved-sound look code a g = rw (g.mix, g.rows)

-- the k-th of sound addresses is one of them
record IsKth (look : Lookup) (code : List ℕ) (addresses : List Address) (j : ℕ) : Type 0 where
  it : Address
  is-kth : kth addresses (suc j) ≡ some it
  at_place : get_or addresses j it ≡ it
  sound : AddressSound look code it

kth-some : (look : Lookup) (code : List ℕ) (low : ℕ) (addresses : List Address) (j : ℕ)
    → AddressesSound look code low addresses
    → j < length addresses
    → IsKth look code addresses j
kth-some look code low [] j g l = absurd (omega arith)
kth-some look code low (a ∷ more) zero g l = record { it = a; is-kth = refl; at_place = refl; sound = g.1.0 }
kth-some look code low (a ∷ more) (suc j) g l =
    let k = kth-some look code a.view more j g.1.1 (omega arith) in
    record { it = k.it; is-kth = k.is-kth; at_place = k.at_place; sound = k.sound }

-- a number has a point exactly where it has an address, and they say the same
data PointOf (look : Lookup) (addresses : List Address) (pack : List ℕ) (k : ℕ) : Type 0 where
  neither : is_point pack k ≡ false → kth addresses k ≡ none → PointOf look addresses pack k
  each : (a : Address) → is_point pack k ≡ true → kth addresses k ≡ some a
      → resolve look a ≡ elements (elements_at pack (point_place pack k))
      → suffix_in pack (point_place pack k) ≡ a.suffix
      → PointOf look addresses pack k

module _ (look : Lookup) (addresses : List Address) (code : List ℕ) (g : Sound look addresses code) where
  abbrev pack : List ℕ
  pack = pack_of look addresses code

  point_at : (k : ℕ) → PointOf look addresses pack k
  point_at zero = neither refl (kth-zero addresses)
  point_at (suc j) = by-test (leb (suc j) (point_count pack)) refl
    where
      some_number : leb 1 (suc j) ≡ true
      some_number = le-leb 1 (suc j) (omega arith)

      count : point_count pack ≡ length addresses
      count = (pack-says look addresses code g).of_points

      by-test : (t : Bool) → leb (suc j) (point_count pack) ≡ t → PointOf look addresses pack (suc j)
      by-test true e =
          let l : j < length addresses = omega (arith, leb-true (suc j) (point_count pack) e, count) in
          let k = kth-some look code 0 addresses j g.of_addresses l in
          let point = pack-points look addresses code g j k.it l in
          each k.it (rw (some_number, e)) k.is-kth
          (resolved-sound look code k.it k.sound
          ∙ ap elements
          (ap (elements_of look) (sym k.at_place) ∙ sym point.of-elements))
          (point.of-suffix ∙ ap (λ a. a.suffix) k.at_place)
      by-test false e =
          neither (rw (some_number, e))
          (kth-none addresses j (omega (arith, leb-false (suc j) (point_count pack) e, count)))

  -- every number asks the pack and the source alike
  pub pack-labels : (k : ℕ) (out : List ℕ) → pack_label pack k out ≡ kth_label look addresses k out
  unfolding pack_label point_label kth_label
  pack-labels k out = rw (pack-opens look addresses code g) (by-case (point_at k))
    where
      by-case : PointOf look addresses pack k → point_label pack k out ≡ kth_label look addresses k out
      by-case (neither p q) = rw (p, q)
      by-case (each a p q e s) = rw (p, q, e)

  -- and lists them alike, under any heading
  pub pack-items : (heading : Heading) (k : ℕ) (out : List ℕ) → pack_item heading pack k out ≡ kth_item heading look addresses k out
  unfolding pack_item point_item kth_item
  pack-items heading k out = rw (pack-opens look addresses code g) (by-case (point_at k))
    where
      by-case : PointOf look addresses pack k → point_item heading pack k out ≡ kth_item heading look addresses k out
      by-case (neither p q) = rw (p, q)
      by-case (each a p q e s) = rw (p, q, e)

  -- and tells each suffix as the source does
  pub pack-suffixes : (k : ℕ) → pack_suffix pack k ≡ kth_suffix addresses k
  unfolding pack_suffix kth_suffix
  pack-suffixes k = rw (pack-opens look addresses code g) (by-case (point_at k))
    where
      has_one : has_suffix (edition pack) ≡ true
      has_one = ap has_suffix (pack-says look addresses code g).of_edition

      by-case : PointOf look addresses pack k → point_suffix pack k ≡ kth_suffix addresses k
      by-case (neither p q) = no-point pack k p ∙ ap suffix_of (sym q)
      by-case (each a p q e s) =
          its-suffix pack k p has_one ∙ (ap (λ l. Ok (suffix_number l)) s ∙ ap suffix_of (sym q))

  -- and counts each sector as the source does
  pub pack-sectors : (digit : ℕ) → pack_sector pack digit ≡ address_sector addresses digit
  unfolding pack_sector
  pack-sectors digit =
      rw (pack-opens look addresses code g) (ap (λ firsts. sector_answer firsts digit) (pack-digits look addresses code g))
