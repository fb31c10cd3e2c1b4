-- The pack of a sound source is accepted, has a point for each address, and each point gives what its address resolves to.
-- Assumes nothing.
use Prim.Native.Nat.{ℕ, suc, ◌+◌, ◌-◌, ◌*◌, ◌^◌, ◌≤◌, ◌<◌}
use mathlib.Core.Path.{◌≡◌, refl, sym, ap, ap₂, subst, ◌∙◌}
use mathlib.Core.Bool.{true, not, ◌||◌}
use mathlib.Core.List.{List, [], ◌∷◌, ◌++◌, append_assoc}
use native.Mathlib.Omega.{arith}
use borrow.Author.Tests.{eq-eqb, le-leb}
use lib.Dec.{eqb, leb}
use lib.ListN.{length, take, get_or, length-append}
use lib.Seq.{take_at}
use Rattle.field.proofs.Tests.{or-true}
use Rattle.field_outward.specs.Outward.{outward_fault}
use Rattle.source.specs.Address.{Lookup, Address}
use Rattle.pack.specs.Names.{known, newest, has_counts, point_width, counts_at, behind_fields, trailer_width}
use Rattle.pack.specs.Layout.{Entry, entries_of, entry_bytes, entries_bytes, points_bytes, inward_digits, trailer_bytes, pack_bytes, pack_of}
use Rattle.pack.specs.Opening.{edition, trailer_start, points_start, point_count, point_digits, counts_said, all_counts_good, length_said, trailer_good, rows_good, all_rows_good, points_good, all_points_good, opened}
use Rattle.pack.specs.Sectors.{sector_counts, counts_bytes}
use Rattle.pack.specs.Points.{point_place}
use Rattle.pack.proofs.Sectors.{how-many-few, digits_long, digits-as, counts-long, counts-at, counts-bytes-long}
use Rattle.pack.specs.Sound.{Sound}
use Rattle.pack_carries.proofs.Stands.{Stands, stands-end, stands-all, stands-first}
use Rattle.pack_carries.proofs.Rows.{and_both, rows-good}
use Rattle.pack_carries.proofs.Entries.{entries-sound, all_found}
use Rattle.pack_carries.proofs.Trailer.{Says, trailer-long, trailer-says, counts-read}
use Rattle.field_outward.proofs.Long.{outward-long}
use Rattle.pack_carries.proofs.Points.{points-long}
use Rattle.pack_carries.proofs.Refs.{RowsSaid}
use Rattle.pack_carries.proofs.Point.{PointSaid, points-digits, points-good, points-read}
use Rattle.std.specs.Prelude.{Ok}

-- a row has a byte
few-entries : (es : List Entry) → length es ≤ length (entries_bytes es)
few-entries [] = omega arith
few-entries (e ∷ es) = omega (arith, few-entries es, length-append (entry_bytes e) (entries_bytes es))

module _ (look : Lookup) (addresses : List Address) (code : List ℕ) (g : Sound look addresses code) where
  abbrev es : List Entry
  es = entries_of look addresses

  abbrev rows : List ℕ
  rows = entries_bytes es

  abbrev points : List ℕ
  points = points_bytes newest es addresses

  abbrev counted : List ℕ
  counted = sector_counts (inward_digits addresses)

  abbrev counts : List ℕ
  counts = counts_bytes counted

  abbrev trailer : List ℕ
  trailer = trailer_bytes newest (length es) (length rows) (length addresses) code counts

  abbrev pack : List ℕ
  pack = pack_of look addresses code

  four : length code ≡ 4
  four = outward-long code g.of_code

  ten : length counts ≡ behind_fields newest
  ten = counts-bytes-long counted ∙ omega (arith, counts-long (inward_digits addresses))

  in_parts : pack ≡ rows ++ (points ++ trailer)
  unfolding pack_of pack_bytes
  in_parts = refl

  front-and-trailer : pack ≡ (rows ++ points) ++ trailer
  front-and-trailer = in_parts ∙ sym (append_assoc rows points trailer)

  pub pack-long : length pack ≡ length rows + point_width newest * length addresses + trailer_width newest
  pack-long =
      ap length front-and-trailer
      ∙ omega (
        arith,
        length-append (rows ++ points) trailer,
        length-append rows points,
        points-long look code four es 0 addresses g.of_addresses,
        trailer-long (length es) (length rows) (length addresses) code counts four ten,
      )

  pub pack-says : Says pack (length es) (length rows) (length addresses) code counts
  pack-says =
      subst (λ p. Says p (length es) (length rows) (length addresses) code counts) (sym front-and-trailer)
      (trailer-says (length es) (length rows) (length addresses) code counts four ten (rows ++ points)
      (omega (arith, g.small, pack-long, few-entries es)) (omega (arith, g.small, pack-long)))

  pub pack-rows : RowsSaid pack es
  pack-rows =
      record {
        sound = entries-sound look addresses code g;
        area = ap₂ take pack-says.of-start in_parts ∙ take_at rows (points ++ trailer) (length rows) refl;
        count = pack-says.of_rows;
        small = omega (arith, g.small, pack-long);
      }

  points-stand : Stands pack (length rows) points
  points-stand =
      subst (λ p. Stands p (length rows) points) (sym in_parts)
      (stands-first points trailer (stands-end rows (points ++ trailer)))

  trailer-good : trailer_good pack ≡ true
  unfolding trailer_good
  trailer-good =
      let said = pack-says in
      and_both
      (ap (λ e. leb (trailer_width e) (length pack)) said.of_edition
      ∙ le-leb (trailer_width newest) (length pack) (omega (arith, pack-long)))
      (and_both (ap known said.of_edition)
      (and_both (eq-eqb (length_said pack) (length pack) (said.of_length ∙ sym pack-long))
      (and_both (ap (λ c. eqb (outward_fault c) 0) said.of_code ∙ eq-eqb (outward_fault code) 0 g.of_code)
      (eq-eqb (points_start pack + point_width (edition pack) * point_count pack + trailer_width (edition pack)) (length pack)
      (ap (λ e. points_start pack + point_width e * point_count pack + trailer_width e) said.of_edition
      ∙ (ap₂ (λ s n. s + point_width newest * n + trailer_width newest) said.of-start said.of_points
      ∙ sym pack-long))))))

  all-rows-good : all_rows_good pack ≡ true
  unfolding all_rows_good
  all-rows-good =
      ap₂ (λ l n. rows_good l n 1 0) pack-rows.area pack-rows.count
      ∙ rows-good rows es 1 0 pack-rows.sound (stands-all rows) (omega arith)

  all-points-good : all_points_good pack ≡ true
  unfolding all_points_good
  all-points-good =
      ap₂ (points_good pack) pack-says.of_points pack-says.of-start
      ∙ points-good look code four pack pack-says.of_edition pack-says.of_code es pack-rows 0 (length rows) addresses g.of_addresses
      (all_found look addresses code g) points-stand

  -- counting all points is counting the addresses
  pub pack-digits : point_digits pack ≡ inward_digits addresses
  pack-digits =
      digits-as pack (ap point_width pack-says.of_edition) pack-says.of_points pack-says.of-start
      ∙ points-digits look code four pack pack-says.of_edition pack-says.of_code es pack-rows 0 (length rows) addresses
      g.of_addresses points-stand

  counts-small : (i : ℕ) → i < length counted → get_or counted i 0 < 256 ^ 4
  counts-small i l =
      let firsts = inward_digits addresses in
      let few : i < 10 = omega (arith, counts-long firsts) in
      omega (
        arith,
        counts-at firsts i few,
        how-many-few (48 + i) firsts,
        ap length pack-digits,
        digits_long pack (point_width (edition pack)) (point_count pack) (points_start pack),
        pack-says.of_points,
        g.small,
        pack-long,
      )

  all-counts-good : all_counts_good pack ≡ true
  unfolding all_counts_good
  all-counts-good =
      ap (λ firsts. not (has_counts (edition pack)) || counts_said pack 0 (sector_counts firsts)) pack-digits
      ∙ (ap (λ t. not (has_counts (edition pack)) || t)
      (counts-read pack 0 counted counts-small
      (subst (λ n. Stands pack n counts) (let z : trailer_start pack + counts_at ≡ trailer_start pack + (counts_at + 4 * 0) = omega arith in z)
      pack-says.of-counts))
      ∙ or-true (not (has_counts (edition pack))))

  -- every pack of a sound source is accepted, with as many points as there are addresses
  pub pack-opens : opened pack ≡ Ok (length addresses)
  unfolding opened
  pack-opens = rw (trailer-good, all-rows-good, all-points-good, all-counts-good, pack-says.of_points)

  -- the point of each address says its elements and its suffix
  pub pack-points : (k : ℕ) (d : Address) → k < length addresses
      → PointSaid look pack (point_place pack (suc k)) (get_or addresses k d)
  pack-points k d l =
      rw (ap₂ (λ s e. s + point_width e * (suc k - 1)) pack-says.of-start pack-says.of_edition
      ∙ ap (λ n. length rows + point_width newest * n) (let z : suc k - 1 ≡ k = omega arith in z))
      (points-read look code four pack pack-says.of_edition pack-says.of_code es pack-rows 0 (length rows) addresses k d g.of_addresses
      (all_found look addresses code g) points-stand l)
