-- The points of a pack, read where they stand: each gives the fields of its address, and where its rows are.
-- Assumes nothing.
use Prim.Native.Nat.{ℕ, zero, suc, ◌+◌, ◌*◌, ◌<◌}
use mathlib.Core.Path.{◌≡◌, refl, ap, subst, ◌∙◌}
use mathlib.Core.List.{List, [], ◌∷◌, ◌++◌}
use mathlib.Core.Option.{Option, none, some}
use native.Mathlib.Omega.{arith}
use lib.ListN.{length, get_or, length-append}
use Rattle.field.specs.Text.{part}
use Rattle.field_outward.proofs.Long.{inward-long, suffix-long}
use Rattle.source.specs.Address.{Lookup, Address}
use Rattle.pack.specs.Names.{newest, inward_at, postcode_width, suffix_width, behind_postcode, type_at, address_key_at, organisation_key_at, building_number_at, concatenation_at, box_at, offsets_at, rest_at, point_width, absent}
use Rattle.pack.specs.Numbers.{bytes_of, number_at}
use Rattle.pack.specs.Layout.{Entry, entries_bytes, offset_of, ref_bytes, refs_bytes, refs_of, mark_of, postcode_of, plain_of, behind_of, point_bytes, points_bytes}
use Rattle.pack.specs.Opening.{suffix_in, type_byte, organisation_key, building_number}
use Rattle.pack.specs.Sound.{AddressSound, AddressesSound}
use Rattle.pack_carries.proofs.Numbers.{bytes-long}
use Rattle.pack_carries.proofs.Stands.{Stands, stands-first, stands-second, stands-part, stands-byte, stands-number}
use Rattle.pack_carries.proofs.Found.{offset-within}

-- ---- references

-- the offset that a reference is written as
abbrev pub place_of : List Entry → Option ℕ → ℕ
place_of es none = absent
place_of es (some r) = offset_of es r

ref-long : (es : List Entry) (r : Option ℕ) → length (ref_bytes es r) ≡ 4
ref-long es none = refl
ref-long es (some r) = refl

refs-long : (es : List Entry) (rs : List (Option ℕ)) → length (refs_bytes es rs) ≡ 4 * length rs
refs-long es [] = refl
refs-long es (r ∷ rs) =
    length-append (ref_bytes es r) (refs_bytes es rs) ∙ omega (arith, ref-long es r, refs-long es rs)

module _ (pack : List ℕ) (es : List Entry) (small : length (entries_bytes es) < absent) where
  ref_back : (at : ℕ) (r : Option ℕ) → Stands pack at (ref_bytes es r) → number_at pack at 4 ≡ place_of es r
  ref_back at none h = stands-number 4 absent (omega arith) h
  ref_back at (some r) h = stands-number 4 (offset_of es r) (omega (arith, offset-within es r)) h

  pub refs-back : (n : ℕ) (rs : List (Option ℕ)) (at : ℕ) → n < length rs → Stands pack at (refs_bytes es rs)
      → number_at pack (at + 4 * n) 4 ≡ place_of es (get_or rs n none)
  refs-back n [] at l h = absurd (omega arith)
  refs-back zero (r ∷ rs) at l h =
      ap (λ p. number_at pack p 4) (let z : at + 4 * 0 ≡ at = omega arith in z)
      ∙ ref_back at r (stands-first (ref_bytes es r) (refs_bytes es rs) h)
  refs-back (suc n) (r ∷ rs) at l h =
      ap (λ p. number_at pack p 4) (let z : at + 4 * suc n ≡ at + 4 + 4 * n = omega arith in z)
      ∙ refs-back n rs (at + 4) (omega arith)
      (stands-second (ref_bytes es r) (refs_bytes es rs) 4 (at + 4) (ref-long es r) refl h)

-- ---- a point

-- what is read at a point and in its rest: the fields of its address, and its references
pub record PointRead (pack : List ℕ) (at rest : ℕ) (es : List Entry) (a : Address) : Type 0 where
  pub of-outward : part pack at (at + inward_at) ≡ a.outward
  pub of-inward : part pack (at + inward_at) (at + postcode_width) ≡ a.inward
  pub of-suffix : suffix_in pack at ≡ a.suffix
  pub of-type : type_byte pack rest ≡ a.postcode_type
  pub of-address-key : number_at pack (rest + address_key_at) 4 ≡ a.address_key
  pub of-organisation-key : organisation_key pack rest ≡ a.organisation_key
  pub of_number : building_number pack rest ≡ a.number
  pub of-mark : get_or pack (rest + concatenation_at) 0 ≡ mark_of a.concatenation
  pub of-box : part pack (rest + box_at) (rest + offsets_at) ≡ a.box
  pub of_refs : Stands pack (rest + offsets_at) (refs_bytes es (refs_of a))

module _ (look : Lookup) (code : List ℕ) (four : length code ≡ 4) (es : List Entry) (a : Address)
    (g : AddressSound look code a) where
  outward-four : length a.outward ≡ 4
  outward-four = ap length g.outward ∙ four

  postcode-long : length (postcode_of a) ≡ postcode_width
  postcode-long = length-append a.outward a.inward ∙ omega (arith, outward-four, inward-long a.inward g.inward)

  behind-long : length (behind_of newest a) ≡ behind_postcode newest
  behind-long = suffix-long a.suffix g.suffix

  plain-long : length (plain_of a) ≡ offsets_at
  plain-long = omega (arith, g.box_long)

  -- the bytes of the rest
  abbrev bytes : List ℕ
  bytes = plain_of a ++ refs_bytes es (refs_of a)

  pub point-long : length (point_bytes newest es a) ≡ point_width newest
  point-long =
      length-append (postcode_of a) (behind_of newest a ++ bytes)
      ∙ omega (
        arith,
        postcode-long,
        behind-long,
        length-append (behind_of newest a) bytes,
        plain-long,
        length-append (plain_of a) (refs_bytes es (refs_of a)),
        refs-long es (refs_of a),
      )

  module _ (pack : List ℕ) (at : ℕ) (h : Stands pack at (point_bytes newest es a)) where
    abbrev rest : ℕ
    rest = rest_at newest at

    at-postcode : Stands pack at (postcode_of a)
    at-postcode = stands-first (postcode_of a) (behind_of newest a ++ bytes) h

    at-inward : Stands pack (at + inward_at) a.inward
    at-inward = stands-second a.outward a.inward 4 (at + inward_at) outward-four refl at-postcode

    at-behind : Stands pack (at + postcode_width) (behind_of newest a ++ bytes)
    at-behind =
        stands-second (postcode_of a) (behind_of newest a ++ bytes) postcode_width (at + postcode_width) postcode-long refl h

    at_rest : Stands pack rest bytes
    at_rest = stands-second (behind_of newest a) bytes (behind_postcode newest) rest behind-long (omega arith) at-behind

    at-type : Stands pack (rest + type_at) (plain_of a)
    at-type =
        subst (λ n. Stands pack n (plain_of a)) (let z : rest ≡ rest + type_at = omega arith in z)
        (stands-first (plain_of a) (refs_bytes es (refs_of a)) at_rest)

    abbrev marked : List ℕ
    marked = mark_of a.concatenation ∷ a.box

    at-address-key : Stands pack (rest + address_key_at)
        (bytes_of 4 a.address_key ++ (bytes_of 4 a.organisation_key ++ (bytes_of 2 a.number ++ marked)))
    at-address-key = stands-second (a.postcode_type ∷ []) _ 1 (rest + address_key_at) refl (omega arith) at-type

    at-organisation-key : Stands pack (rest + organisation_key_at)
        (bytes_of 4 a.organisation_key ++ (bytes_of 2 a.number ++ marked))
    at-organisation-key =
        stands-second (bytes_of 4 a.address_key) _ 4 (rest + organisation_key_at) (bytes-long 4 a.address_key)
        (omega arith) at-address-key

    at-number : Stands pack (rest + building_number_at) (bytes_of 2 a.number ++ marked)
    at-number =
        stands-second (bytes_of 4 a.organisation_key) _ 4 (rest + building_number_at)
        (bytes-long 4 a.organisation_key) (omega arith) at-organisation-key

    at_mark : Stands pack (rest + concatenation_at) marked
    at_mark =
        stands-second (bytes_of 2 a.number) marked 2 (rest + concatenation_at) (bytes-long 2 a.number) (omega arith)
        at-number

    at-box : Stands pack (rest + box_at) a.box
    at-box = stands-second (mark_of a.concatenation ∷ []) a.box 1 (rest + box_at) refl (omega arith) at_mark

    pub point-read : PointRead pack at rest es a
    point-read =
        record {
          of-outward = stands-part (stands-first a.outward a.inward at-postcode) 4 outward-four;
          of-inward =
              ap (part pack (at + inward_at)) (let z : at + postcode_width ≡ at + inward_at + 3 = omega arith in z)
              ∙ stands-part at-inward 3 (inward-long a.inward g.inward);
          of-suffix = stands-part (stands-first a.suffix bytes at-behind) suffix_width behind-long;
          of-type = stands-byte a.postcode_type _ at-type;
          of-address-key = stands-number 4 a.address_key (omega (arith, g.address_key))
              (stands-first (bytes_of 4 a.address_key) _ at-address-key);
          of-organisation-key = stands-number 4 a.organisation_key (omega (arith, g.organisation_key))
              (stands-first (bytes_of 4 a.organisation_key) _ at-organisation-key);
          of_number = stands-number 2 a.number (omega (arith, g.number))
              (stands-first (bytes_of 2 a.number) marked at-number);
          of-mark = stands-byte (mark_of a.concatenation) a.box at_mark;
          of-box =
              ap (part pack (rest + box_at)) (let z : rest + offsets_at ≡ rest + box_at + 6 = omega arith in z)
              ∙ stands-part at-box 6 g.box_long;
          of_refs =
              stands-second (plain_of a) (refs_bytes es (refs_of a)) offsets_at (rest + offsets_at) plain-long refl at_rest;
        }

-- ---- all points

module _ (look : Lookup) (code : List ℕ) (four : length code ≡ 4) (es : List Entry) where
  pub points-long : (low : ℕ) (addresses : List Address) → AddressesSound look code low addresses
      → length (points_bytes newest es addresses) ≡ point_width newest * length addresses
  points-long low [] g = refl
  points-long low (a ∷ more) g =
      length-append (point_bytes newest es a) (points_bytes newest es more)
      ∙ omega (arith, point-long look code four es a g.1.0, points-long a.view more g.1.1)

  module _ (pack : List ℕ) (low : ℕ) (a : Address) (more : List Address) (at : ℕ) (g : AddressesSound look code low (a ∷ more))
      (h : Stands pack at (points_bytes newest es (a ∷ more))) where
    pub first-point : Stands pack at (point_bytes newest es a)
    first-point = stands-first (point_bytes newest es a) (points_bytes newest es more) h

    pub other-points : Stands pack (at + point_width newest) (points_bytes newest es more)
    other-points =
        stands-second (point_bytes newest es a) (points_bytes newest es more) (point_width newest) (at + point_width newest)
        (point-long look code four es a g.1.0) refl h
