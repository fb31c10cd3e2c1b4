-- A point of a sound address is accepted, and gives the elements of the address.
-- Assumes nothing.
use Prim.Native.Nat.{ℕ, zero, suc, ◌+◌, ◌-◌, ◌*◌, ◌<◌}
use mathlib.Core.Path.{◌≡◌, refl, sym, ap, ap₂, ◌∙◌}
use mathlib.Core.Bool.{Bool, true, false, cond, not, ◌||◌}
use mathlib.Core.List.{List, [], ◌∷◌}
use native.Mathlib.Omega.{arith}
use borrow.Author.Tests.{eq-eqb, ne_eqb, eqb-true, le-leb}
use lib.Dec.{eqb, leb}
use lib.ListN.{length, get_or}
use lib.Seq.{get_or-take, get_or-drop}
use Rattle.field.specs.Test.{elem}
use Rattle.field.specs.Text.{text_fault, trim, part, text_in}
use Rattle.field.proofs.Tests.{or-true}
use Rattle.file_compare.specs.Order.{same}
use Rattle.file_compare.proofs.Order.{order_same}
use Rattle.field_outward.specs.Inward.{inward_fault}
use Rattle.source.specs.Address.{Lookup, Organisation, none_needed, named, lacking, Address}
use Rattle.source.specs.Resolve.{forbidden, name_of, elements_of}
use Rattle.label.specs.Lines.{is_empty}
use Rattle.pack.specs.Names.{newest, has_suffix, inward_at, postcode_width, rest_at, point_width}
use Rattle.pack.specs.Layout.{Entry, mark_of, inward_digits, points_bytes}
use Rattle.pack.specs.Opening.{edition, outward, rest_of, offset_kinds, offsets_good, given, postcode_good, suffix_in, suffix_good, plain_good, allowed_mix, organisation_good, parts_good, point_good, points_good, row_area, row_text, offset_of_point, digits_from}
use Rattle.pack.specs.Points.{elements_from, elements_at}
use Rattle.pack.specs.Sound.{OrganisationSound, AddressSound, AddressesSound}
use Rattle.pack_carries.proofs.Stands.{Stands}
use Rattle.pack_carries.proofs.Used.{all_there}
use Rattle.pack_carries.proofs.Rows.{and_both}
use Rattle.pack_carries.proofs.Entries.{AllFound}
use Rattle.pack_carries.proofs.Points.{PointRead, point-read, first-point, other-points}
use Rattle.pack_carries.proofs.Refs.{RowsSaid, is_named, RefsRead, refs-read}

-- what a point says of its address
pub record PointSaid (look : Lookup) (pack : List ℕ) (at : ℕ) (a : Address) : Type 0 where
  pub of-elements : elements_at pack at ≡ elements_of look a
  pub of-suffix : suffix_in pack at ≡ a.suffix

mark-back : (b : Bool) → eqb (mark_of b) 89 ≡ b
mark-back true = refl
mark-back false = refl

mark-good : (b : Bool) → elem (mark_of b) (89 ∷ 32 ∷ []) ≡ true
mark-good true = refl
mark-good false = refl

-- one of two, and not the second
the-first : (n a b : ℕ) → elem n (a ∷ b ∷ []) ≡ true → eqb n b ≡ false → n ≡ a
the-first n a b e q = by-test (eqb n a) refl (rw q at e)
  where
    by-test : (t : Bool) → eqb n a ≡ t → t || false ≡ true → n ≡ a
    by-test true h e = eqb-true n a h
    by-test false h e = let z : ◌≡◌ {A = ℕ} 0 1 = cc in absurd (omega arith)

module _ (look : Lookup) (code pack : List ℕ) (at rest : ℕ) (is-rest : rest_of pack at ≡ rest) (a : Address)
    (s : AddressSound look code a) (of_code : outward pack ≡ code) (es : List Entry) (p : PointRead pack at rest es a)
    (r : RefsRead look pack rest a) where
  offsets-good : offsets_good pack rest 0 offset_kinds ≡ true
  offsets-good =
      and_both r.of-locality.good
      (and_both r.of-thoroughfare.good
      (and_both r.of-descriptor.good
      (and_both r.of-dependent.good
      (and_both r.of-dependent-descriptor.good
      (and_both r.of-building.good
      (and_both r.of-sub-building.good (and_both r.of-organisation.good refl)))))))

  locality-given : given pack rest 0 ≡ true
  locality-given = r.of-locality.is-given ∙ (all_there look a s.rows).locality

  postcode-good : postcode_good pack at ≡ true
  postcode-good =
      and_both
      (ap₂ same (p.of-outward ∙ s.outward) of_code ∙ ap (λ n. eqb n 0) (order_same code))
      (ap (λ l. eqb (inward_fault l) 0) p.of-inward ∙ eq-eqb (inward_fault a.inward) 0 s.inward)

  suffix-good : suffix_good pack at ≡ true
  unfolding suffix_good
  suffix-good = rw (p.of-suffix, s.suffix) (or-true (not (has_suffix (edition pack))))

  plain-good : plain_good pack rest ≡ true
  unfolding plain_good
  plain-good =
      and_both (ap (λ n. elem n (83 ∷ 76 ∷ [])) p.of-type ∙ s.type)
      (and_both (ap (λ n. leb n 99_999_999) p.of-address-key ∙ le-leb a.address_key 99_999_999 s.address_key)
      (and_both
      (ap (λ n. leb n 99_999_999) p.of-organisation-key ∙ le-leb a.organisation_key 99_999_999 s.organisation_key)
      (and_both (ap (λ n. leb n 9_999) p.of_number ∙ le-leb a.number 9_999 s.number)
      (and_both (ap (λ n. elem n (89 ∷ 32 ∷ [])) p.of-mark ∙ mark-good a.concatenation)
      (ap (λ l. eqb (text_fault l) 0) p.of-box ∙ eq-eqb (text_fault a.box) 0 s.box_good)))))

  mix-good : allowed_mix pack rest ≡ true
  unfolding allowed_mix forbidden
  mix-good =
      rw (
        r.of-sub-building.is-given,
        r.of-building.is-given,
        p.of_number,
        r.of-thoroughfare.is-given,
        r.of-descriptor.is-given,
        r.of-dependent.is-given,
        r.of-dependent-descriptor.is-given,
      )
      (eq-eqb (forbidden a) 0 s.mix)

  -- by what the follower is
  organisation-case : (o : Organisation) → OrganisationSound a.postcode_type a.organisation_key o
      → given pack rest 7 ≡ is_named o
      → (is_named o ≡ true → row_text (row_area pack) (offset_of_point pack rest 7) 0 ≡ name_of o)
      → organisation_good pack rest ≡ true
  unfolding organisation_good
  organisation-case none_needed h is first =
      rw (p.of-type, p.of-organisation-key, h.0, h.1, is)
  organisation-case (named name department) h is first =
      rw (p.of-type, p.of-organisation-key, is, first refl) (by-test (eqb a.postcode_type 76) refl)
    where
      by-test : (t : Bool) → eqb a.postcode_type 76 ≡ t
          → cond t true (cond (eqb a.organisation_key 0) false (not (is_empty name))) ≡ true
      by-test true q = refl
      by-test false q =
          let small = h.1.1 (the-first a.postcode_type 83 76 s.type q) in
          rw (ne_eqb a.organisation_key 0 (λ e. omega (arith, small.0)), small.1)
  organisation-case lacking h is first = absurd h

  parts-good : parts_good pack at rest ≡ true
  unfolding parts_good
  parts-good =
      and_both offsets-good
      (and_both locality-given
      (and_both postcode-good
      (and_both suffix-good
      (and_both plain-good
      (and_both mix-good
      (organisation-case a.organisation s.organisation r.of-organisation.is-given r.of-organisation.first))))))

  pub point-good : point_good pack at ≡ true
  point-good = ap (parts_good pack at) is-rest ∙ parts-good

  from-rest : elements_from pack at rest ≡ elements_of look a
  unfolding elements_from elements_of text_in
  from-rest =
      λ i.
      record {
        organisation = r.of-organisation.name i;
        department = r.of-organisation.department i;
        box = trim (p.of-box i);
        sub_building = r.of-sub-building.text 0 (omega arith) i;
        building = r.of-building.text 0 (omega arith) i;
        number = p.of_number i;
        concatenation = (ap (λ n. eqb n 89) p.of-mark ∙ mark-back a.concatenation) i;
        dependent = r.of-dependent.text 0 (omega arith) i;
        dependent_descriptor = r.of-dependent-descriptor.text 0 (omega arith) i;
        thoroughfare = r.of-thoroughfare.text 0 (omega arith) i;
        descriptor = r.of-descriptor.text 0 (omega arith) i;
        double_locality = r.of-locality.text 2 (omega arith) i;
        dependent_locality = r.of-locality.text 1 (omega arith) i;
        town = r.of-locality.text 0 (omega arith) i;
        outward = trim (p.of-outward i);
        inward = p.of-inward i;
      }

  pub said_read : PointSaid look pack at a
  said_read = record { of-elements = ap (elements_from pack at) is-rest ∙ from-rest; of-suffix = p.of-suffix }

pub part-first : (l : List ℕ) (from to : ℕ) → from < to → get_or (part l from to) 0 0 ≡ get_or l from 0
part-first l from to h =
    let some : 0 < to - from = omega arith in
    let here : from + 0 ≡ from = omega arith in
    rw (get_or-take, get_or-drop, here)

-- all points, one after the other
module _ (look : Lookup) (code : List ℕ) (four : length code ≡ 4) (pack : List ℕ) (of_edition : edition pack ≡ newest)
    (of_code : outward pack ≡ code) (es : List Entry) (g : RowsSaid pack es) where
  module _ (low at : ℕ) (a : Address) (more : List Address) (s : AddressesSound look code low (a ∷ more))
      (f : AllFound look es (a ∷ more)) (h : Stands pack at (points_bytes newest es (a ∷ more))) where
    rest-here : rest_of pack at ≡ rest_at newest at
    rest-here = ap (λ e. rest_at e at) of_edition

    here : PointRead pack at (rest_at newest at) es a
    here = point-read look code four es a s.1.0 pack at (first-point look code four es pack low a more at s h)

    refs-here : RefsRead look pack (rest_at newest at) a
    refs-here = refs-read look pack es g at (rest_at newest at) a s.1.0.view f.0 here

    good-here : point_good pack at ≡ true
    good-here = point-good look code pack at (rest_at newest at) rest-here a s.1.0 of_code es here refs-here

    said_here : PointSaid look pack at a
    said_here = said_read look code pack at (rest_at newest at) rest-here a s.1.0 of_code es here refs-here

  -- the first byte of each inward code, read where it stands
  pub points-digits : (low at : ℕ) (addresses : List Address) → AddressesSound look code low addresses
      → Stands pack at (points_bytes newest es addresses)
      → digits_from pack (point_width newest) (length addresses) at ≡ inward_digits addresses
  points-digits low at [] s h = refl
  points-digits low at (a ∷ more) s h =
      let read = point-read look code four es a s.1.0 pack at (first-point look code four es pack low a more at s h) in
      ap₂ ◌∷◌ (sym (part-first pack (at + inward_at) (at + postcode_width) (omega arith)) ∙ ap (λ l. get_or l 0 0) read.of-inward)
      (points-digits a.view (at + point_width newest) more s.1.1
      (other-points look code four es pack low a more at s h))

  pub points-good : (low at : ℕ) (addresses : List Address) → AddressesSound look code low addresses
      → AllFound look es addresses
      → Stands pack at (points_bytes newest es addresses)
      → points_good pack (length addresses) at ≡ true
  points-good low at [] s f h = refl
  points-good low at (a ∷ more) s f h =
      and_both (good-here low at a more s f h)
      (ap (λ e. points_good pack (length more) (at + point_width e)) of_edition
      ∙ points-good a.view (at + point_width newest) more s.1.1 f.1
      (other-points look code four es pack low a more at s h))

  pub points-read : (low at : ℕ) (addresses : List Address) (k : ℕ) (d : Address) → AddressesSound look code low addresses
      → AllFound look es addresses
      → Stands pack at (points_bytes newest es addresses)
      → k < length addresses
      → PointSaid look pack (at + point_width newest * k) (get_or addresses k d)
  points-read low at [] k d s f h l = absurd (omega arith)
  points-read low at (a ∷ more) zero d s f h l =
      rw (let z : at + point_width newest * 0 ≡ at = omega arith in z) (said_here low at a more s f h)
  points-read low at (a ∷ more) (suc k) d s f h l =
      rw (let z : at + point_width newest * suc k ≡ at + point_width newest + point_width newest * k = omega arith in z)
      (points-read a.view (at + point_width newest) more k d s.1.1 f.1
      (other-points look code four es pack low a more at s h) (omega arith))
