-- What code knows of a delivery point of a book says what its address says.
-- Assumes nothing.
use Prim.Native.Nat.{ℕ, ◌+◌, ◌/◌, ◌≤◌, ◌<◌}
use mathlib.Core.Path.{◌≡◌, sym, ap, ◌∙◌}
use mathlib.Core.List.{List}
use native.Mathlib.Omega.{arith}
use native.Mathlib.Nat.{add_assoc}
use lib.ListN.{length}
use Rattle.field.specs.Text.{trim, part, text_in}
use Rattle.file_record.proofs.Records.{part-part}
use Rattle.source.specs.declared.DeliveryPoint.{DeliveryPoint}
use Rattle.source.specs.Address.{Address}
use Rattle.source.specs.Delivery.{organisation_in, Says, Within}
use Rattle.changes_source.specs.Delivery.{delivery_at}
use Rattle.changes_meaning.proofs.Says.{says_at, within-at}
use Rattle.book_source.specs.Starts.{records_at, shifted, delivery_from, address_from, place_before, Inside}
use Rattle.book_source.proofs.Records.{records-long, two_records}

-- a part of the records is a part of the book
module _ (book : List ℕ) (at : ℕ) where
  moved : (x w : ℕ) → x + w ≤ 336 → part book (at + x) (at + x + w) ≡ part (records_at book at) x (x + w)
  moved x w h = rw (add_assoc at x w) (sym (part-part book at 336 x (x + w) h))

  moved-text : (x w : ℕ) → x + w ≤ 336 → text_in book (at + x) (at + x + w) ≡ text_in (records_at book at) x (x + w)
  unfolding text_in
  moved-text x w h = ap trim (moved x w h)

  -- the same further on
  moved-second : (x v w : ℕ) → x + w ≤ 336 → v ≤ w
      → part book (at + x + v) (at + x + w) ≡ part (records_at book at) (x + v) (x + w)
  moved-second x v w h k = rw (add_assoc at x v, add_assoc at x w) (sym (part-part book at 336 (x + v) (x + w) h))

  moved-second-text : (x v w : ℕ) → x + w ≤ 336 → v ≤ w
      → text_in book (at + x + v) (at + x + w) ≡ text_in (records_at book at) (x + v) (x + w)
  unfolding text_in
  moved-second-text x v w h k = ap trim (moved-second x v w h k)

-- a delivery point that says an address in the records says it in the book
module _ (book : List ℕ) (at : ℕ) (inside : Inside book at) (p : DeliveryPoint) (within : Within (records_at book at) p) where
  fits : (x w : ℕ) → x + w ≤ length (records_at book at) → x + w ≤ 336
  fits x w h = omega (arith, records-long book at inside)

  organisation-moved : organisation_in book (shifted at p) ≡ organisation_in (records_at book at) p
  organisation-moved =
      let x = p.organisation in
      let h : x + 120 ≤ 336 = fits x 120 within.organisation in
      rw (moved-text book at x 60 (omega arith), moved-second-text book at x 60 120 h (omega arith))

  pub says-moved : (a : Address) → Says (records_at book at) (records_at book at) p a → Says book book (shifted at p) a
  says-moved a s =
      record {
        keys = s.keys;
        small = s.small;
        number = s.number;
        address_key = s.address_key;
        organisation_key = s.organisation_key;
        postcode_type = s.postcode_type;
        concatenation = s.concatenation;
        indicator = s.indicator;
        outward = moved book at p.postcode 4 (omega (arith, fits p.postcode 7 within.postcode)) ∙ s.outward;
        inward = moved-second book at p.postcode 4 7 (fits p.postcode 7 within.postcode) (omega arith) ∙ s.inward;
        suffix = moved book at p.suffix 2 (fits p.suffix 2 within.suffix) ∙ s.suffix;
        box = moved book at p.po_box 6 (fits p.po_box 6 within.box) ∙ s.box;
        organisation = organisation-moved ∙ s.organisation;
        one = s.one;
      }

  pub within-moved : Within book (shifted at p)
  within-moved =
      let long = records-long book at inside in
      record {
        postcode = omega (arith, long, within.postcode, inside.high);
        suffix = omega (arith, long, within.suffix, inside.high);
        box = omega (arith, long, within.box, inside.high);
        organisation = omega (arith, long, within.organisation, inside.high);
      }

module _ (book : List ℕ) (at : ℕ) (inside : Inside book at) where
  pub two : 1 < length (records_at book at) / 168
  two = omega (arith, two_records book at inside)

  pub says-from : Says book book (delivery_from book at) (address_from book at)
  unfolding delivery_from
  says-from =
      says-moved book at inside (delivery_at (records_at book at) 0) (within-at (records_at book at) 0 two)
      (address_from book at) (says_at (records_at book at) 0 two (place_before book at))

  pub within-from : Within book (delivery_from book at)
  unfolding delivery_from
  within-from = within-moved book at inside (delivery_at (records_at book at) 0) (within-at (records_at book at) 0 two)
