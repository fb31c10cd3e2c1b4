-- What code knows of a view of an accepted point file says what the view's address says, and its texts lie within the file.
-- Assumes nothing.
use Prim.Native.Nat.{ℕ, suc, ◌+◌, ◌-◌, ◌*◌, ◌/◌, ◌≤◌, ◌<◌}
use mathlib.Core.Path.{◌≡◌, refl, sym, ap, ap₂, ◌∙◌}
use mathlib.Core.Bool.{Bool, true, false, cond, not}
use mathlib.Core.List.{List, [], ◌∷◌}
use native.Mathlib.Omega.{arith}
use native.Mathlib.Nat.{add_assoc}
use borrow.Author.Tests.{lt-ltb}
use lib.Dec.{eqb, ltb}
use lib.ListN.{length, get_or}
use Rattle.field.specs.Digits.{value}
use Rattle.field.specs.Text.{trim, part, text_in}
use Rattle.field.proofs.Texts.{part-bound}
use Rattle.field.proofs.Fronts.{digits-below}
use Rattle.file_record.specs.Parts.{record_at}
use Rattle.file_record.proofs.Records.{record-fits, record-part}
use Rattle.file.specs.Formats.{needed}
use Rattle.source.specs.Address.{Organisation, none_needed, named}
use Rattle.source.specs.Delivery.{organisation_in, Says, Within}
use Rattle.changes_source.specs.Addresses.{organisation_of, address_of, address_at}
use Rattle.changes_source.specs.Delivery.{start_at, delivery_at}

-- a key of eight digits
eight : (rec : List ℕ) (start : ℕ) → value (part rec start (start + 8)) < 100_000_000
eight rec start = digits-below 8 (part rec start (start + 8)) (omega arith) (omega (arith, part-bound rec start (start + 8)))

-- a record that another follows
module _ (points : List ℕ) (i : ℕ) (high : suc i < length points / 168) where
  start_is : start_at points i ≡ i * 168
  start_is = simp (lt-ltb i (length points / 168) (omega arith))

  -- a field of the record, and of the next
  own-part : (from to x y : ℕ) → to ≤ 168 → x ≡ start_at points i + from → y ≡ start_at points i + to
      → part points x y ≡ part (record_at 168 points i) from to
  own-part from to x y h e f = rw (e, f, start_is) (sym (record-part 168 points i (omega arith) from to h))

  next-part : (from to x y : ℕ) → to ≤ 168 → x ≡ start_at points i + 168 + from → y ≡ start_at points i + 168 + to
      → part points x y ≡ part (record_at 168 points (i + 1)) from to
  next-part from to x y h e f =
      let next : i + 1 ≡ suc i = omega arith in
      let start : x ≡ suc i * 168 + from = omega (arith, start_is) in
      let end : y ≡ suc i * 168 + to = omega (arith, start_is) in
      rw (start, end, next) (sym (record-part 168 points (suc i) high from to h))

  next-text : (from to x y : ℕ) → to ≤ 168 → x ≡ start_at points i + 168 + from → y ≡ start_at points i + 168 + to
      → text_in points x y ≡ text_in (record_at 168 points (i + 1)) from to
  unfolding text_in
  next-text from to x y h e f = ap trim (next-part from to x y h e f)

  -- the follower's texts, where there is one
  organisation-at : organisation_in points (delivery_at points i)
      ≡ organisation_of (record_at 168 points i) (record_at 168 points (i + 1))
  unfolding delivery_at
  organisation-at =
      let o = start_at points i + 210 in
      rw (
        next-text 42 102 o (o + 60) (omega arith) (omega arith) (omega arith),
        next-text 102 162 (o + 60) (o + 120) (omega arith) (omega arith) (omega arith),
      )
      (by-test (eqb (needed (record_at 168 points i)) 0) _)
    where
      by-test : (t : Bool) (there : Organisation) → cond (not t) there none_needed ≡ cond t none_needed there
      by-test true there = refl
      by-test false there = refl

  pub within-at : Within points (delivery_at points i)
  unfolding delivery_at
  within-at =
      let fits = record-fits 168 points (suc i) high in
      record {
        postcode = omega (arith, start_is);
        suffix = omega (arith, start_is);
        box = omega (arith, start_is);
        organisation = omega (arith, start_is);
      }

  pub says_at : (n : ℕ) → Says points points (delivery_at points i) (address_at points n i)
  unfolding delivery_at address_of
  says_at n =
      let rec = record_at 168 points i in
      let at = start_at points i in
      record {
        keys = refl;
        small = (
          eight rec 42,
          (eight rec 50, (eight rec 58, (eight rec 66, (eight rec 74, (eight rec 86, (eight rec 94, tt)))))),
        );
        number = refl;
        address_key = refl;
        organisation_key = refl;
        postcode_type = refl;
        concatenation = refl;
        indicator = refl;
        outward = own-part 14 18 (at + 14) (at + 14 + 4) (omega arith) refl (omega arith);
        inward = own-part 18 21 (at + 14 + 4) (at + 14 + 7) (omega arith) (omega arith) (omega arith);
        suffix = own-part 21 23 (at + 21) (at + 21 + 2) (omega arith) refl (omega arith);
        box = own-part 107 113 (at + 107) (at + 107 + 6) (omega arith) refl (omega arith);
        organisation = organisation-at;
        one = refl;
      }
