-- What code knows of an address record says what the record's address says, where the organisations file is accepted, and its
-- texts lie within the two files.
-- Assumes nothing.
use Prim.Native.Nat.{ℕ, zero, suc, ◌+◌, ◌-◌, ◌*◌, ◌/◌, ◌≤◌, ◌<◌}
use mathlib.Core.Path.{◌≡◌, refl, sym, ap, ◌∙◌}
use mathlib.Core.Bool.{Bool, true, false, cond, not, ◌&&◌}
use mathlib.Core.List.{List}
use native.Mathlib.Omega.{arith}
use borrow.Author.Tests.{lt-ltb, ne_eqb}
use lib.Dec.{eqb}
use lib.ListN.{length}
use Rattle.field.specs.Digits.{value}
use Rattle.field.specs.Text.{trim, part, text_in}
use Rattle.field.proofs.Texts.{part-bound}
use Rattle.field.proofs.Fronts.{digits-below}
use Rattle.file_record.specs.Parts.{record_at}
use Rattle.file_record.proofs.Records.{record-fits, record-part}
use Rattle.file.specs.Accepted.{Accepted}
use Rattle.file.specs.Mainfile as Format
use Rattle.source.specs.Address.{none_needed, named, lacking}
use Rattle.source.specs.Delivery.{organisation_in, Says}
use Rattle.mainfile.specs.Addresses.{is_large, needs_row, joined_row, organisation_at, organisation_of, address_of}
use Rattle.mainfile_source.specs.Organisations.{last_in}
use Rattle.mainfile_source.specs.Delivery.{start_at, joined_found, own_found, delivery_at}
use Rattle.mainfile_source.proofs.Joining.{organisation-found}
use Rattle.mainfile_source.proofs.Places.{own-before}
use Rattle.mainfile_meaning.specs.Elements.{Inside}
use Rattle.mainfile_meaning.proofs.Organisations.{eight, organisation-said}

-- ---- a record of the address file

module _ (addresses organisations : List ℕ) (i : ℕ) (high : i < length addresses / 88) where
  start_is : start_at addresses i ≡ i * 88
  start_is = simp (lt-ltb i (length addresses / 88) high)

  own-part : (from to x y : ℕ) → to ≤ 88 → x ≡ start_at addresses i + from → y ≡ start_at addresses i + to
      → part addresses x y ≡ part (record_at 88 addresses i) from to
  own-part from to x y h e f = rw (e, f, start_is) (sym (record-part 88 addresses i high from to h))

  abbrev rec : List ℕ
  rec = record_at 88 addresses i

  -- its texts lie within the two files, of which the second has a header
  pub inside-at : 1 ≤ length organisations / 153 → Inside addresses organisations (delivery_at addresses organisations i)
  unfolding delivery_at
  inside-at some =
      let fits = record-fits 88 addresses i high in
      let row = own_found organisations rec in
      let there : row < length organisations / 153 = omega (arith, own-before organisations rec) in
      record {
        postcode = omega (arith, start_is);
        suffix = omega (arith, start_is);
        box = omega (arith, start_is);
        organisation = omega (arith, record-fits 153 organisations row there);
      }

  pub says_at : Accepted Format.organisations organisations → (n : ℕ)
      → Says addresses organisations (delivery_at addresses organisations i) (address_of n rec organisations)
  unfolding delivery_at address_of
  says_at t n =
      let at = start_at addresses i in
      record {
        keys = refl;
        small = (
          eight rec 15 21 (omega arith),
          (
            eight rec 21 29 (omega arith),
            (
              eight rec 29 33 (omega arith),
              (
                eight rec 33 41 (omega arith),
                (eight rec 41 45 (omega arith), (eight rec 49 57 (omega arith), (eight rec 57 65 (omega arith), tt))),
              ),
            ),
          ),
        );
        number = refl;
        address_key = refl;
        organisation_key = refl;
        postcode_type = refl;
        concatenation = refl;
        indicator = refl;
        outward = own-part 0 4 (at + 0) (at + 0 + 4) (omega arith) refl (omega arith);
        inward = own-part 4 7 (at + 0 + 4) (at + 0 + 7) (omega arith) (omega arith) (omega arith);
        suffix = own-part 79 81 (at + 79) (at + 79 + 2) (omega arith) refl (omega arith);
        box = own-part 82 88 (at + 82) (at + 82 + 6) (omega arith) refl (omega arith);
        organisation = organisation-said organisations rec t (needs_row rec) (own_found organisations rec) refl refl;
        one = by_tests (needs_row rec) (eqb (own_found organisations rec) 0);
      }
    where
      by_tests : (t u : Bool) → (t && u) && not u ≡ false
      by_tests true true = refl
      by_tests true false = refl
      by_tests false u = refl
