-- Of an address record, the organisation's row that its keys find has the texts that its address has.
-- Assumes nothing.
use Prim.Native.Nat.{ℕ, zero, suc, ◌+◌, ◌-◌, ◌*◌, ◌/◌, ◌≤◌, ◌<◌}
use mathlib.Core.Path.{◌≡◌, refl, sym, ap, ◌∙◌}
use mathlib.Core.Bool.{Bool, true, false, cond, not, ◌&&◌}
use mathlib.Core.List.{List}
use native.Mathlib.Omega.{arith}
use borrow.Author.Tests.{lt-ltb, ne_eqb}
use lib.Dec.{eqb}
use lib.ListN.{length}
use Rattle.field.specs.Digits.{value}
use Rattle.field.specs.Text.{trim, part, text_in}
use Rattle.field.proofs.Texts.{part-bound}
use Rattle.field.proofs.Fronts.{digits-below}
use Rattle.file_record.specs.Parts.{record_at}
use Rattle.file_record.proofs.Records.{record-fits, record-part}
use Rattle.file.specs.Accepted.{Accepted}
use Rattle.file.specs.Mainfile as Format
use Rattle.source.specs.Address.{none_needed, named, lacking}
use Rattle.source.specs.Delivery.{organisation_in, Says}
use Rattle.mainfile.specs.Addresses.{is_large, needs_row, joined_row, organisation_at, organisation_of, address_of}
use Rattle.mainfile_source.specs.Organisations.{last_in}
use Rattle.mainfile_source.specs.Delivery.{start_at, joined_found, own_found, delivery_at}
use Rattle.mainfile_source.proofs.Joining.{organisation-found}
use Rattle.mainfile_source.proofs.Places.{own-before}
use Rattle.mainfile_meaning.specs.Elements.{Inside}

-- a field of at most eight digits
pub eight : (rec : List ℕ) (from to : ℕ) → to - from ≤ 8 → value (part rec from to) < 100_000_000
eight rec from to h = digits-below 8 (part rec from to) (omega arith) (omega (arith, part-bound rec from to))

-- ---- the organisation

module _ (organisations rec : List ℕ) where
  own-none : needs_row rec ≡ false → own_found organisations rec ≡ 0
  unfolding own_found
  own-none e = rw e

  own-some : needs_row rec ≡ true → own_found organisations rec ≡ joined_found organisations rec
  unfolding own_found
  own-some e = rw e

  -- the texts of a row that is there
  row-part : (row from to x y : ℕ) → row < length organisations / 153 → to ≤ 153 → x ≡ row * 153 + from
      → y ≡ row * 153 + to
      → part organisations x y ≡ part (record_at 153 organisations row) from to
  row-part row from to x y h k e f = rw (e, f) (sym (record-part 153 organisations row h from to k))

  row-text : (row from to x y : ℕ) → row < length organisations / 153 → to ≤ 153 → x ≡ row * 153 + from
      → y ≡ row * 153 + to
      → text_in organisations x y ≡ text_in (record_at 153 organisations row) from to
  unfolding text_in
  row-text row from to x y h k e f = ap trim (row-part row from to x y h k e f)

  module _ (t : Accepted Format.organisations organisations) where
    joined_is : joined_found organisations rec ≡ joined_row organisations rec
    unfolding joined_row
    joined_is =
        rw (
          organisation-found organisations t 76 (value (part rec 7 15)) (eight rec 7 15 (omega arith)),
          organisation-found organisations t 83 (value (part rec 69 77)) (eight rec 69 77 (omega arith)),
        ) refl

    pub organisation-said : (needs : Bool) (row : ℕ) → needs_row rec ≡ needs → own_found organisations rec ≡ row
        → cond (not (eqb row 0))
        (named (text_in organisations (row * 153 + 9) (row * 153 + 9 + 60))
        (text_in organisations (row * 153 + 9 + 60) (row * 153 + 9 + 120)))
        (cond (needs && eqb row 0) lacking none_needed)
        ≡ cond needs (organisation_at organisations (joined_row organisations rec)) none_needed
    organisation-said true zero e f = rw (sym joined_is ∙ (sym (own-some e) ∙ f)) refl
    organisation-said true (suc q) e f =
        let there : suc q < length organisations / 153 = omega (arith, f, own-before organisations rec) in
        let row = suc q in
        rw (
          sym joined_is ∙ (sym (own-some e) ∙ f),
          row-text row 9 69 (row * 153 + 9) (row * 153 + 9 + 60) there (omega arith) refl (omega arith),
          row-text row 69 129 (row * 153 + 9 + 60) (row * 153 + 9 + 120) there (omega arith) (omega arith) (omega arith),
        )
        (simp (ne_eqb (suc q) 0 (λ z. omega arith)))
    organisation-said false zero e f = refl
    organisation-said false (suc q) e f = absurd (omega (arith, f, own-none e))
