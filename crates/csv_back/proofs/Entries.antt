-- What is written from sound elements: each field has its form and its width, and says what it was written from.
-- Assumes nothing.
use Prim.Native.Nat.{ℕ, ◌≤◌, ◌<◌}
use mathlib.Core.Path.{◌≡◌, refl}
use mathlib.Core.Bool.{Bool, true, false}
use mathlib.Core.List.{List, [], ◌∷◌, ◌++◌}
use native.Mathlib.Omega.{arith}
use borrow.Author.Tests.{le-leb, leb-true, eq-eqb, not-true}
use lib.ListN.{length}
use Rattle.field.specs.Test.{every}
use Rattle.field.specs.Digits.{digit}
use Rattle.field.proofs.Tests.{and_left, and_right}
use Rattle.field_outward.proofs.Long.{suffix-long}
use Rattle.field_outward.specs.Inward.{suffix_fault}
use Rattle.source.specs.Address.{Elements}
use Rattle.source.specs.Resolve.{elements}
use Rattle.label.specs.Lines.{is_empty, street, number_text}
use Rattle.csv_paf.specs.Row.{indicator_mark, row_fields, row_text, plain, all_plain, row_texts, street_fits, carried}
use Rattle.csv_paf.specs.File.{rows_of, forms_for, widths}
use Rattle.csv_paf.specs.Ask.{row_elements, row_resolved}
use Rattle.csv_paf.proofs.Fields.{InFields, fields_back, rows_back}
use Rattle.csv_paf.proofs.Forms.{Held, Fitting, RowFine, row_fine}
use Rattle.csv_back.specs.Back.{Entry, row_in, ElementsSound, Writable}
use Rattle.csv_back.proofs.Texts.{row_byte, every-then, in-field, unquoted, Whole, good-whole, good-long, good-empty, whole-text, whole-filled, street-whole}
use Rattle.csv_back.proofs.Numbers.{number-back}
use Rattle.csv_back.proofs.Codes.{digit-byte, OutwardText, outward-text, suffix-text, type-text, outward-back, inward-back, is-postcode, postcode-long, postcode-bytes}
use Rattle.csv_back.proofs.Forms.{type-held, indicator-held, double-held, organisation-held}
use Rattle.csv_back.proofs.Labels.{plain_of, own-street, own-dependent, plain-allowed}

-- a fact, and those behind it
infixr 4 ◌▸◌
◌▸◌ : {A B : Type 0} → A → B → A × B
a ▸ b = (a, b)

-- ---- bytes and widths

-- each field is of bytes of a row, and no longer than its width
abbrev Bounded : List ℕ → List (List ℕ) → Type 0
Bounded [] [] = Unit {0}
Bounded [] (f ∷ fs) = ⊥
Bounded (w ∷ ws) [] = ⊥
Bounded (w ∷ ws) (f ∷ fs) = ((length f ≤ w) × (every row_byte f ≡ true)) × Bounded ws fs

bounded-in : (ws : List ℕ) (fs : List (List ℕ)) → Bounded ws fs → InFields fs
bounded-in [] [] h = tt
bounded-in [] (f ∷ fs) h = absurd h
bounded-in (w ∷ ws) [] h = absurd h
bounded-in (w ∷ ws) (f ∷ fs) h = (in-field f h.0.1, bounded-in ws fs h.1)

bounded-fits : (ws : List ℕ) (fs : List (List ℕ)) → Bounded ws fs → Fitting ws fs
bounded-fits [] fs h = tt
bounded-fits (w ∷ ws) [] h = tt
bounded-fits (w ∷ ws) (f ∷ fs) h =
    (rw (le-leb (length f) w h.0.0, unquoted f h.0.1), bounded-fits ws fs h.1)

-- each byte of each field is one of a row
abbrev pub RowBytes : List (List ℕ) → Type 0
RowBytes [] = Unit {0}
RowBytes (f ∷ fs) = (every row_byte f ≡ true) × RowBytes fs

bounded-bytes : (ws : List ℕ) (fs : List (List ℕ)) → Bounded ws fs → RowBytes fs
bounded-bytes [] [] h = tt
bounded-bytes [] (f ∷ fs) h = absurd h
bounded-bytes (w ∷ ws) [] h = absurd h
bounded-bytes (w ∷ ws) (f ∷ fs) h = (h.0.1, bounded-bytes ws fs h.1)

-- no comma and no double quote in any of some texts
abbrev EachPlain : List (List ℕ) → Type 0
EachPlain [] = Unit {0}
EachPlain (t ∷ ts) = (plain t ≡ true) × EachPlain ts

each-plain : (ts : List (List ℕ)) → all_plain ts ≡ true → EachPlain ts
each-plain [] e = tt
each-plain (t ∷ ts) e = (and_left (plain t) (all_plain ts) e, each-plain ts (and_right (plain t) (all_plain ts) e))

-- ---- the texts

record Wholes (e : Elements) : Type 0 where
  town : Whole e.town
  dependent_locality : Whole e.dependent_locality
  double_locality : Whole e.double_locality
  thoroughfare : Whole (street e.thoroughfare e.descriptor)
  dependent : Whole (street e.dependent e.dependent_descriptor)
  building : Whole e.building
  sub_building : Whole e.sub_building
  box : Whole e.box
  department : Whole e.department
  organisation : Whole e.organisation

module _ (type : ℕ) (e : Elements) (s : ElementsSound type e) (c : carried e ≡ true) where
  plains : EachPlain (row_texts e)
  unfolding carried
  plains = each-plain (row_texts e) (and_left (all_plain (row_texts e)) _ c)

  wholes : Wholes e
  wholes =
      let p = plains in
      let behind = p.1.1.1.1.1.1.1 in
      record {
        town = good-whole 30 false e.town s.town p.0;
        dependent_locality = good-whole 35 true e.dependent_locality s.dependent_locality p.1.0;
        double_locality = good-whole 35 true e.double_locality s.double_locality p.1.1.0;
        thoroughfare =
            street-whole e.thoroughfare e.descriptor
            (good-whole 60 true e.thoroughfare s.thoroughfare p.1.1.1.0)
            (good-whole 20 true e.descriptor s.descriptor p.1.1.1.1.0) (own-street type e s);
        dependent =
            street-whole e.dependent e.dependent_descriptor
            (good-whole 60 true e.dependent s.dependent p.1.1.1.1.1.0)
            (good-whole 20 true e.dependent_descriptor s.dependent_descriptor p.1.1.1.1.1.1.0)
            (own-dependent type e s);
        building = good-whole 50 true e.building s.building behind.0;
        sub_building = good-whole 30 true e.sub_building s.sub_building behind.1.0;
        box = good-whole 6 true e.box s.box behind.1.1.0;
        department = good-whole 60 true e.department s.department behind.1.1.1.0;
        organisation = good-whole 60 true e.organisation s.organisation behind.1.1.1.1.0;
      }

  -- "Thoroughfare & Descriptor .. 80"
  street-fits : (length (street e.thoroughfare e.descriptor) ≤ 80)
      × (length (street e.dependent e.dependent_descriptor) ≤ 80)
  unfolding carried
  street-fits =
      let both = and_right (all_plain (row_texts e)) _ c in (
        leb-true (length (street e.thoroughfare e.descriptor)) 80
            (and_left (street_fits e.thoroughfare e.descriptor) _ both),
        leb-true (length (street e.dependent e.dependent_descriptor)) 80
            (and_right (street_fits e.thoroughfare e.descriptor) _ both),
      )

  outward : OutwardText e.outward
  outward = rw s.outward (outward-text s.code s.outward_good)

-- ---- the fields

module _ (w : Entry) (ok : Writable w) where
  abbrev e : Elements
  e = w.printed

  abbrev s : ElementsSound w.type e
  s = ok.sound.texts

  abbrev fields : List (List ℕ)
  fields = row_fields w.type w.indicator w.suffix e

  t : Wholes e
  t = wholes w.type e s ok.not_refused

  o : OutwardText e.outward
  o = outward w.type e s ok.not_refused

  bounded : Bounded widths fields
  unfolding row_fields
  bounded =
      let long = street-fits w.type e s ok.not_refused in
      let n = number-back e.number s.number in
      (postcode-long e.outward e.inward o s.inward, postcode-bytes e.outward e.inward o s.inward)
      ▸ (good-long 30 false e.town s.town, t.town.bytes)
      ▸ (good-long 35 true e.dependent_locality s.dependent_locality, t.dependent_locality.bytes)
      ▸ (good-long 35 true e.double_locality s.double_locality, t.double_locality.bytes)
      ▸ (long.0, t.thoroughfare.bytes)
      ▸ (long.1, t.dependent.bytes)
      ▸ (n.long, every-then digit row_byte digit-byte (number_text e.number) n.digits)
      ▸ (good-long 50 true e.building s.building, t.building.bytes)
      ▸ (good-long 30 true e.sub_building s.sub_building, t.sub_building.bytes)
      ▸ (good-long 6 true e.box s.box, t.box.bytes)
      ▸ (good-long 60 true e.department s.department, t.department.bytes)
      ▸ (good-long 60 true e.organisation s.organisation, t.organisation.bytes)
      ▸ (omega arith, refl)
      ▸ (omega arith, type-text w.type ok.sound.type)
      ▸ (omega arith, mark-byte w.indicator)
      ▸ (omega (arith, suffix-long w.suffix ok.sound.suffix), suffix-text w.suffix ok.sound.suffix)
      ▸ tt
    where
      mark-byte : (y : Bool) → every row_byte (indicator_mark y ∷ []) ≡ true
      mark-byte true = refl
      mark-byte false = refl

  pub entry-bytes : RowBytes fields
  entry-bytes = bounded-bytes widths fields bounded

  held : Held (forms_for fields) fields
  unfolding row_fields
  held =
      let n = number-back e.number s.number in
      is-postcode e.outward e.inward o s.inward
      ▸ whole-filled e.town t.town (not-true (is_empty e.town) (good-empty 30 false e.town s.town))
      ▸ whole-text e.dependent_locality t.dependent_locality
      ▸ double-held e.dependent_locality e.double_locality t.dependent_locality t.double_locality s.double
      ▸ whole-text (street e.thoroughfare e.descriptor) t.thoroughfare
      ▸ whole-text (street e.dependent e.dependent_descriptor) t.dependent
      ▸ n.digits
      ▸ whole-text e.building t.building
      ▸ whole-text e.sub_building t.sub_building
      ▸ whole-text e.box t.box
      ▸ whole-text e.department t.department
      ▸ organisation-held w.type e.department e.organisation t.department t.organisation s.named
      ▸ refl
      ▸ type-held w.type ok.sound.type
      ▸ indicator-held w.indicator
      ▸ eq-eqb (suffix_fault w.suffix) 0 ok.sound.suffix
      ▸ tt

  -- what the fields say
  pub elements-back : row_elements fields ≡ plain_of e
  unfolding row_fields row_elements
  elements-back =
      simp (
        t.town.end,
        t.dependent_locality.end,
        t.double_locality.end,
        t.thoroughfare.end,
        t.dependent.end,
        t.building.end,
        t.sub_building.end,
        t.box.end,
        t.department.end,
        t.organisation.end,
        (number-back e.number s.number).says,
        outward-back e.outward e.inward o s.inward,
        inward-back e.outward e.inward o s.inward,
      )

  some : 0 < length fields
  unfolding row_fields
  some = omega arith

  -- ---- the row, whatever stands behind it

  module _ (rest : List ℕ) where
    pub entry-rows : rows_of (row_in w ++ rest) ≡ (row_in w ++ rest) ∷ rows_of rest
    unfolding row_text
    entry-rows = rows_back rest fields (bounded-in widths fields bounded)

    pub entry-fine : RowFine (row_in w ++ rest)
    unfolding row_text
    entry-fine =
        row_fine fields rest some (bounded-in widths fields bounded) held (bounded-fits widths fields bounded)

    pub entry-says : row_resolved (row_in w ++ rest) ≡ elements (plain_of e)
    unfolding row_text row_resolved
    entry-says =
        rw (fields_back rest fields some (bounded-in widths fields bounded), elements-back, plain-allowed w.type e s)
