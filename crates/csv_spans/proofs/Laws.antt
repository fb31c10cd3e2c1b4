-- Laws of the fields of a good row: where they begin, and that none is long.
-- Assumes nothing.
use Prim.Native.Nat.{ℕ, zero, suc, ◌+◌, ◌-◌, ◌≤◌, ◌<◌}
use mathlib.Core.Path.{◌≡◌, refl, sym, ap, ap₂, ◌∙◌}
use mathlib.Core.Bool.{Bool, true, false}
use mathlib.Core.List.{List, [], ◌∷◌}
use native.Mathlib.Omega.{arith}
use native.Mathlib.Nat.{add-zero}
use native.Mathlib.Numerals.{add-one}
use borrow.Author.Tests.{leb-true, eqb-true, eqb-false}
use lib.Dec.{eqb, leb}
use lib.ListN.{length, take, drop, get_or, length-take, length-drop}
use lib.Seq.{take-nil, take-take, drop-drop, get_or-drop}
use Rattle.field.specs.Test.{every, within}
use Rattle.field.specs.Text.{trim, part, text_in}
use Rattle.field.proofs.Tests.{and_left, and_right}
use Rattle.csv_paf.specs.File.{fields_of, is_ended, is_postcode, outward_in, inward_in, forms_for, row_fault, widths, not_quote, field_fits, fields_fit, row_fits}
use Rattle.csv_paf.specs.Ask.{text_at}
use Rattle.csv_read.specs.Cut.{more_fields, field_end, field_start}
use Rattle.csv_read.proofs.Cut.{end_low, end-within, fields_at, fields-behind, fields-none, comma-within}
use Rattle.csv_read.proofs.Formed.{AllFormed, all-formed}
use Rattle.csv_read.proofs.Reading.{width_small}
use Rattle.csv_spans.specs.Row.{GoodRow}

part_length : (csv : List ℕ) (start end : ℕ) → end ≤ length csv → length (part csv start end) ≡ end - start
part_length csv start end h = omega (arith, length-take (end - start) (drop start csv), length-drop start csv)

drop-take : (m n : ℕ) (s : List ℕ) → drop m (take n s) ≡ take (n - m) (drop m s)
drop-take zero n s = ap (λ (k : ℕ). take k s) (let q : n ≡ n - 0 = omega arith in q)
drop-take (suc m) zero s = ap (λ (k : ℕ). take k (drop (suc m) s)) (let q : 0 ≡ 0 - suc m = omega arith in q)
drop-take (suc m) (suc n) [] = sym (take-nil (suc n - suc m))
drop-take (suc m) (suc n) (x ∷ xs) =
    drop-take m n xs ∙ ap (λ (k : ℕ). take k (drop m xs)) (let q : n - m ≡ suc n - suc m = omega arith in q)

-- ---- nothing too long

short-at : (ws : List ℕ) (fs : List (List ℕ)) (n : ℕ) → fields_fit ws fs ≡ true → n < length ws → n < length fs
    → length (get_or fs n []) ≤ get_or ws n 0
short-at [] fs n e h k = absurd (omega (arith, h))
short-at (w ∷ ws) [] n e h k = absurd (omega (arith, k))
short-at (w ∷ ws) (f ∷ fs) zero e h k =
    leb-true (length f) w (and_left (leb (length f) w) (every not_quote f) (and_left (field_fits w f) (fields_fit ws fs) e))
short-at (w ∷ ws) (f ∷ fs) (suc n) e h k =
    short-at ws fs n (and_right (field_fits w f) (fields_fit ws fs) e) (omega (arith, h)) (omega (arith, k))

module _ {csv : List ℕ} {at : ℕ} (row : GoodRow csv at) where
  abbrev fs : List (List ℕ)
  fs = fields_of (drop at csv)

  pub formed : AllFormed (forms_for fs) fs
  unfolding row_fault
  formed = all-formed (forms_for fs) 0 fs (is_ended (drop at csv)) row.fault

  sixteen : length fs ≡ 16
  sixteen = formed.many

  pub short : (n : ℕ) → n < 16 → length (get_or fs n []) ≤ get_or widths n 0
  unfolding row_fits
  short n h = short-at widths fs n row.fits h (omega (arith, sixteen, h))

  pub postcode-formed : is_postcode (get_or fs 0 []) ≡ true
  postcode-formed = formed.each 0 (omega arith)

  -- ---- where a field begins

  pub record Starts (n : ℕ) : Type 0 where
    pub fields : drop n fs ≡ fields_of (drop (field_start csv at n) csv)
    pub high : field_start csv at n ≤ length csv

  -- fields of which n are dropped and one is left have another behind that one only behind a comma
  comma-there : (n e : ℕ) (f : List ℕ) → drop n fs ≡ f ∷ more_fields (drop e csv) → suc n < 16 → get_or csv e 0 ≡ 44
  comma-there n e f is h = by-test (eqb (get_or csv e 0) 44) refl
    where
      by-test : (t : Bool) → eqb (get_or csv e 0) 44 ≡ t → get_or csv e 0 ≡ 44
      by-test true q = eqb-true (get_or csv e 0) 44 q
      by-test false q =
          let none = is ∙ ap (λ (r : List (List ℕ)). f ∷ r) (fields-none csv e (eqb-false (get_or csv e 0) 44 q)) in
          absurd (omega (arith, sixteen, h, length-drop n fs, ap length none))

  begins : (n : ℕ) → n < 16 → Starts n
  begins zero h = record { fields = refl; high = row.within }
  begins (suc n) h = next (begins n (omega (arith, h)))
    where
      next : Starts n → Starts (suc n)
      next s =
          record {
            fields =
                ap (λ (m : ℕ). drop m fs) (sym (add-one n))
                ∙ (sym (drop-drop 1 n fs)
                ∙ (ap (drop 1) first
                ∙ (fields-behind csv e comma ∙ ap (λ (m : ℕ). fields_of (drop m csv)) (add-one e))));
            high = omega (arith, comma-within csv e comma);
          }
        where
          e : ℕ
          e = field_end csv (field_start csv at n)

          first : drop n fs ≡ part csv (field_start csv at n) e ∷ more_fields (drop e csv)
          first = s.fields ∙ fields_at csv (field_start csv at n)

          comma : get_or csv e 0 ≡ 44
          comma = comma-there n e (part csv (field_start csv at n) e) first h

  -- the n-th field, by the place at which it begins
  module _ (n : ℕ) {start : ℕ} (h : n < 16) (is : start ≡ field_start csv at n) where
    field_is : get_or fs n [] ≡ part csv start (field_end csv start)
    field_is =
        ap (λ (m : ℕ). get_or fs m []) (sym (add-zero n))
        ∙ (sym (get_or-drop n fs 0 [])
        ∙ (ap (λ (r : List (List ℕ)). get_or r 0 []) ((begins n h).fields ∙ fields_at csv (field_start csv at n))
        ∙ ap (λ (m : ℕ). part csv m (field_end csv m)) (sym is)))

    start-within : start ≤ length csv
    start-within = omega (arith, is, (begins n h).high)

    end-near : field_end csv start ≤ start + 80
    end-near =
        omega (
          arith,
          short n h,
          width_small n,
          ap length field_is,
          part_length csv start (field_end csv start) (end-within csv start start-within),
        )

    pub cut-here : (start ≤ length csv) × (field_end csv start ≤ start + 80)
    cut-here = (start-within, end-near)

    pub end-high : field_end csv start ≤ length csv
    end-high = end-within csv start start-within

    pub said_here : {text : List ℕ} → text ≡ text_in csv start (field_end csv start) → text ≡ text_at fs n
    unfolding text_in
    said_here e = e ∙ ap trim (sym field_is)

    pub field-here : {e : ℕ} → e ≡ field_end csv start → part csv start e ≡ get_or fs n []
    field-here e = ap (part csv start) e ∙ sym field_is

    pub next_here : {m : ℕ} → m ≡ suc (field_end csv start) → m ≡ field_start csv at (suc n)
    next_here e = e ∙ ap (λ (m : ℕ). suc (field_end csv m)) is

  -- ---- the postcode

  module _ {end : ℕ} (e : end ≡ field_end csv at) where
    abbrev postcode : List ℕ
    postcode = get_or fs 0 []

    code_is : part csv at end ≡ postcode
    code_is = field-here 0 (omega arith) refl e

    code-long : length postcode ≡ end - at
    code-long =
        ap length (sym code_is) ∙ part_length csv at end (omega (arith, e, end-high 0 (omega arith) refl))

    sized : within 6 8 (length postcode) ≡ true
    unfolding is_postcode
    sized = and_left (within 6 8 (length postcode)) _ postcode-formed

    pub code-sized : (at + 6 ≤ end) × (end ≤ at + 8)
    code-sized =
        let low = leb-true 6 (length postcode) (and_left (leb 6 (length postcode)) (leb (length postcode) 8) sized) in
        let high = leb-true (length postcode) 8 (and_right (leb 6 (length postcode)) (leb (length postcode) 8) sized) in
        let on = end_low csv at in
        (omega (arith, low, code-long, e, on), omega (arith, high, code-long, e, on))

    pub outward-here : part csv at (end - 4) ≡ outward_in postcode
    outward-here =
        sym
        (ap outward_in (sym code_is)
        ∙ (ap (λ (n : ℕ). take (n - 4) (part csv at end)) (ap length code_is ∙ code-long)
        ∙ (take-take (end - at - 4) (end - at) (drop at csv) (omega arith)
        ∙ ap (λ (n : ℕ). take n (drop at csv)) less)))
      where
        less : end - at - 4 ≡ end - 4 - at
        less = omega arith

    pub inward-here : part csv (end - 3) end ≡ inward_in postcode
    inward-here =
        sym
        (ap inward_in (sym code_is)
        ∙ (ap (λ (n : ℕ). drop (n - 3) (part csv at end)) (ap length code_is ∙ code-long)
        ∙ (drop-take (end - at - 3) (end - at) (drop at csv)
        ∙ ap₂ take less (drop-drop (end - at - 3) at csv ∙ ap (λ (n : ℕ). drop n csv) place))))
      where
        less : end - at - (end - at - 3) ≡ end - (end - 3)
        less = omega (arith, code-sized)

        place : at + (end - at - 3) ≡ end - 3
        place = omega (arith, code-sized)

    code-within : length (outward_in postcode) + length (inward_in postcode) ≤ 7
    code-within =
        omega (
          arith,
          length-take (length postcode - 4) postcode,
          length-drop (length postcode - 3) postcode,
          code-long,
          code-sized,
        )

  pub postcode-length : length (outward_in (get_or fs 0 [])) + length (inward_in (get_or fs 0 [])) ≤ 7
  postcode-length = code-within refl
