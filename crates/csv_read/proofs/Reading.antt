-- A row read field by field: where reading begins, goes on and ends.
-- Assumes nothing.
use Prim.Native.Nat.{ℕ, zero, suc, ◌+◌, ◌≤◌, ◌<◌}
use mathlib.Core.Path.{◌≡◌, refl, sym, ap, ap₂, ◌∙◌}
use mathlib.Core.Bool.{Bool, true, false, cond, ◌&&◌, and_assoc}
use mathlib.Core.List.{List, [], ◌∷◌}
use native.Mathlib.Omega.{arith}
use native.Mathlib.Nat.{add-zero}
use native.Mathlib.Numerals.{add-one}
use borrow.Author.Tests.{leb-true, eqb-true, eqb-false}
use lib.Dec.{eqb, leb}
use lib.ListN.{length, drop, get_or}
use lib.Seq.{drop-cons, drop-drop, get_or-drop}
use Rattle.field.specs.Test.{every}
use Rattle.field.proofs.Tests.{and_left, and_right, and-true}
use Rattle.field.specs.Text.{blank, part}
use Rattle.csv_paf.specs.File.{fields_of, is_ended, behind_row, forms_for, field_fault, row_fault, widths, field_fits, fields_fit, row_fits}
use Rattle.std.specs.Prelude.{Ok, Err}
use Rattle.csv_read.specs.Cut.{more_fields, field_end}
use Rattle.csv_read.specs.Judged.{no_form, Reading, ended_row, Judges}
use Rattle.csv_read.proofs.Cut.{end_low, fields_at, ended_at, behind-at, comma-within, fields-behind, ended-behind, row-behind, fields-none, first-as, return-ended, return-behind, return-high, other-ended}

-- no field is wider than 80
at_most : (s : List ℕ) (n most : ℕ) → every (λ w. leb w most) s ≡ true → get_or s n 0 ≤ most
at_most [] n most e = omega arith
at_most (x ∷ xs) zero most e = leb-true x most (and_left (leb x most) (every (λ w. leb w most) xs) e)
at_most (x ∷ xs) (suc n) most e = at_most xs n most (and_right (leb x most) (every (λ w. leb w most) xs) e)

pub width_small : (n : ℕ) → get_or widths n 0 ≤ 80
width_small n = at_most widths n 80 refl

-- ---- field by field

pub reading-start : (csv : List ℕ) (at : ℕ) → at ≤ length csv → Reading csv at 0 at true true
unfolding row_fault row_fits
reading-start csv at h =
    record {
      low = omega arith;
      within = h;
      fields = refl;
      fault = refl;
      behind = refl;
      fits = refl;
      last = refl;
    }

module _ {csv : List ℕ} {at n start : ℕ} {before fit : Bool} (r : Reading csv at n start before fit) where
  abbrev fs : List (List ℕ)
  fs = fields_of (drop at csv)

  -- behind field 16
  pub surplus : n ≡ 16 → row_fault (drop at csv) ≡ 17
  surplus e =
      r.fault
      ∙ (ap (λ (m : ℕ). field_fault (drop m (forms_for fs)) (suc m) (fields_of (drop start csv)) (is_ended (drop start csv))) e
      ∙ ap (λ (rest : List (List ℕ)). field_fault [] 17 rest (is_ended (drop start csv))) (fields_at csv start))

  module _ (h : n < 16) (e : ℕ) (is : e ≡ field_end csv start) where
    abbrev f : List ℕ
    f = part csv start e

    abbrev rest : List (List ℕ)
    rest = more_fields (drop e csv)

    first : fields_of (drop start csv) ≡ f ∷ rest
    first = first-as csv start e is

    forms : drop n (forms_for fs) ≡ get_or (forms_for fs) n no_form ∷ drop (suc n) (forms_for fs)
    forms = drop-cons (forms_for fs) n no_form h

    -- the n-th field decides
    told : row_fault (drop at csv)
        ≡ cond (get_or (forms_for fs) n no_form f)
        (field_fault (drop (suc n) (forms_for fs)) (suc (suc n)) rest (is_ended (drop e csv))) (suc n)
    told =
        r.fault
        ∙ (ap (λ (s : List (List ℕ → Bool)). field_fault s (suc n) (fields_of (drop start csv)) (is_ended (drop start csv))) forms
        ∙ (ap (λ (t : List (List ℕ)). field_fault (get_or (forms_for fs) n no_form ∷ drop (suc n) (forms_for fs)) (suc n) t (is_ended (drop start csv))) first
        ∙ ap (λ (t : Bool). cond (get_or (forms_for fs) n no_form f) (field_fault (drop (suc n) (forms_for fs)) (suc (suc n)) rest t) (suc n))
        (ended_at csv start ∙ ap (λ (m : ℕ). is_ended (drop m csv)) (sym is))))

    pub malformed : false ≡ get_or (forms_for fs) n no_form f → row_fault (drop at csv) ≡ suc n
    malformed bad =
        told
        ∙ ap (λ (t : Bool). cond t (field_fault (drop (suc n) (forms_for fs)) (suc (suc n)) rest (is_ended (drop e csv))) (suc n))
        (sym bad)

    module _ (good : true ≡ get_or (forms_for fs) n no_form f) where
      on : row_fault (drop at csv) ≡ field_fault (drop (suc n) (forms_for fs)) (suc (suc n)) rest (is_ended (drop e csv))
      on =
          told
          ∙ ap (λ (t : Bool). cond t (field_fault (drop (suc n) (forms_for fs)) (suc (suc n)) rest (is_ended (drop e csv))) (suc n))
          (sym good)

      behind-e : behind_row (drop at csv) ≡ behind_row (drop e csv)
      behind-e = r.behind ∙ (behind-at csv start ∙ ap (λ (m : ℕ). behind_row (drop m csv)) (sym is))

      abbrev fits-now : Bool
      fits-now = fit && field_fits (get_or widths n 0) f

      fits-e : row_fits (drop at csv) ≡ (fits-now && fields_fit (drop (suc n) widths) rest)
      fits-e =
          r.fits
          ∙ (ap (λ (s : List ℕ). fit && fields_fit s (fields_of (drop start csv))) (drop-cons widths n 0 h)
          ∙ (ap (λ (t : List (List ℕ)). fit && fields_fit (get_or widths n 0 ∷ drop (suc n) widths) t) first
          ∙ sym (and_assoc fit (field_fits (get_or widths n 0) f) (fields_fit (drop (suc n) widths) rest))))

      one_less : drop (n + 1) fs ≡ rest
      one_less = sym (drop-drop 1 n fs) ∙ ap (drop 1) (r.fields ∙ first)

      this : get_or fs n [] ≡ f
      this =
          ap (λ (m : ℕ). get_or fs m []) (sym (add-zero n))
          ∙ (sym (get_or-drop n fs 0 []) ∙ ap (λ (s : List (List ℕ)). get_or s 0 []) (r.fields ∙ first))

      -- a comma behind it
      reading_step : get_or csv e 0 ≡ 44 → Reading csv at (n + 1) (e + 1) (blank f) fits-now
      reading_step comma =
          record {
            low = omega (arith, r.low, is, end_low csv start);
            within = omega (arith, comma-within csv e comma);
            fields = one_less ∙ fields-behind csv e comma;
            fault =
                on
                ∙ (ap (λ (m : ℕ). field_fault (drop m (forms_for fs)) (suc m) rest (is_ended (drop e csv))) (sym (add-one n))
                ∙ ap₂ (λ (t : List (List ℕ)) (u : Bool). field_fault (drop (n + 1) (forms_for fs)) (suc (n + 1)) t u)
                (fields-behind csv e comma) (ended-behind csv e comma));
            behind = behind-e ∙ row-behind csv e comma;
            fits =
                fits-e
                ∙ (ap (λ (m : ℕ). fits-now && fields_fit (drop m widths) rest) (sym (add-one n))
                ∙ ap (λ (t : List (List ℕ)). fits-now && fields_fit (drop (n + 1) widths) t) (fields-behind csv e comma));
            last = ap blank (sym this ∙ ap (λ (m : ℕ). get_or ([] ∷ fs) m []) (sym (add-one n)));
          }

      -- the same by what was found of it
      pub reading-on : get_or csv e 0 ≡ 44 → {alone fitting : Bool} → alone ≡ blank f → fitting ≡ field_fits (get_or widths n 0) f
          → Reading csv at (n + 1) (e + 1) alone (fit && fitting)
      reading-on comma a t = rw (a, t) (reading_step comma)

      -- no comma behind it: the row ends
      module _ (other : get_or csv e 0 ≡ 44 → ⊥) where
        none : rest ≡ []
        none = fields-none csv e other

        fault-e : row_fault (drop at csv) ≡ field_fault (drop (suc n) (forms_for fs)) (suc (suc n)) [] (is_ended (drop e csv))
        fault-e =
            on ∙ ap (λ (t : List (List ℕ)). field_fault (drop (suc n) (forms_for fs)) (suc (suc n)) t (is_ended (drop e csv))) none

        two-on : suc (suc n) ≡ n + 2
        two-on = omega arith

        early : (n ≡ 15 → ⊥) → row_fault (drop at csv) ≡ n + 2
        early below =
            fault-e
            ∙ (ap (λ (s : List (List ℕ → Bool)). field_fault s (suc (suc n)) [] (is_ended (drop e csv)))
            (drop-cons (forms_for fs) (suc n) no_form (omega (arith, below)))
            ∙ two-on)

        last-field : n ≡ 15 → row_fault (drop at csv) ≡ cond (is_ended (drop e csv)) 0 (n + 2)
        last-field e15 =
            fault-e
            ∙ (ap (λ (m : ℕ). field_fault (drop (suc m) (forms_for fs)) (suc (suc n)) [] (is_ended (drop e csv))) e15
            ∙ ap (λ (m : ℕ). cond (is_ended (drop e csv)) 0 m) two-on)

        no-fits : (s : List ℕ) → fields_fit s [] ≡ true
        no-fits [] = refl
        no-fits (w ∷ ws) = refl

        fits_all : row_fits (drop at csv) ≡ fits-now
        fits_all =
            fits-e
            ∙ (ap (λ (t : List (List ℕ)). fits-now && fields_fit (drop (suc n) widths) t) none
            ∙ (ap (λ (t : Bool). fits-now && t) (no-fits (drop (suc n) widths)) ∙ and-true fits-now))

        faulty-judges : row_fault (drop at csv) ≡ n + 2 → Judges csv at (Err (n + 2))
        faulty-judges q = record { is = sym q; some = omega arith }

        good-judges : n ≡ 15 → get_or csv e 0 ≡ 13 → Judges csv at (Ok (record { fits = fits-now; end = e + 2 }))
        good-judges e15 cr =
            record {
              sound = last-field e15 ∙ ap (λ (t : Bool). cond t 0 (n + 2)) (return-ended csv start e is cr);
              fits = sym fits_all;
              behind = sym (behind-e ∙ return-behind csv start e is cr);
              high = return-high csv start e is cr;
              on = omega (arith, r.low, is, end_low csv start);
            }

        pub reading-ends : Judges csv at (ended_row csv n e fits-now)
        reading-ends = by_last (eqb n 15) refl
          where
            by-return : (t : Bool) → n ≡ 15 → eqb (get_or csv e 0) 13 ≡ t
                → Judges csv at (cond t (Ok (record { fits = fits-now; end = e + 2 })) (Err (n + 2)))
            by-return true e15 cr = good-judges e15 (eqb-true (get_or csv e 0) 13 cr)
            by-return false e15 cr =
                faulty-judges
                (last-field e15
                ∙ ap (λ (t : Bool). cond t 0 (n + 2)) (other-ended csv start e is other (eqb-false (get_or csv e 0) 13 cr)))

            by_last : (t : Bool) → eqb n 15 ≡ t
                → Judges csv at
                (cond t
                (cond (eqb (get_or csv e 0) 13) (Ok (record { fits = fits-now; end = e + 2 })) (Err (n + 2)))
                (Err (n + 2)))
            by_last true q = by-return (eqb (get_or csv e 0) 13) (eqb-true n 15 q) refl
            by_last false q = faulty-judges (early (eqb-false n 15 q))
