-- Fields one behind the other: what a row is behind its first field.
-- Assumes nothing.
use Prim.Native.Nat.{ℕ, zero, suc, ◌+◌, ◌-◌, ◌≤◌, ◌<◌}
use mathlib.Core.Path.{◌≡◌, refl, sym, ap, ap₂, subst, ◌∙◌}
use mathlib.Core.Bool.{Bool, true, false, cond, ◌&&◌, ◌||◌, true≢false}
use mathlib.Core.List.{List, [], ◌∷◌}
use native.Mathlib.Omega.{arith}
use native.Mathlib.Numerals.{add-one}
use borrow.Author.Tests.{ltb-true, ltb-false, eqb-true, ne_eqb}
use lib.Dec.{eqb, ltb}
use lib.ListN.{length, take, drop, get_or, length-drop, drop_of_length-le}
use lib.Seq.{drop-cons, drop-drop}
use Rattle.field.specs.Text.{part}
use Rattle.csv_paf.specs.File.{starts_with, row_ends, onto, fields_of, is_ended, behind_row}
use Rattle.csv_read.specs.Cut.{ends_field, field_length, more_fields, field_end}

-- where a row ends there is no comma
front-true : (a b : Bool) → a && b ≡ true → a ≡ true
front-true true b e = refl
front-true false b e = e

or-false : (a : Bool) → a || false ≡ a
or-false true = refl
or-false false = refl

no-comma : (x : ℕ) (xs : List ℕ) → row_ends x xs ≡ true → eqb x 44 ≡ false
no-comma x xs e = ap (λ (n : ℕ). eqb n 44) (eqb-true x 13 (front-true (eqb x 13) (starts_with 10 xs) e))

-- ---- the first field, and what is behind it

pub fields-first : (bytes : List ℕ)
    → fields_of bytes ≡ take (field_length bytes) bytes ∷ more_fields (drop (field_length bytes) bytes)
fields-first [] = refl
fields-first (x ∷ xs) = by-test (row_ends x xs) (eqb x 44) refl refl (fields-first xs)
  where
    by-test : (p q : Bool) → row_ends x xs ≡ p → eqb x 44 ≡ q → fields_of xs ≡ take (field_length xs) xs ∷ more_fields (drop (field_length xs) xs)
        → fields_of (x ∷ xs)
        ≡ take (field_length (x ∷ xs)) (x ∷ xs) ∷ more_fields (drop (field_length (x ∷ xs)) (x ∷ xs))
    by-test true q e f more = simp (e, no-comma x xs e)
    by-test false true e f more = simp (e, f)
    by-test false false e f more = rw (e, f) (ap (onto x) more)

pub ended-first : (bytes : List ℕ) → is_ended bytes ≡ is_ended (drop (field_length bytes) bytes)
ended-first [] = refl
ended-first (x ∷ xs) = by-test (row_ends x xs) (eqb x 44) refl refl (ended-first xs)
  where
    by-test : (p q : Bool) → row_ends x xs ≡ p → eqb x 44 ≡ q → is_ended xs ≡ is_ended (drop (field_length xs) xs)
        → is_ended (x ∷ xs) ≡ is_ended (drop (field_length (x ∷ xs)) (x ∷ xs))
    by-test true q e f more = simp (e, no-comma x xs e)
    by-test false true e f more = simp (e, f)
    by-test false false e f more = rw (e, f) more

pub behind-first : (bytes : List ℕ) → behind_row bytes ≡ behind_row (drop (field_length bytes) bytes)
behind-first [] = refl
behind-first (x ∷ xs) = by-test (row_ends x xs) (eqb x 44) refl refl (behind-first xs)
  where
    by-test : (p q : Bool) → row_ends x xs ≡ p → eqb x 44 ≡ q → behind_row xs ≡ behind_row (drop (field_length xs) xs)
        → behind_row (x ∷ xs) ≡ behind_row (drop (field_length (x ∷ xs)) (x ∷ xs))
    by-test true q e f more = simp (e, no-comma x xs e)
    by-test false true e f more = simp (e, f)
    by-test false false e f more = rw (e, f) more

-- ---- by the place of a byte

starts-get_d : (s : List ℕ) → eqb (get_or s 0 0) 10 ≡ starts_with 10 s
starts-get_d [] = refl
starts-get_d (x ∷ xs) = refl

get_d-drop-first : (s : List ℕ) (i : ℕ) → get_or (drop i s) 0 0 ≡ get_or s i 0
get_d-drop-first s zero = refl
get_d-drop-first [] (suc i) = refl
get_d-drop-first (x ∷ xs) (suc i) = get_d-drop-first xs i

-- at a CR the byte behind it decides, at any other whether it is a comma
pub at_return : (csv : List ℕ) (i : ℕ) → get_or csv i 0 ≡ 13
    → ends_field (get_or csv i 0) (drop (i + 1) csv) ≡ eqb (get_or csv (i + 1) 0) 10
at_return csv i e = rw (e) (sym (starts-get_d (drop (i + 1) csv)) ∙ ap (λ (b : ℕ). eqb b 10) (get_d-drop-first csv (i + 1)))

pub at_other : (csv : List ℕ) (i : ℕ) → (get_or csv i 0 ≡ 13 → ⊥)
    → ends_field (get_or csv i 0) (drop (i + 1) csv) ≡ eqb (get_or csv i 0) 44
at_other csv i e = rw (ne_eqb (get_or csv i 0) 13 e) (or-false (eqb (get_or csv i 0) 44))

module _ (csv : List ℕ) (i : ℕ) (h : i < length csv) where
  pub length-stop : ends_field (get_or csv i 0) (drop (i + 1) csv) ≡ true → field_length (drop i csv) ≡ 0
  length-stop e =
      let f = rw (add-one) at e in
      ap field_length (drop-cons csv i 0 h) ∙ ap (λ (t : Bool). cond t 0 (suc (field_length (drop (suc i) csv)))) f

  pub length-step : ends_field (get_or csv i 0) (drop (i + 1) csv) ≡ false
      → field_length (drop i csv) ≡ suc (field_length (drop (i + 1) csv))
  length-step e =
      let f = rw (add-one) at e in
      rw (add-one)
      (ap field_length (drop-cons csv i 0 h) ∙ ap (λ (t : Bool). cond t 0 (suc (field_length (drop (suc i) csv)))) f)

pub length-end : (csv : List ℕ) (i : ℕ) → length csv ≤ i → field_length (drop i csv) ≡ 0
length-end csv i h = ap field_length (drop_of_length-le csv {i = i} h)

-- ---- by the place of a field

field_length-within : (bytes : List ℕ) → field_length bytes ≤ length bytes
field_length-within [] = omega arith
field_length-within (x ∷ xs) = by-test (ends_field x xs) (field_length-within xs)
  where
    by-test : (t : Bool) → field_length xs ≤ length xs → cond t 0 (suc (field_length xs)) ≤ suc (length xs)
    by-test true h = omega arith
    by-test false h = omega (arith, h)

byte-within : (s : List ℕ) (i b : ℕ) → get_or s i 0 ≡ b → (b ≡ 0 → ⊥) → i < length s
byte-within [] i b e h = absurd (h (sym e))
byte-within (x ∷ xs) zero b e h = omega arith
byte-within (x ∷ xs) (suc i) b e h = let m = byte-within xs i b e h in omega (arith, m)

module _ (csv : List ℕ) (start : ℕ) where
  pub end_low : start ≤ field_end csv start
  unfolding field_end
  end_low = omega arith

  pub end-within : start ≤ length csv → field_end csv start ≤ length csv
  unfolding field_end
  end-within h = omega (arith, h, field_length-within (drop start csv), length-drop start csv)

  pub fields_at : fields_of (drop start csv)
      ≡ part csv start (field_end csv start) ∷ more_fields (drop (field_end csv start) csv)
  unfolding field_end
  fields_at =
      fields-first (drop start csv)
      ∙ ap₂ (λ (n : ℕ) (rest : List ℕ). take n (drop start csv) ∷ more_fields rest) size
      (drop-drop (field_length (drop start csv)) start csv)
    where
      size : field_length (drop start csv) ≡ start + field_length (drop start csv) - start
      size = omega arith

  pub ended_at : is_ended (drop start csv) ≡ is_ended (drop (field_end csv start) csv)
  unfolding field_end
  ended_at = ended-first (drop start csv) ∙ ap is_ended (drop-drop (field_length (drop start csv)) start csv)

  pub behind-at : behind_row (drop start csv) ≡ behind_row (drop (field_end csv start) csv)
  unfolding field_end
  behind-at = behind-first (drop start csv) ∙ ap behind_row (drop-drop (field_length (drop start csv)) start csv)

-- what ends a field, where a byte does
abbrev Stops : List ℕ → Type 0
Stops [] = Unit {0}
Stops (x ∷ xs) = ends_field x xs ≡ true

stops : (bytes : List ℕ) → Stops (drop (field_length bytes) bytes)
stops [] = tt
stops (x ∷ xs) = by-test (ends_field x xs) refl (stops xs)
  where
    by-test : (t : Bool) → ends_field x xs ≡ t → Stops (drop (field_length xs) xs)
        → Stops (drop (cond t 0 (suc (field_length xs))) (x ∷ xs))
    by-test true e more = e
    by-test false e more = more

pub end-stops : (csv : List ℕ) (start : ℕ) → field_end csv start < length csv
    → ends_field (get_or csv (field_end csv start) 0) (drop (suc (field_end csv start)) csv) ≡ true
unfolding field_end
end-stops csv start h =
    subst Stops
    (drop-drop (field_length (drop start csv)) start csv ∙ drop-cons csv (start + field_length (drop start csv)) 0 h)
    (stops (drop start csv))

-- behind a comma
module _ (csv : List ℕ) (e : ℕ) (comma : get_or csv e 0 ≡ 44) where
  pub comma-within : e < length csv
  comma-within = byte-within csv e 44 comma (λ z. omega arith)

  from-comma : drop e csv ≡ 44 ∷ drop (suc e) csv
  from-comma = drop-cons csv e 0 comma-within ∙ ap (λ (b : ℕ). b ∷ drop (suc e) csv) comma

  pub fields-behind : more_fields (drop e csv) ≡ fields_of (drop (e + 1) csv)
  fields-behind = rw (add-one) (ap more_fields from-comma)

  pub ended-behind : is_ended (drop e csv) ≡ is_ended (drop (e + 1) csv)
  ended-behind = rw (add-one) (ap is_ended from-comma)

  pub row-behind : behind_row (drop e csv) ≡ behind_row (drop (e + 1) csv)
  row-behind = rw (add-one) (ap behind_row from-comma)

-- and where there is none
more-first : (s : List ℕ) → (get_or s 0 0 ≡ 44 → ⊥) → more_fields s ≡ []
more-first [] h = refl
more-first (x ∷ xs) h = rw (ne_eqb x 44 h) refl

pub fields-none : (csv : List ℕ) (e : ℕ) → (get_or csv e 0 ≡ 44 → ⊥) → more_fields (drop e csv) ≡ []
fields-none csv e h = more-first (drop e csv) (λ z. h (sym (get_d-drop-first csv e) ∙ z))

-- ---- by the number of a field, counted from 0

module _ (csv : List ℕ) (start e : ℕ) (is : e ≡ field_end csv start) where
  pub first-as : fields_of (drop start csv) ≡ part csv start e ∷ more_fields (drop e csv)
  first-as =
      fields_at csv start ∙ ap (λ (n : ℕ). part csv start n ∷ more_fields (drop n csv)) (sym is)

  pub this-field : get_or (fields_of (drop start csv)) 0 [] ≡ part csv start e
  this-field = ap (λ (fs : List (List ℕ)). get_or fs 0 []) first-as

  pub next_field : (n : ℕ) → get_or csv e 0 ≡ 44
      → get_or (fields_of (drop start csv)) (suc n) [] ≡ get_or (fields_of (drop (e + 1) csv)) n []
  next_field n comma =
      ap (λ (fs : List (List ℕ)). get_or fs (suc n) []) first-as
      ∙ ap (λ (fs : List (List ℕ)). get_or fs n []) (fields-behind csv e comma)

  pub no_field : (n : ℕ) → (get_or csv e 0 ≡ 44 → ⊥) → get_or (fields_of (drop start csv)) (suc n) [] ≡ []
  no_field n other =
      ap (λ (fs : List (List ℕ)). get_or fs (suc n) []) first-as
      ∙ ap (λ (fs : List (List ℕ)). get_or fs n []) (fields-none csv e other)

-- ---- CR LF behind a field

second-true : (a b : Bool) → a && b ≡ true → b ≡ true
second-true true b e = e
second-true false b e = absurd (true≢false (sym e))

starts-nonempty : (s : List ℕ) → starts_with 10 s ≡ true → 1 ≤ length s
starts-nonempty [] e = absurd (true≢false (sym e))
starts-nonempty (x ∷ xs) e = omega arith

module _ (csv : List ℕ) (start e : ℕ) (is : e ≡ field_end csv start) where
  stop-at : e < length csv → ends_field (get_or csv e 0) (drop (suc e) csv) ≡ true
  stop-at h = rw (is) (end-stops csv start (rw (is) at h))

  module _ (r : get_or csv e 0 ≡ 13) where
    return-within : e < length csv
    return-within = byte-within csv e 13 r (λ z. omega arith)

    line-feed : starts_with 10 (drop (suc e) csv) ≡ true
    line-feed = rw (r) at (stop-at return-within)

    from-return : drop e csv ≡ 13 ∷ drop (suc e) csv
    from-return = drop-cons csv e 0 return-within ∙ ap (λ (b : ℕ). b ∷ drop (suc e) csv) r

    pub return-ended : is_ended (drop e csv) ≡ true
    return-ended = ap is_ended from-return ∙ ap (λ (t : Bool). cond t true (is_ended (drop (suc e) csv))) line-feed

    pub return-behind : behind_row (drop e csv) ≡ drop (e + 2) csv
    return-behind =
        ap behind_row from-return
        ∙ (ap (λ (t : Bool). cond t (drop 1 (drop (suc e) csv)) (behind_row (drop (suc e) csv))) line-feed
        ∙ (drop-drop 1 (suc e) csv ∙ ap (λ (n : ℕ). drop n csv) two))
      where
        two : suc e + 1 ≡ e + 2
        two = omega arith

    pub return-high : e + 2 ≤ length csv
    return-high = omega (arith, starts-nonempty (drop (suc e) csv) line-feed, length-drop (suc e) csv)

  pub other-ended : (get_or csv e 0 ≡ 44 → ⊥) → (get_or csv e 0 ≡ 13 → ⊥) → is_ended (drop e csv) ≡ false
  other-ended comma return = by-test (ltb e (length csv)) refl
    where
      by-test : (t : Bool) → ltb e (length csv) ≡ t → is_ended (drop e csv) ≡ false
      by-test true h =
          absurd
          (true≢false
          (sym (stop-at (ltb-true e (length csv) h))
          ∙ rw (ne_eqb (get_or csv e 0) 44 comma, ne_eqb (get_or csv e 0) 13 return) refl))
      by-test false h = ap is_ended (drop_of_length-le csv {i = e} (ltb-false e (length csv) h))
