-- Texts as fields: a text of a source, and a name with its descriptor, is read back as it was written.
-- Assumes nothing.
use Prim.Native.Nat.{ℕ, suc, ◌-◌, ◌≤◌}
use mathlib.Core.Path.{◌≡◌, refl, sym, ap, ◌∙◌}
use mathlib.Core.Bool.{Bool, true, false, not, ◌&&◌, ◌||◌, true≢false}
use mathlib.Core.List.{List, [], ◌∷◌, ◌++◌}
use native.Mathlib.Omega.{arith}
use borrow.Author.Tests.{le-leb, lt-leb, leb-true, eq-eqb, ne_eqb, eqb-false, not-true}
use lib.Dec.{eqb, leb}
use lib.ListN.{length, get_or}
use Rattle.field.specs.Test.{within, every}
use Rattle.field.specs.Text.{text_byte, blank, text_fault, filled_fault, keep, trim, from_end}
use Rattle.field.proofs.Tests.{and_left, and_right, range-low}
use Rattle.field.proofs.Faults.{no-fault}
use Rattle.field.proofs.Texts.{text-other, filled-other}
use Rattle.field.proofs.Parts.{every_append}
use Rattle.label.specs.Lines.{is_empty, street}
use Rattle.csv_paf.specs.Row.{plain_byte, plain}
use Rattle.csv_paf.specs.File.{is_text, is_filled}
use Rattle.csv_paf.proofs.Fields.{in_field}
use Rattle.pack.specs.Opening.{slot, text_good}
use Rattle.pack_sound.proofs.Texts.{trim-empty}

-- ---- bytes

-- a byte of a text that is no comma and no double quote
abbrev pub row_byte : ℕ → Bool
row_byte b = text_byte b && plain_byte b

-- so is one below the small letters, but for these two
pub row-byte : (b : ℕ) → 32 ≤ b → b ≤ 96 → (b ≡ 44 → ⊥) → (b ≡ 34 → ⊥) → row_byte b ≡ true
row-byte b low high comma quote =
    simp (
      le-leb 32 b low,
      le-leb b 126 (omega arith),
      lt-leb 97 b (omega arith),
      ne_eqb b 44 comma,
      ne_eqb b 34 quote,
    )

module _ (p q : ℕ → Bool) where
  pub every-both : (s : List ℕ) → every p s ≡ true → every q s ≡ true → every (λ b. p b && q b) s ≡ true
  every-both [] e f = refl
  every-both (x ∷ xs) e f =
      simp (
        and_left (p x) (every p xs) e,
        and_left (q x) (every q xs) f,
        every-both xs (and_right (p x) (every p xs) e) (and_right (q x) (every q xs) f),
      )

  pub every-then : ((b : ℕ) → p b ≡ true → q b ≡ true) → (s : List ℕ) → every p s ≡ true → every q s ≡ true
  every-then h [] e = refl
  every-then h (x ∷ xs) e =
      simp (h x (and_left (p x) (every p xs) e), every-then h xs (and_right (p x) (every p xs) e))

pub in-field : (s : List ℕ) → every row_byte s ≡ true → every in_field s ≡ true
in-field = every-then row_byte in_field each
  where
    each : (b : ℕ) → row_byte b ≡ true → in_field b ≡ true
    each b e =
        let text = and_left (text_byte b) (plain_byte b) e in
        let low = range-low 32 126 b (and_left (within 32 126 b) _ text) in
        simp (
          and_left (not (eqb b 44)) (not (eqb b 34)) (and_right (text_byte b) (plain_byte b) e),
          ne_eqb b 13 (λ is. omega arith),
        )

pub unquoted : (s : List ℕ) → every row_byte s ≡ true → every (λ b. not (eqb b 34)) s ≡ true
unquoted = every-then row_byte (λ b. not (eqb b 34)) each
  where
    each : (b : ℕ) → row_byte b ≡ true → not (eqb b 34) ≡ true
    each b e = and_right (not (eqb b 44)) (not (eqb b 34)) (and_right (text_byte b) (plain_byte b) e)

-- ---- texts

-- a text that is read back whole
pub record Whole (t : List ℕ) : Type 0 where
  pub bytes : every row_byte t ≡ true
  pub start : get_or t 0 0 ≡ 32 → ⊥
  pub end : trim t ≡ t

last-behind : (x y : ℕ) (ys : List ℕ) → from_end (x ∷ y ∷ ys) 1 ≡ from_end (y ∷ ys) 1
last-behind x y ys = rw (let z : suc (suc (length ys)) - 1 ≡ suc (suc (length ys) - 1) = omega arith in z)

kept : (t : Bool) (x y : ℕ) (ys : List ℕ) → keep t x (y ∷ ys) ≡ x ∷ y ∷ ys
kept true x y ys = refl
kept false x y ys = refl

-- nothing goes where the last byte is no space
trim-kept : (t : List ℕ) → (from_end t 1 ≡ 32 → ⊥) → trim t ≡ t
trim-kept [] n = refl
trim-kept (x ∷ []) n = rw (ne_eqb x 32 n)
trim-kept (x ∷ y ∷ ys) n =
    rw (trim-kept (y ∷ ys) (λ e. n (last-behind x y ys ∙ e))) (kept (eqb x 32) x y ys)

-- what is before such a text stays too
trim-append : (s : List ℕ) (y : ℕ) (ys : List ℕ) → trim (y ∷ ys) ≡ y ∷ ys → trim (s ++ (y ∷ ys)) ≡ s ++ (y ∷ ys)
trim-append [] y ys e = e
trim-append (x ∷ xs) y ys e = rw (trim-append xs y ys e) (front xs)
  where
    front : (s : List ℕ) → keep (eqb x 32) x (s ++ (y ∷ ys)) ≡ x ∷ (s ++ (y ∷ ys))
    front [] = kept (eqb x 32) x y ys
    front (z ∷ zs) = kept (eqb x 32) x z (zs ++ (y ∷ ys))

module _ (w : ℕ) (empty : Bool) (t : List ℕ) (good : text_good (slot w empty) t ≡ true) where
  abbrev behind-length : every text_byte t && (not (eqb (get_or t 0 0) 32) && (not (eqb (from_end t 1) 32) && (empty || not (is_empty t)))) ≡ true
  unfolding text_good
  behind-length = and_right (leb (length t) w) _ good

  ends : not (eqb (get_or t 0 0) 32) && (not (eqb (from_end t 1) 32) && (empty || not (is_empty t))) ≡ true
  ends = and_right (every text_byte t) _ behind-length

  rest : not (eqb (from_end t 1) 32) && (empty || not (is_empty t)) ≡ true
  rest = and_right (not (eqb (get_or t 0 0) 32)) _ ends

  pub good-whole : plain t ≡ true → Whole t
  good-whole e =
      record {
        bytes = every-both text_byte plain_byte t (and_left (every text_byte t) _ behind-length) e;
        start = eqb-false (get_or t 0 0) 32 (not-true (eqb (get_or t 0 0) 32) (and_left _ _ ends));
        end = trim-kept t (eqb-false (from_end t 1) 32 (not-true (eqb (from_end t 1) 32) (and_left _ _ rest)));
      }

  pub good-long : length t ≤ w
  unfolding text_good
  good-long = leb-true (length t) w (and_left (leb (length t) w) _ good)

  pub good-empty : empty || not (is_empty t) ≡ true
  good-empty = and_right (not (eqb (from_end t 1) 32)) _ rest

pub whole-text : (t : List ℕ) → Whole t → is_text t ≡ true
unfolding text_fault
whole-text [] w = refl
whole-text (x ∷ xs) w =
    eq-eqb (text_fault (x ∷ xs)) 0
    (text-other (x ∷ xs) (ne_eqb x 32 w.start)
    ∙ no-fault text_byte (x ∷ xs) 1 (every-then row_byte text_byte (λ b. and_left (text_byte b) (plain_byte b)) (x ∷ xs) w.bytes))

pub whole-filled : (t : List ℕ) → Whole t → is_empty t ≡ false → is_filled t ≡ true
whole-filled [] w e = absurd (true≢false e)
whole-filled (x ∷ xs) w e =
    eq-eqb (filled_fault (x ∷ xs)) 0
    (filled-other (x ∷ xs) (ne_eqb x 32 w.start)
    ∙ no-fault text_byte (x ∷ xs) 1 (every-then row_byte text_byte (λ b. and_left (text_byte b) (plain_byte b)) (x ∷ xs) w.bytes))

pub whole-blank : (t : List ℕ) → Whole t → blank t ≡ is_empty t
whole-blank t w = sym (trim-empty t) ∙ ap is_empty w.end

-- a name and its descriptor
pub street-whole : (name descriptor : List ℕ) → Whole name → Whole descriptor
    → not (is_empty name) || is_empty descriptor ≡ true
    → Whole (street name descriptor)
street-whole name [] n d own = n
street-whole [] (x ∷ xs) n d own = absurd (true≢false (sym own))
street-whole (y ∷ ys) (x ∷ xs) n d own =
    record {
      bytes = every_append row_byte (y ∷ ys) (32 ∷ x ∷ xs) n.bytes d.bytes;
      start = n.start;
      end = trim-append (y ∷ ys) 32 (x ∷ xs) (rw d.end);
    }

-- is there where the name is
pub street-empty : (name descriptor : List ℕ) → not (is_empty name) || is_empty descriptor ≡ true
    → is_empty (street name descriptor) ≡ is_empty name
street-empty name [] own = refl
street-empty [] (x ∷ xs) own = absurd (true≢false (sym own))
street-empty (y ∷ ys) (x ∷ xs) own = refl
