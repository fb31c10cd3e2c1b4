-- Laws of bytes as one number.
-- Assumes nothing.
use Rattle.std.proofs.Common.{◌≡◌, ℕ, zero, suc, ◌+◌, ◌-◌, ◌*◌, ◌/◌, ◌%◌, ◌^◌, ◌<◌, ◌≤◌, Bool, true, false, ◌&&◌, eqb, List, [], ◌∷◌, ◌++◌, length, get_or, take, drop, sym, refl, ap, ◌∙◌, ap₂, mul-le-mul_right, suc-mul, mul_comm, pow-suc, add-one, arith, length-append, drop-cons, eq-eqb, ne_eqb, eqb-true}
use native.Mathlib.Nat.{pow-zero}
use borrow.Author.Tests.{eqb-false}
use Rattle.field.specs.Test.{only}
use Rattle.field.specs.Text.{part}
use Rattle.field.proofs.Values.{outweighs}
use Rattle.field.proofs.Parts.{part_join}
use Rattle.field_word.specs.Word.{word, weight, Bytes, Word}

-- a byte and those behind it
pub taken : (s : List ℕ) (i j n : ℕ) → j ≡ i + 1 → i < length s → take (suc n) (drop i s) ≡ get_or s i 0 ∷ take n (drop j s)
taken s i j n e h = rw (e, add-one, drop-cons s i 0 h)

pub four_bytes : (s : List ℕ) (i : ℕ) → i + 4 ≤ length s
    → part s i (i + 4) ≡ get_or s i 0 ∷ get_or s (i + 1) 0 ∷ get_or s (i + 2) 0 ∷ get_or s (i + 3) 0 ∷ []
four_bytes s i h =
    let four : i + 4 - i ≡ 4 = omega arith in
    rw four
    (taken s i (i + 1) 3 refl (omega arith)
    ∙ ap (λ l. get_or s i 0 ∷ l)
    (taken s (i + 1) (i + 2) 2 (omega arith) (omega arith)
    ∙ ap (λ l. get_or s (i + 1) 0 ∷ l)
    (taken s (i + 2) (i + 3) 1 (omega arith) (omega arith)
    ∙ ap (λ l. get_or s (i + 2) 0 ∷ l) (taken s (i + 3) (i + 4) 0 (omega arith) (omega arith)))))

-- four bytes that were read one by one
pub four-word : (s : List ℕ) (i a b c d : ℕ) → i + 4 ≤ length s
    → (a ≡ get_or s i 0) × (a < 256)
    → (b ≡ get_or s (i + 1) 0) × (b < 256)
    → (c ≡ get_or s (i + 2) 0) × (c < 256)
    → (d ≡ get_or s (i + 3) 0) × (d < 256)
    → Word (part s i (i + 4)) (a + b * 256 + c * 65_536 + d * 16_777_216)
four-word s i a b c d h p q r t =
    rw (four_bytes s i h, ← p.0, ← q.0, ← r.0, ← t.0)
    (record { is = omega arith; small = (p.1, (q.1, (r.1, (t.1, tt)))) })

-- eight bytes are four and four
module _ (s : List ℕ) (i : ℕ) where
  eight-part : part s i (i + 8) ≡ part s i (i + 4) ++ part s (i + 4) (i + 4 + 4)
  eight-part =
      let end : i + 4 + 4 ≡ i + 8 = omega arith in
      rw end (part_join s i (i + 4) (i + 8) (omega arith) (omega arith))

word_on : (x : List ℕ) (y : List ℕ) → length x ≡ 4 → word (x ++ y) ≡ word x + word y * 4_294_967_296
word_on [] y e = absurd (omega arith)
word_on (a ∷ []) y e = absurd (omega arith)
word_on (a ∷ b ∷ []) y e = absurd (omega arith)
word_on (a ∷ b ∷ c ∷ []) y e = absurd (omega arith)
word_on (a ∷ b ∷ c ∷ d ∷ []) y e = omega arith
word_on (a ∷ b ∷ c ∷ d ∷ x ∷ xs) y e = absurd (omega arith)

bytes_on : (x y : List ℕ) → Bytes x → Bytes y → Bytes (x ++ y)
bytes_on [] y p q = q
bytes_on (a ∷ x) y p q = (p.0, bytes_on x y p.1 q)

pub part-four : (s : List ℕ) (i : ℕ) → i + 4 ≤ length s → length (part s i (i + 4)) ≡ 4
part-four s i h = ap length (four_bytes s i h)

pub eight-word : (s : List ℕ) (i x y : ℕ) → i + 8 ≤ length s → Word (part s i (i + 4)) x → Word (part s (i + 4) (i + 4 + 4)) y
    → Word (part s i (i + 8)) (x + y * 4_294_967_296)
eight-word s i x y h p q =
    rw (eight-part s i)
    (record {
      is =
          ap₂ (λ m n. m + n * 4_294_967_296) p.is q.is
          ∙ sym (word_on (part s i (i + 4)) (part s (i + 4) (i + 4 + 4)) (part-four s i (omega arith)));
      small = bytes_on (part s i (i + 4)) (part s (i + 4) (i + 4 + 4)) p.small q.small;
    })

-- four bytes are below this
four_below : (x : List ℕ) → length x ≡ 4 → Bytes x → word x < 4_294_967_296
four_below [] e p = absurd (omega arith)
four_below (a ∷ []) e p = absurd (omega arith)
four_below (a ∷ b ∷ []) e p = absurd (omega arith)
four_below (a ∷ b ∷ c ∷ []) e p = absurd (omega arith)
four_below (a ∷ b ∷ c ∷ d ∷ []) e p = omega arith
four_below (a ∷ b ∷ c ∷ d ∷ x ∷ xs) e p = absurd (omega arith)

pub four-fits : (s : List ℕ) (i x : ℕ) → i + 4 ≤ length s → Word (part s i (i + 4)) x → x < 4_294_967_296
four-fits s i x h p =
    omega (arith, p.is, four_below (part s i (i + 4)) (part-four s i h) p.small)

-- the number that so many of one byte are
abbrev pub row : ℕ → ℕ → ℕ
row b zero = 0
row b (suc n) = b + 256 * row b n

module _ (b : ℕ) (small : b < 256) where
  one_more : (x m n : ℕ) → x < 256 → eqb (x + 256 * m) (b + 256 * n) ≡ eqb x b && eqb m n
  one_more x m n h = by_tests (eqb x b) (eqb m n) refl refl
    where
      by_tests : (p q : Bool) → eqb x b ≡ p → eqb m n ≡ q → eqb (x + 256 * m) (b + 256 * n) ≡ p && q
      by_tests true true e f =
          eq-eqb (x + 256 * m) (b + 256 * n) (omega (arith, eqb-true x b e, eqb-true m n f))
      by_tests true false e f =
          ne_eqb (x + 256 * m) (b + 256 * n) (λ z. eqb-false m n f (omega (arith, eqb-true x b e)))
      by_tests false q e f =
          ne_eqb (x + 256 * m) (b + 256 * n) (λ z. eqb-false x b e (omega arith))

  only-word : (s : List ℕ) → Bytes s → eqb (word s) (row b (length s)) ≡ only b s
  only-word [] p = refl
  only-word (x ∷ xs) p =
      one_more x (word xs) (row b (length xs)) p.0 ∙ ap (λ t. eqb x b && t) (only-word xs p.1)

  -- whether all bytes are that one, by their number
  pub only-is : (s : List ℕ) (n w : ℕ) → length s ≡ n → Word s w → eqb w (row b n) ≡ only b s
  only-is s n w e p = rw (p.is, ← e) (only-word s p.small)

pub part-eight : (s : List ℕ) (i : ℕ) → i + 8 ≤ length s → length (part s i (i + 8)) ≡ 8
part-eight s i h =
    ap length (eight-part s i)
    ∙ (length-append (part s i (i + 4)) (part s (i + 4) (i + 4 + 4))
    ∙ ap₂ ◌+◌ (part-four s i (omega arith)) (part-four s (i + 4) (omega arith)))

-- the first n bytes of a number, in the other order
abbrev pub turn : ℕ → ℕ → ℕ
turn zero w = 0
turn (suc n) w = w % 256 * 256 ^ n + turn n (w / 256)

turn-word : (s : List ℕ) → Bytes s → turn (length s) (word s) ≡ weight s
turn-word [] p = refl
turn-word (x ∷ xs) p =
    let low : (x + 256 * word xs) % 256 ≡ x = omega (arith, p.0) in
    let high : (x + 256 * word xs) / 256 ≡ word xs = omega (arith, p.0) in
    rw (low, high, turn-word xs p.1)

pub turned-is : (s : List ℕ) (w r : ℕ) → length s ≡ 8 → Word s w → r ≡ turn 8 w → r ≡ weight s
turned-is s w r e p h = h ∙ (ap₂ turn (sym e) p.is ∙ turn-word s p.small)

-- bytes are told by their number
pub same-words : (x y : List ℕ) → length x ≡ length y → Bytes x → Bytes y → word x ≡ word y → x ≡ y
same-words [] [] e p q h = refl
same-words [] (b ∷ y) e p q h = absurd (omega arith)
same-words (a ∷ x) [] e p q h = absurd (omega arith)
same-words (a ∷ x) (b ∷ y) e p q h =
    ap₂ ◌∷◌ (omega (arith, p.0, q.0))
    (same-words x y (omega arith) p.1 q.1 (omega (arith, p.0, q.0)))

-- a byte outweighs all that is behind it
pub weight-bound : (s : List ℕ) → Bytes s → weight s < 256 ^ length s
weight-bound [] p = rw (pow-zero 256) (omega arith)
weight-bound (x ∷ xs) p =
    let power = 256 ^ length xs in
    let most : suc x * power ≤ 256 * power = mul-le-mul_right power p.0 in
    rw (pow-suc 256 (length xs), mul_comm power 256) (omega (arith, suc-mul x power, weight-bound xs p.1))

-- a first byte that is less weighs less
pub lighter : (a b : ℕ) (x y : List ℕ) → length x ≡ length y → Bytes x → a < b → weight (a ∷ x) < weight (b ∷ y)
lighter a b x y e p h =
    rw (← e) (outweighs b a (256 ^ length x) (weight y) (weight x) h (weight-bound x p))
