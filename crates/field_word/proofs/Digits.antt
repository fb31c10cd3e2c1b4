-- Digits as bytes of a number: what they say, and that they weigh as they say.
-- Assumes nothing.
use Rattle.std.proofs.Common.{◌≡◌, ℕ, suc, ◌+◌, ◌-◌, ◌*◌, ◌/◌, ◌%◌, ◌^◌, ◌≤◌, Bool, true, false, ltb, List, [], ◌∷◌, ◌++◌, length, sym, refl, ◌∙◌, ap₂, add_assoc, mul_assoc, add-mul, pow-suc, arith, length-append, ltb-false, ltb-true, le-ltb, lt-ltb}
use native.Mathlib.Nat.{pow-zero}
use Rattle.field.specs.Test.{every}
use Rattle.field.specs.Digits.{digit, digit_value, value_from}
use Rattle.field.proofs.Tests.{and_left, and_right, range-high}
use Rattle.field.proofs.Values.{digit-to-9, digit-again, first-digit, first-less}
use Rattle.field_word.specs.Word.{word, weight, Bytes, Word}
use Rattle.field_word.proofs.Laws.{row, lighter}

-- four pairs of digits, taken from eight bytes at once
abbrev pub pairs_of : ℕ → ℕ
pairs_of y =
    y % 256 * 1_000_000 + y / 65_536 % 256 * 10_000 + (y / 65_536 / 65_536 % 256 * 100 + y / 65_536 / 65_536 / 65_536 % 256)

-- the first of two bytes and what is behind both
front-byte : (x z m : ℕ) → x ≤ 99 → (x + 256 * (z + 256 * m)) % 256 ≡ x
front-byte x z m p = omega arith

behind-two : (x z m : ℕ) → x ≤ 99 → z ≤ 99 → (x + 256 * (z + 256 * m)) / 65_536 ≡ m
behind-two x z m p q = omega arith

pair : (a b : ℕ) → a ≤ 9 → b ≤ 9 → a * 10 + b ≤ 99
pair a b p q = omega arith

module _ (a b c d e f g h : ℕ) where
  abbrev eight : ℕ
  eight = a + 256 * (b + 256 * (c + 256 * (d + 256 * (e + 256 * (f + 256 * (g + 256 * h))))))

  module _ (p : a ≤ 9) (q : b ≤ 9) (r : c ≤ 9) (s : d ≤ 9) (t : e ≤ 9) (u : f ≤ 9) (v : g ≤ 9) (w : h ≤ 9) where
    abbrev last : ℕ
    last = (g * 10 + h) + 256 * (h * 10 + 256 * 0)

    abbrev later : ℕ
    later = (e * 10 + f) + 256 * ((f * 10 + g) + 256 * last)

    abbrev most : ℕ
    most = (c * 10 + d) + 256 * ((d * 10 + e) + 256 * later)

    abbrev all : ℕ
    all = (a * 10 + b) + 256 * ((b * 10 + c) + 256 * most)

    pairs-are : eight * 10 + eight / 256 ≡ all
    pairs-are =
        let high : eight / 256 ≡ b + 256 * (c + 256 * (d + 256 * (e + 256 * (f + 256 * (g + 256 * h))))) = omega arith in
        omega arith

    pub pairs-say : pairs_of (eight * 10 + eight / 256)
        ≡ ((((((a * 10 + b) * 10 + c) * 10 + d) * 10 + e) * 10 + f) * 10 + g) * 10 + h
    pairs-say =
        rw (
          pairs-are,
          front-byte (a * 10 + b) (b * 10 + c) most (pair a b p q),
          behind-two (a * 10 + b) (b * 10 + c) most (pair a b p q) (pair b c q r),
          front-byte (c * 10 + d) (d * 10 + e) later (pair c d r s),
          behind-two (c * 10 + d) (d * 10 + e) later (pair c d r s) (pair d e s t),
          front-byte (e * 10 + f) (f * 10 + g) last (pair e f t u),
          behind-two (e * 10 + f) (f * 10 + g) last (pair e f t u) (pair f g u v),
          front-byte (g * 10 + h) (h * 10) 0 (pair g h v w),
        )
        said
      where
        said : (a * 10 + b) * 1_000_000 + (c * 10 + d) * 10_000 + ((e * 10 + f) * 100 + (g * 10 + h))
            ≡ ((((((a * 10 + b) * 10 + c) * 10 + d) * 10 + e) * 10 + f) * 10 + g) * 10 + h
        said = omega arith

-- the digits of a list, and that they are digits
digit-first : (x : ℕ) (s : List ℕ) → every digit (x ∷ s) ≡ true → 48 + digit_value x ≡ x
digit-first x s e = digit-again x (and_left (digit x) (every digit s) e)

digits-rest : (x : ℕ) (s : List ℕ) → every digit (x ∷ s) ≡ true → every digit s ≡ true
digits-rest x s e = and_right (digit x) (every digit s) e

-- the number that digits are
digits-least : (s : List ℕ) → every digit s ≡ true → row 48 (length s) ≤ word s
digits-least [] e = omega arith
digits-least (x ∷ s) e = omega (arith, digit-first x s e, digits-least s (digits-rest x s e))

digits-most : (s : List ℕ) → every digit s ≡ true → word s ≤ row 57 (length s)
digits-most [] e = omega arith
digits-most (x ∷ s) e = omega (arith, digit-first x s e, digit-to-9 x, digits-most s (digits-rest x s e))

pub eight-between : (s : List ℕ) (w : ℕ) → length s ≡ 8 → every digit s ≡ true → Word s w → (row 48 8 ≤ w) × (w ≤ row 57 8)
eight-between s w n e p =
    (omega (arith, p.is, rw n at (digits-least s e)), omega (arith, p.is, rw n at (digits-most s e)))

-- eight digits, by the number that they are
pub eight-value : (s : List ℕ) (w : ℕ) → length s ≡ 8 → every digit s ≡ true → Word s w
    → pairs_of ((w - row 48 8) * 10 + (w - row 48 8) / 256) ≡ value_from 0 s
eight-value [] w n e p = absurd (omega arith)
eight-value (a ∷ []) w n e p = absurd (omega arith)
eight-value (a ∷ b ∷ []) w n e p = absurd (omega arith)
eight-value (a ∷ b ∷ c ∷ []) w n e p = absurd (omega arith)
eight-value (a ∷ b ∷ c ∷ d ∷ []) w n e p = absurd (omega arith)
eight-value (a ∷ b ∷ c ∷ d ∷ f ∷ []) w n e p = absurd (omega arith)
eight-value (a ∷ b ∷ c ∷ d ∷ f ∷ g ∷ []) w n e p = absurd (omega arith)
eight-value (a ∷ b ∷ c ∷ d ∷ f ∷ g ∷ h ∷ []) w n e p = absurd (omega arith)
eight-value (a ∷ b ∷ c ∷ d ∷ f ∷ g ∷ h ∷ i ∷ []) w n e p =
    let behind-first = digits-rest a (b ∷ c ∷ d ∷ f ∷ g ∷ h ∷ i ∷ []) e in
    let behind-second = digits-rest b (c ∷ d ∷ f ∷ g ∷ h ∷ i ∷ []) behind-first in
    let behind-third = digits-rest c (d ∷ f ∷ g ∷ h ∷ i ∷ []) behind-second in
    let behind-fourth = digits-rest d (f ∷ g ∷ h ∷ i ∷ []) behind-third in
    let behind-fifth = digits-rest f (g ∷ h ∷ i ∷ []) behind-fourth in
    let behind-sixth = digits-rest g (h ∷ i ∷ []) behind-fifth in
    let behind-seventh = digits-rest h (i ∷ []) behind-sixth in
    let is : w - row 48 8
    ≡ eight (digit_value a) (digit_value b) (digit_value c) (digit_value d) (digit_value f) (digit_value g) (digit_value h) (digit_value i) =
    omega (
      arith,
      p.is,
      digit-first a (b ∷ c ∷ d ∷ f ∷ g ∷ h ∷ i ∷ []) e,
      digit-first b (c ∷ d ∷ f ∷ g ∷ h ∷ i ∷ []) behind-first,
      digit-first c (d ∷ f ∷ g ∷ h ∷ i ∷ []) behind-second,
      digit-first d (f ∷ g ∷ h ∷ i ∷ []) behind-third,
      digit-first f (g ∷ h ∷ i ∷ []) behind-fourth,
      digit-first g (h ∷ i ∷ []) behind-fifth,
      digit-first h (i ∷ []) behind-sixth,
      digit-first i [] behind-seventh,
    ) in
    rw is
    (pairs-say (digit_value a) (digit_value b) (digit_value c) (digit_value d) (digit_value f) (digit_value g) (digit_value h)
    (digit_value i) (digit-to-9 a) (digit-to-9 b) (digit-to-9 c) (digit-to-9 d) (digit-to-9 f) (digit-to-9 g) (digit-to-9 h)
    (digit-to-9 i)
    ∙ omega arith)
eight-value (a ∷ b ∷ c ∷ d ∷ f ∷ g ∷ h ∷ i ∷ j ∷ s) w n e p = absurd (omega arith)

-- a byte more behind others
pub weight-more : (s : List ℕ) (x : ℕ) → weight (s ++ (x ∷ [])) ≡ weight s * 256 + x
weight-more [] x = rw (pow-zero 256) (omega arith)
weight-more (a ∷ s) x =
    let power = 256 ^ length s in
    let long : length (s ++ (x ∷ [])) ≡ suc (length s) = length-append s (x ∷ []) ∙ omega arith in
    rw (long, pow-suc 256 (length s), weight-more s x)
    (rw (← mul_assoc a power 256, add-mul (a * power) (weight s) 256) (sym (add_assoc (a * power * 256) (weight s * 256) x)))

digits-bytes : (s : List ℕ) → every digit s ≡ true → Bytes s
digits-bytes [] e = tt
digits-bytes (x ∷ s) e =
    let high = range-high 48 57 x (and_left (digit x) (every digit s) e) in
    (omega arith, digits-bytes s (digits-rest x s e))

ltb-on : (c a b : ℕ) → ltb (c + a) (c + b) ≡ ltb a b
ltb-on c a b = by-test (ltb a b) refl
  where
    by-test : (t : Bool) → ltb a b ≡ t → ltb (c + a) (c + b) ≡ t
    by-test true e = lt-ltb (c + a) (c + b) (omega (arith, ltb-true a b e))
    by-test false e = le-ltb (c + a) (c + b) (omega (arith, ltb-false a b e))

pub weigh-alike : (s t : List ℕ) → length s ≡ length t → every digit s ≡ true → every digit t ≡ true
    → ltb (weight s) (weight t) ≡ ltb (value_from 0 s) (value_from 0 t)
weigh-alike [] [] n p q = refl
weigh-alike [] (y ∷ t) n p q = absurd (omega arith)
weigh-alike (x ∷ s) [] n p q = absurd (omega arith)
weigh-alike (x ∷ s) (y ∷ t) n p q =
    by_tests (ltb x y) (ltb y x) refl refl (weigh-alike s t (omega arith) (digits-rest x s p) (digits-rest y t q))
  where
    long : length s ≡ length t
    long = omega arith

    one : 48 + digit_value x ≡ x
    one = digit-first x s p

    two : 48 + digit_value y ≡ y
    two = digit-first y t q

    by_tests : (u v : Bool) → ltb x y ≡ u → ltb y x ≡ v → ltb (weight s) (weight t) ≡ ltb (value_from 0 s) (value_from 0 t)
        → ltb (weight (x ∷ s)) (weight (y ∷ t)) ≡ ltb (value_from 0 (x ∷ s)) (value_from 0 (y ∷ t))
    by_tests true v h k rest =
        let less = ltb-true x y h in
        lt-ltb (weight (x ∷ s)) (weight (y ∷ t)) (lighter x y s t long (digits-bytes s (digits-rest x s p)) less)
        ∙ sym (lt-ltb (value_from 0 (x ∷ s)) (value_from 0 (y ∷ t)) (first-less x y s t long (omega (arith, one, two))))
    by_tests false true h k rest =
        let more = ltb-true y x k in
        let heavy = lighter y x t s (sym long) (digits-bytes t (digits-rest y t q)) more in
        let above = first-less y x t s (sym long) (omega (arith, one, two)) in
        le-ltb (weight (x ∷ s)) (weight (y ∷ t)) (omega (arith, heavy))
        ∙ sym (le-ltb (value_from 0 (x ∷ s)) (value_from 0 (y ∷ t)) (omega (arith, above)))
    by_tests false false h k rest =
        let same : x ≡ y = omega (arith, ltb-false x y h, ltb-false y x k) in
        let left : ltb (weight (x ∷ s)) (weight (y ∷ t)) ≡ ltb (weight s) (weight t) =
        ap₂ (λ a n. ltb (a * 256 ^ n + weight s) (weight (y ∷ t))) same long ∙ ltb-on (y * 256 ^ length t) (weight s) (weight t) in
        let right : ltb (value_from 0 (x ∷ s)) (value_from 0 (y ∷ t)) ≡ ltb (value_from 0 s) (value_from 0 t) =
        ap₂ ltb
        (first-digit x s ∙ ap₂ (λ a n. digit_value a * 10 ^ n + value_from 0 s) same long)
        (first-digit y t)
        ∙ ltb-on (digit_value y * 10 ^ length t) (value_from 0 s) (value_from 0 t) in
        left ∙ (rest ∙ sym right)
