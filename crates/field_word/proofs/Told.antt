-- How digits are told by the number that they are.
-- Assumes nothing.
use Rattle.std.proofs.Common.{◌≡◌, ℕ, suc, ◌+◌, ◌*◌, ◌/◌, ◌%◌, ◌^◌, ◌<◌, ◌≤◌, true, List, [], ◌∷◌, map, length, sym, refl, ap, ◌∙◌, ap₂, mod-eq_of_lt, arith, le-leb}
use lib.Bits.{bit_and, bit_or, bit_xor, and_block, and_high, and_le_l, and_le_r, or_add_and, xor_block, xor_add_and, xor_lt, xor_zero_r}
use Rattle.field.specs.Test.{every}
use Rattle.field.specs.Digits.{digit}
use Rattle.field_word.specs.Word.{word, Bytes, Word}
use Rattle.field_word.proofs.Laws.{row}

-- how bytes differ from a 0
abbrev differences : List ℕ → List ℕ
differences s = map (λ b. bit_xor b 48) s

differences-word : (s : List ℕ) → Bytes s → bit_xor (word s) (row 48 (length s)) ≡ word (differences s)
differences-word [] p = refl
differences-word (x ∷ xs) p =
    let n = row 48 (length xs) in
    let left : x + 256 * word xs ≡ word xs * 2 ^ 8 + x = omega arith in
    let right : 48 + 256 * n ≡ n * 2 ^ 8 + 48 = omega arith in
    ap₂ bit_xor left right
    ∙ (xor_block 8 (word xs) n x 48 p.0 (omega arith)
    ∙ (ap (λ m. m * 2 ^ 8 + bit_xor x 48) (differences-word xs p.1) ∙ omega arith))

differences-bytes : (s : List ℕ) → Bytes s → Bytes (differences s)
differences-bytes [] p = tt
differences-bytes (x ∷ xs) p = (xor_lt 8 x 48 p.0 (omega arith), differences-bytes xs p.1)

mapped-long : (f : ℕ → ℕ) (s : List ℕ) → length (map f s) ≡ length s
mapped-long f [] = refl
mapped-long f (x ∷ xs) = ap suc (mapped-long f xs)

-- bytes without their highest bit
abbrev Low : List ℕ → Type 0
Low [] = Unit {0}
Low (x ∷ xs) = (x < 128) × Low xs

high_bits : (s : List ℕ) → Bytes s → bit_and (word s) (row 128 (length s)) ≡ word (map (λ b. bit_and b 128) s)
high_bits [] p = refl
high_bits (x ∷ xs) p =
    let n = row 128 (length xs) in
    let left : x + 256 * word xs ≡ word xs * 2 ^ 8 + x = omega arith in
    let right : 128 + 256 * n ≡ n * 2 ^ 8 + 128 = omega arith in
    ap₂ bit_and left right
    ∙ (and_block 8 (word xs) n x 128 p.0 (omega arith)
    ∙ (ap (λ m. m * 2 ^ 8 + bit_and x 128) (high_bits xs p.1) ∙ omega arith))

low_byte : (x : ℕ) → x < 256 → bit_and x 128 ≡ 0 → x < 128
low_byte x h e =
    let half : x / 128 % 2 * 128 ≡ 0 = sym (and_high x 1 7) ∙ e in
    let top : x / 128 % 2 ≡ x / 128 = mod-eq_of_lt (omega arith) in
    omega arith

lows : (s : List ℕ) → Bytes s → word (map (λ b. bit_and b 128) s) ≡ 0 → Low s
lows [] p e = tt
lows (x ∷ xs) p e = (low_byte x p.0 (omega arith), lows xs p.1 (omega arith))

all-low : (s : List ℕ) → Bytes s → bit_and (word s) (row 128 (length s)) ≡ 0 → Low s
all-low s p e = lows s p (sym (high_bits s p) ∙ e)

-- what is added stays within each byte
abbrev raised : List ℕ → List ℕ
raised s = map (λ b. b + 118) s

raised-word : (s : List ℕ) → word (raised s) ≡ word s + row 118 (length s)
raised-word [] = refl
raised-word (x ∷ xs) = omega (arith, raised-word xs)

raised-bytes : (s : List ℕ) → Low s → Bytes (raised s)
raised-bytes [] l = tt
raised-bytes (x ∷ xs) l = (omega (arith, l.0), raised-bytes xs l.1)

low_below : (s : List ℕ) → Low s → word s ≤ row 127 (length s)
low_below [] l = omega arith
low_below (x ∷ xs) l = omega (arith, l.0, low_below xs l.1)

none-of-both : (a b : ℕ) → bit_or a b ≡ 0 → (a ≡ 0) × (b ≡ 0)
none-of-both a b e =
    let sum = or_add_and a b in
    let one = and_le_l a b in
    let two = and_le_r a b in
    (omega arith, omega arith)

-- a byte that differs from a 0 by 9 at most
three-high : (a : ℕ) → bit_xor a 3 ≡ 0 → a ≡ 3
three-high a e =
    let sum = xor_add_and a 3 in
    let one = and_le_l a 3 in
    let two = and_le_r a 3 in
    omega arith

near-zero : (x : ℕ) → bit_xor x 48 ≤ 9 → digit x ≡ true
near-zero x h =
    let split : x ≡ x / 16 * 2 ^ 4 + x % 16 = omega arith in
    let halves : bit_xor x 48 ≡ bit_xor (x / 16) 3 * 16 + x % 16 =
    ap (λ n. bit_xor n 48) split ∙ (xor_block 4 (x / 16) 3 (x % 16) 0 (omega arith) (omega arith) ∙ ap (λ n. bit_xor (x / 16) 3 * 2 ^ 4 + n) (xor_zero_r (x % 16))) in
    let high : x / 16 ≡ 3 = three-high (x / 16) (omega arith) in
    rw (le-leb 48 x (omega arith), le-leb x 57 (omega arith))

near-zeros : (s : List ℕ) → Low (raised (differences s)) → every digit s ≡ true
near-zeros [] l = refl
near-zeros (x ∷ xs) l = rw (near-zero x (omega (arith, l.0))) (near-zeros xs l.1)

abbrev others_in : ℕ → ℕ
others_in w =
    bit_or (bit_and (bit_xor w (row 48 8)) (row 128 8)) (bit_and ((bit_xor w (row 48 8) + row 118 8) % 2 ^ 64) (row 128 8))

-- a number without such bits
pub all_digits : (s : List ℕ) (w : ℕ) → length s ≡ 8 → Word s w → others_in w ≡ 0 → every digit s ≡ true
all_digits s w n p e =
    let d = differences s in
    let long : length d ≡ 8 = mapped-long (λ b. bit_xor b 48) s ∙ n in
    let is : bit_xor w (row 48 8) ≡ word d = ap₂ (λ a k. bit_xor a (row 48 k)) p.is (sym n) ∙ differences-word s p.small in
    let none = none-of-both (bit_and (bit_xor w (row 48 8)) (row 128 8)) _ e in
    let low : Low d = all-low d (differences-bytes s p.small) (ap₂ (λ a k. bit_and a (row 128 k)) (sym is) long ∙ none.0) in
    let more : (bit_xor w (row 48 8) + row 118 8) % 2 ^ 64 ≡ word (raised d) =
    rw is (mod-eq_of_lt (omega (arith, rw long at (low_below d low))) ∙ (ap (λ k. word d + row 118 k) (sym long) ∙ sym (raised-word d))) in
    near-zeros s
    (all-low (raised d) (raised-bytes d low)
    (ap₂ (λ a k. bit_and a (row 128 k)) (sym more) (mapped-long (λ b. b + 118) d ∙ long) ∙ none.1))
