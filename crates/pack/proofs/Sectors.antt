-- Laws of the ten counts.
-- Assumes nothing.
use Prim.Native.Nat.{ℕ, zero, suc, ◌+◌, ◌*◌, ◌≤◌, ◌<◌}
use mathlib.Core.Path.{◌≡◌, refl, sym, ap, ◌∙◌}
use mathlib.Core.Bool.{Bool, true, false, cond}
use mathlib.Core.List.{List, [], ◌∷◌}
use mathlib.Core.Logic.{◌⊎◌, inl, inr}
use native.Mathlib.Omega.{arith}
use native.Mathlib.Nat.{eq-or-lt_of_le}
use borrow.Author.Tests.{eqb-true, eq-eqb, ne_eqb, leb-true}
use lib.Dec.{eqb, leb}
use lib.ListN.{length, get_or, length-append}
use Rattle.field.specs.Digits.{digit}
use Rattle.field.proofs.Tests.{and_left, and_right}
use Rattle.pack.specs.Names.{counts_width}
use Rattle.pack.specs.Numbers.{bytes_of}
use Rattle.pack.specs.Sectors.{how_many, in_sector, counts_from, sector_counts, total, counts_bytes}
use Rattle.pack.specs.Opening.{digits_from, count_said, counts_said}

-- no more than there are
pub how-many-few : (b : ℕ) (l : List ℕ) → how_many b l ≤ length l
how-many-few b [] = omega arith
how-many-few b (x ∷ xs) = by-test (eqb x b) (how-many-few b xs)
  where
    by-test : (t : Bool) → how_many b xs ≤ length xs → cond t (suc (how_many b xs)) (how_many b xs) ≤ suc (length xs)
    by-test true h = omega arith
    by-test false h = omega arith

-- one byte for each point
pub digits_long : (pack : List ℕ) (width n at : ℕ) → length (digits_from pack width n at) ≡ n
digits_long pack width zero at = refl
digits_long pack width (suc n) at = ap suc (digits_long pack width n (at + width))

pub digits-as : (pack : List ℕ) {width w n m at start : ℕ} → width ≡ w → n ≡ m → at ≡ start
    → digits_from pack width n at ≡ digits_from pack w m start
digits-as pack e f g = rw (e, f, g)

-- ---- ten counts

counts-from-long : (n d : ℕ) (firsts : List ℕ) → length (counts_from n d firsts) ≡ n
counts-from-long zero d firsts = refl
counts-from-long (suc n) d firsts = ap suc (counts-from-long n (suc d) firsts)

counts-from-at : (n d i : ℕ) (firsts : List ℕ) → i < n → get_or (counts_from n d firsts) i 0 ≡ in_sector (d + i) firsts
counts-from-at zero d i firsts h = absurd (omega arith)
counts-from-at (suc n) d zero firsts h = ap (λ k. in_sector k firsts) (let z : d ≡ d + 0 = omega arith in z)
counts-from-at (suc n) d (suc i) firsts h =
    counts-from-at n (suc d) i firsts (omega arith)
    ∙ ap (λ k. in_sector k firsts) (let z : suc d + i ≡ d + suc i = omega arith in z)

pub counts-long : (firsts : List ℕ) → length (sector_counts firsts) ≡ 10
unfolding sector_counts
counts-long firsts = counts-from-long 10 0 firsts

pub counts-at : (firsts : List ℕ) (d : ℕ) → d < 10 → get_or (sector_counts firsts) d 0 ≡ in_sector d firsts
unfolding sector_counts
counts-at firsts d h = counts-from-at 10 0 d firsts h ∙ ap (λ k. in_sector k firsts) (let z : 0 + d ≡ d = omega arith in z)

pub counts-bytes-long : (ns : List ℕ) → length (counts_bytes ns) ≡ 4 * length ns
counts-bytes-long [] = refl
counts-bytes-long (n ∷ ns) = length-append (bytes_of 4 n) (counts_bytes ns) ∙ omega (arith, counts-bytes-long ns)

-- ten counts fill their place
pub counts-wide : (firsts : List ℕ) → length (counts_bytes (sector_counts firsts)) ≡ counts_width
counts-wide firsts = counts-bytes-long (sector_counts firsts) ∙ ap (λ k. 4 * k) (counts-long firsts)

-- ---- what a trailer says

-- each of the counts that it says
pub count-said : (pack : List ℕ) (d i : ℕ) (ns : List ℕ) → counts_said pack d ns ≡ true → i < length ns
    → count_said pack (d + i) ≡ get_or ns i 0
count-said pack d i [] e h = absurd (omega arith)
count-said pack d zero (n ∷ ns) e h =
    ap (count_said pack) (let z : d + 0 ≡ d = omega arith in z)
    ∙ eqb-true (count_said pack d) n (and_left (eqb (count_said pack d) n) _ e)
count-said pack d (suc i) (n ∷ ns) e h =
    ap (count_said pack) (let z : d + suc i ≡ suc d + i = omega arith in z)
    ∙ count-said pack (suc d) i ns (and_right (eqb (count_said pack d) n) _ e) (omega arith)

-- ---- together

-- all of these bytes are digits
abbrev pub AllDigits : List ℕ → Type 0
AllDigits [] = Unit {0}
AllDigits (x ∷ xs) = (digit x ≡ true) × AllDigits xs

-- one byte more is one more in the sum, where it is one of the digits that are counted
more-none : (n d x : ℕ) (xs : List ℕ) → (x < 48 + d) → total (counts_from n d (x ∷ xs)) ≡ total (counts_from n d xs)
more-none zero d x xs h = refl
more-none (suc n) d x xs h =
    rw (ne_eqb x (48 + d) (λ e. omega arith)) (ap (λ t. in_sector d xs + t) (more-none n (suc d) x xs (omega arith)))

more-one : (n d x : ℕ) (xs : List ℕ) → 48 + d ≤ x → x < 48 + d + n
    → total (counts_from n d (x ∷ xs)) ≡ suc (total (counts_from n d xs))
more-one zero d x xs low high = absurd (omega arith)
more-one (suc n) d x xs low high = by-case (λ h. more-one n (suc d) x xs (omega arith) (omega arith)) (eq-or-lt_of_le low)
  where
    by-case : (48 + d < x → total (counts_from n (suc d) (x ∷ xs)) ≡ suc (total (counts_from n (suc d) xs)))
        → (48 + d ≡ x) ⊎ (48 + d < x)
        → total (counts_from (suc n) d (x ∷ xs)) ≡ suc (total (counts_from (suc n) d xs))
    by-case later (inl e) =
        rw (eq-eqb x (48 + d) (sym e)) (omega (arith, more-none n (suc d) x xs (omega arith)))
    by-case later (inr h) = rw (ne_eqb x (48 + d) (λ e. omega arith)) (omega (arith, later h))

-- the counts of digits together are as many as there are
pub counts-together : (firsts : List ℕ) → AllDigits firsts → total (sector_counts firsts) ≡ length firsts
unfolding sector_counts
counts-together [] a = refl
counts-together (x ∷ xs) a =
    more-one 10 0 x xs (leb-true 48 x (and_left (leb 48 x) _ a.0))
    (let z = leb-true x 57 (and_right (leb 48 x) _ a.0) in omega arith)
    ∙ ap suc (counts-together xs a.1)
