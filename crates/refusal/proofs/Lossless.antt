-- The packed number loses nothing: two answers that fit their bits and have the same number are the same answer.
-- Assumes nothing.
use Prim.Native.Nat.{ℕ, ◌+◌, ◌*◌, ◌<◌, ◌≤◌}
use mathlib.Core.Path.{◌≡◌, refl, sym, ap, ap₂, ◌∙◌}
use mathlib.Core.Bool.{true}
use mathlib.Core.List.{[], ◌∷◌}
use native.Mathlib.Omega.{arith}
use native.Mathlib.Nat.{mod-eq_of_lt}
use borrow.Author.Tests.{leb-true}
use lib.Dec.{leb}
use lib.ListN.{get_or}
use Rattle.refusal.specs.declared.Reason.{Reason}
use Rattle.refusal.specs.declared.Reason.TheVariants.{Length, Header, Trailer, Malformed, NotAbove, Follower, NoSuchNumber, Combination, MissingKey, Room, BadPack, BadCode, NoSuffix, BadRow, Uncarried, BadDigit, Later}
use Rattle.refusal.specs.declared.LaterReason.TheVariants.{InsertedTwice, NotPresent, Unpaired, NoFreeSlot, NotABook}
use Rattle.refusal.specs.Refusal.{number, detail, second}
use Rattle.refusal.specs.Packed.{word, packed, FitsRefusal, Fits}
use Rattle.std.specs.Prelude.{Ok, Err}
use Rattle.refusal.specs.Answer.{Answer, refusal}

-- the reason that has a number, a detail and a second detail
abbrev reason-of : ℕ → ℕ → ℕ → Reason
reason-of n d s =
    get_or
    (Length ∷ Length ∷ Header ∷ Trailer d ∷ Malformed d s ∷ NotAbove d ∷ Follower d ∷ NoSuchNumber ∷ Combination d s
    ∷ MissingKey d s
    ∷ Room d
    ∷ BadPack d
    ∷ BadCode
    ∷ NoSuffix
    ∷ BadRow d s
    ∷ Uncarried
    ∷ BadDigit
    ∷ Later InsertedTwice
    ∷ Later NotPresent
    ∷ Later Unpaired
    ∷ Later NoFreeSlot
    ∷ BadDigit
    ∷ BadDigit
    ∷ BadDigit
    ∷ BadDigit
    ∷ BadDigit
    ∷ BadDigit
    ∷ BadDigit
    ∷ [])
    n (Later NotABook)

-- a reason is known by its number and its details, and its number is one of the documents'
abbrev Known : Reason → Type 0
Known r =
    (reason-of (number r) (detail r) (second r) ≡ r) × (leb 1 (number r) ≡ true) × (leb (number r) 28 ≡ true)

known : (r : Reason) → Known r
known Length = (refl, refl, refl)
known Header = (refl, refl, refl)
known (Trailer d) = (refl, refl, refl)
known (Malformed d s) = (refl, refl, refl)
known (NotAbove d) = (refl, refl, refl)
known (Follower d) = (refl, refl, refl)
known NoSuchNumber = (refl, refl, refl)
known (Combination d s) = (refl, refl, refl)
known (MissingKey d s) = (refl, refl, refl)
known (Room d) = (refl, refl, refl)
known (BadPack d) = (refl, refl, refl)
known BadCode = (refl, refl, refl)
known NoSuffix = (refl, refl, refl)
known (BadRow d s) = (refl, refl, refl)
known Uncarried = (refl, refl, refl)
known BadDigit = (refl, refl, refl)
known (Later InsertedTwice) = (refl, refl, refl)
known (Later NotPresent) = (refl, refl, refl)
known (Later Unpaired) = (refl, refl, refl)
known (Later NoFreeSlot) = (refl, refl, refl)
known (Later NotABook) = (refl, refl, refl)

pub number-above-0 : (r : Reason) → 0 < number r
number-above-0 r = leb-true 1 (number r) (known r).1

pub number-to-28 : (r : Reason) → number r ≤ 28
number-to-28 r = leb-true (number r) 28 (known r).2

-- two reasons with the same number and the same details are one
pub same-reason : (r q : Reason) → number r ≡ number q → detail r ≡ detail q → second r ≡ second q → r ≡ q
same-reason r q n d s = sym (known r).0 ∙ rw (n, d, s) (known q).0

-- the four parts of a word that fit their bits
pub record FitsWord (n file s d : ℕ) : Type 0 where
  pub number_fits : n < 256
  pub file_fits : file < 16
  pub second_fits : s < 1_048_576
  pub detail_fits : d < 4_294_967_296

-- a word of such parts, with its remainders gone
pub word-plain : (n file s d : ℕ) → FitsWord n file s d
    → word n file s d ≡ n * 72_057_594_037_927_936 + file * 4_503_599_627_370_496 + (s * 4_294_967_296 + d)
unfolding word
word-plain n file s d fits =
    simp (
      mod-eq_of_lt fits.number_fits,
      mod-eq_of_lt fits.file_fits,
      mod-eq_of_lt fits.second_fits,
      mod-eq_of_lt fits.detail_fits,
    )

-- they are told by its size
pub record Same (n f s d n' f' s' d' : ℕ) : Type 0 where
  pub number_same : n ≡ n'
  pub file-same : f ≡ f'
  pub second-same : s ≡ s'
  pub detail-same : d ≡ d'

parts : (n f s d n' f' s' d' : ℕ)
    → f < 16
    → s < 1_048_576
    → d < 4_294_967_296
    → f' < 16
    → s' < 1_048_576
    → d' < 4_294_967_296
    → n * 72_057_594_037_927_936 + f * 4_503_599_627_370_496 + (s * 4_294_967_296 + d)
    ≡ n' * 72_057_594_037_927_936 + f' * 4_503_599_627_370_496 + (s' * 4_294_967_296 + d')
    → Same n f s d n' f' s' d'
parts n f s d n' f' s' d' hf hs hd hf' hs' hd' e =
    record
    { number_same = omega arith; file-same = omega arith; second-same = omega arith; detail-same = omega arith }

pub word-parts : (n f s d n' f' s' d' : ℕ) → FitsWord n f s d → FitsWord n' f' s' d' → word n f s d ≡ word n' f' s' d'
    → Same n f s d n' f' s' d'
word-parts n f s d n' f' s' d' p q e =
    parts n f s d n' f' s' d' p.file_fits p.second_fits p.detail_fits q.file_fits q.second_fits q.detail_fits
    (sym (word-plain n f s d p) ∙ (e ∙ word-plain n' f' s' d' q))

-- those of a refusal that fits
pub refusal-word : (file : ℕ) (r : Reason) → FitsRefusal file r → FitsWord (number r) file (second r) (detail r)
refusal-word file r fits =
    record {
      number_fits = omega (arith, number-to-28 r);
      file_fits = fits.file_fits;
      second_fits = fits.second_fits;
      detail_fits = fits.detail_fits;
    }

-- no value has the number of a refusal
value-refused : (v file : ℕ) (r : Reason) → Fits (Ok v) → FitsRefusal file r → packed (Ok v) ≡ packed (refusal file r) → ⊥
value-refused v file r p q e =
    omega (
      arith,
      number-above-0 r,
      sym (mod-eq_of_lt p) ∙ (e ∙ word-plain (number r) file (second r) (detail r) (refusal-word file r q)),
    )

abbrev answered : ℕ → Answer
answered n = Ok n

abbrev refused-by : ℕ → Reason → Answer
refused-by file why = refusal file why

pub loses-nothing : (a b : Answer) → Fits a → Fits b → packed a ≡ packed b → a ≡ b
loses-nothing (Ok v) (Ok w) p q e =
    ap (λ (n : ℕ). answered n) (sym (mod-eq_of_lt p) ∙ (e ∙ mod-eq_of_lt q))
loses-nothing (Ok v) (Err b) p q e = absurd (value-refused v b.file b.reason p q e)
loses-nothing (Err a) (Ok w) p q e = absurd (value-refused w a.file a.reason q p (sym e))
loses-nothing (Err a) (Err b) p q e =
    let same =
    word-parts (number a.reason) a.file (second a.reason) (detail a.reason) (number b.reason) b.file (second b.reason)
    (detail b.reason) (refusal-word a.file a.reason p) (refusal-word b.file b.reason q) e in
    ap₂ (λ (f : ℕ) (w : Reason). refused-by f w) same.file-same
    (same-reason a.reason b.reason same.number_same same.detail-same same.second-same)
