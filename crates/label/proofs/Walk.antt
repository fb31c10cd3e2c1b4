-- A text made of pieces: its size, and a walk that puts them one behind the other. There is room for each, and at the
-- end the text stands.
-- Assumes nothing.
use Prim.Native.Nat.{ℕ, ◌+◌, ◌≤◌}
use mathlib.Core.Path.{◌≡◌, sym, ap}
use mathlib.Core.List.{List, [], ◌∷◌, ◌++◌}
use native.Mathlib.Omega.{arith}
use lib.ListN.{length, length-append}
use Rattle.label.specs.Put.{Put}
use Rattle.label.proofs.Going.{Going, going_start, going-as, going-left, going-room, going_step, going-last}

-- pieces one behind the other
abbrev pub joined : List (List ℕ) → List ℕ
joined [] = []
joined (p ∷ []) = p
joined (p ∷ q ∷ ps) = p ++ joined (q ∷ ps)

pub record Made (pieces : List (List ℕ)) (whole : List ℕ) : Type 0 where
  pub is : joined pieces ≡ whole

-- the size of a text of two, three and four pieces, and a bound of it
module _ {p q whole : List ℕ} {i j u v : ℕ} where
  pub two_sized : {n : ℕ} → Made (p ∷ q ∷ []) whole → (i ≡ length p) × (i ≤ u) → (j ≡ length q) × (j ≤ v)
      → u + v ≤ n → (i + j ≡ length whole) × (i + j ≤ n)
  two_sized m a b h = (omega (arith, ap length m.is, length-append p q), omega arith)

  pub three-sized : {s : List ℕ} {k w n : ℕ} → Made (p ∷ q ∷ s ∷ []) whole → (i ≡ length p) × (i ≤ u)
      → (j ≡ length q) × (j ≤ v) → (k ≡ length s) × (k ≤ w) → u + v + w ≤ n
      → (i + j + k ≡ length whole) × (i + j + k ≤ n)
  three-sized {s} m a b d h =
      (omega (arith, ap length m.is, length-append p (q ++ s), length-append q s), omega arith)

pub four-sized : {p q s t whole : List ℕ} {i j k l : ℕ} → Made (p ∷ q ∷ s ∷ t ∷ []) whole → i ≡ length p
    → j ≡ length q → k ≡ length s → l ≡ length t → i + j + k + l ≡ length whole
four-sized {p} {q} {s} {t} m a b d e =
    omega (
      arith,
      ap length m.is,
      length-append p (q ++ (s ++ t)),
      length-append q (s ++ t),
      length-append s t,
    )

-- of `whole`, whose size there is room for, `pieces` are to put yet, from `at` on
pub record Walk (whole : List ℕ) (pieces : List (List ℕ)) (entry : List ℕ) (start at : ℕ) (out : List ℕ) : Type 0 where
  pub going : Going whole (joined pieces) entry start at out
  pub fits : start + length whole ≤ length entry

-- nothing is put yet
abbrev pub Begun : (whole : List ℕ) (pieces : List (List ℕ)) (entry : List ℕ) (start : ℕ) → Type 0
Begun whole pieces entry start = Walk whole pieces entry start start entry

module _ {whole o : List ℕ} {pieces : List (List ℕ)} where
  pub begun : {at : ℕ} → Made pieces whole → at + length whole ≤ length o → Begun whole pieces o at
  begun {at} m h = record { going = going-as (sym m.is) (going_start whole o at); fits = h }

  -- the same at the front of the buffer
  pub begun-front : Made pieces whole → length whole ≤ length o → Begun whole pieces o 0
  begun-front m h = begun m (omega arith)

module _ {whole p o x : List ℕ} {s i : ℕ} where
  -- there is room for the next piece
  pub room : {ps : List (List ℕ)} → Walk whole (p ∷ ps) o s i x → i + length p ≤ length x
  room {ps = []} w = going-left w.going w.fits
  room {ps = q ∷ ps} w = going-room p (joined (q ∷ ps)) w.going w.fits

  -- a piece that others follow, and the last
  pub step : {q y : List ℕ} {ps : List (List ℕ)} {r : ℕ} → Walk whole (p ∷ q ∷ ps) o s i x → Put p x i r y
      → Walk whole (q ∷ ps) o s r y
  step {q} {ps = ps} w v =
      record { going = going_step (joined (q ∷ ps)) w.going v w.fits; fits = w.fits }

  pub last : {y : List ℕ} {r : ℕ} → Walk whole (p ∷ []) o s i x → Put p x i r y → Put whole o s r y
  last w v = going-last w.going v w.fits
