-- Demand 2 for suffixes: what asking a pack for one comes to, case by case.
-- Assumes nothing.
use Prim.Native.Nat.{ℕ, ◌≤◌, ◌<◌}
use mathlib.Core.Path.{◌≡◌, refl, sym, ap, ◌∙◌}
use mathlib.Core.Bool.{Bool, true, false, cond, not, ◌||◌, true≢false}
use mathlib.Core.List.{List, [], ◌∷◌}
use mathlib.Core.Logic.{◌⊎◌, inl, inr}
use native.Mathlib.Omega.{arith}
use borrow.Author.Tests.{eqb-true, leb-true}
use lib.Dec.{eqb, leb}
use lib.ListN.{length}
use Rattle.field.specs.Digits.{digit}
use Rattle.field.specs.Text.{letter}
use Rattle.field.proofs.Tests.{and_left, and_right}
use Rattle.field_outward.specs.Inward.{suffix_fault}
use Rattle.field_outward.proofs.Long.{suffix-long}
use Rattle.refusal.specs.Outcome.{after}
use Rattle.pack.specs.Names.{known, has_suffix, trailer_width}
use Rattle.pack.specs.Opening.{edition, trailer_good, offset_kinds, rest_of, given, postcode_good, suffix_good, offsets_good, parts_good, opened}
use Rattle.pack.specs.Points.{point_place, is_point, suffix_number, point_suffix, pack_suffix}
use Rattle.pack.proofs.Suffixes as Law
use Rattle.pack_open.proofs.Opened.{opened-all}
use Rattle.pack_open.proofs.Fits.{point-good}
use Rattle.demands.specs.Two.{suffix_at, SuffixAsked, pack_refused, no_number, no_suffix, told}
use Rattle.demands.proofs.Two.{There, a_point, no-point, point-there}
use Rattle.std.specs.Prelude.{Ok, Err}
use Rattle.refusal.specs.Answer.{Answer}

-- a well_formed suffix is a small number
pub suffix-small : (s : List ℕ) → suffix_fault s ≡ 0 → suffix_number s < 65_536
unfolding suffix_fault
suffix-small [] e = absurd (omega arith)
suffix-small (a ∷ []) e = absurd (omega arith)
suffix-small (a ∷ b ∷ []) e = by_tests (digit a) (letter b) refl refl e
  where
    by_tests : (t u : Bool) → digit a ≡ t → letter b ≡ u → ◌≡◌ {A = ℕ} (cond t (cond u 0 2) 1) 0 → suffix_number (a ∷ b ∷ []) < 65_536
    by_tests true true p q e =
        omega (arith, leb-true a 57 (and_right (leb 48 a) _ p), leb-true b 90 (and_right (leb 65 b) _ q))
    by_tests true false p q e = absurd (omega arith)
    by_tests false u p q e = absurd (omega arith)
suffix-small (a ∷ b ∷ c ∷ s) e = absurd (omega (arith, suffix-long (a ∷ b ∷ c ∷ s) e))

module _ (pack : List ℕ) (k : ℕ) where
  -- a pack that opens and has no suffix is of edition 1
  of-first : {n : ℕ} → opened pack ≡ Ok n → has_suffix (edition pack) ≡ false → edition pack ≡ 1
  unfolding trailer_good
  of-first {n} e none =
      let trailer = (opened-all pack n e).trailer in
      let behind-size = and_right (leb (trailer_width (edition pack)) (length pack)) _ trailer in
      eqb-true (edition pack) 1 (by-test (eqb (edition pack) 1) (rw none at (and_left (known (edition pack)) _ behind-size)))
    where
      by-test : (t : Bool) → t || false ≡ true → t ≡ true
      by-test true h = refl
      by-test false h = h

  -- and one that has is of edition 2 or 3
  later : has_suffix (edition pack) ≡ true → (edition pack ≡ 2) ⊎ (edition pack ≡ 3)
  later some = by-test (eqb (edition pack) 2) refl some
    where
      by-test : (t : Bool) → eqb (edition pack) 2 ≡ t → t || eqb (edition pack) 3 ≡ true → (edition pack ≡ 2) ⊎ (edition pack ≡ 3)
      by-test true e h = inl (eqb-true (edition pack) 2 e)
      by-test false e h = inr (eqb-true (edition pack) 3 h)

  -- its points are looked at
  well_formed : {n : ℕ} → opened pack ≡ Ok n → 1 ≤ k → k ≤ n → has_suffix (edition pack) ≡ true
      → suffix_fault (suffix_at pack k) ≡ 0
  unfolding parts_good suffix_good
  well_formed {n} e low high some =
      let at = point_place pack k in
      let rest = rest_of pack at in
      let behind-offsets = and_right (offsets_good pack rest 0 offset_kinds) _ (point-good pack n k e low high) in
      let behind-locality = and_right (given pack rest 0) _ behind-offsets in
      let suffix = and_left (suffix_good pack at) _ (and_right (postcode_good pack at) _ behind-locality) in
      eqb-true (suffix_fault (suffix_at pack k)) 0 (by-test (has_suffix (edition pack)) _ some suffix)
    where
      by-test : (t u : Bool) → t ≡ true → not t || u ≡ true → u ≡ true
      by-test true u s h = h
      by-test false u s h = absurd (true≢false (sym s))

  pub suffix-asked : SuffixAsked pack k
  unfolding pack_suffix
  suffix-asked = by-opened (opened pack) refl
    where
      by-edition : {n : ℕ} → opened pack ≡ Ok n → 1 ≤ k → k ≤ n → is_point pack k ≡ true
          → (t : Bool) → has_suffix (edition pack) ≡ t
          → SuffixAsked pack k
      by-edition e low high p true s =
          told e low high (later s) (well_formed e low high s)
          (ap (λ a. after a (point_suffix pack k)) e ∙ Law.its-suffix pack k p s)
      by-edition e low high p false s =
          no_suffix e low high (of-first e s) (ap (λ a. after a (point_suffix pack k)) e ∙ Law.no_suffix pack k p s)

      by-point : {n : ℕ} → opened pack ≡ Ok n → There pack n k → SuffixAsked pack k
      by-point e (a_point low high t) = by-edition e low high t (has_suffix (edition pack)) refl
      by-point e (no-point h t) = no_number e h (ap (λ a. after a (point_suffix pack k)) e ∙ Law.no-point pack k t)

      by-opened : (o : Answer) → opened pack ≡ o → SuffixAsked pack k
      by-opened (Ok n) e = by-point e (point-there pack k e)
      by-opened (Err r) e = pack_refused e (ap (λ a. after a (point_suffix pack k)) e)
