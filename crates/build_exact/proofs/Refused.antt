-- The first refusal of the delivery points is that of their addresses.
-- Assumes nothing.
use Prim.Native.Nat.{ℕ, suc}
use mathlib.Core.Path.{◌≡◌, refl, sym, ap₂}
use mathlib.Core.Bool.{Bool, true, false, cond, ◌&&◌}
use mathlib.Core.List.{List, [], ◌∷◌}
use mathlib.Core.Option.{none, some}
use lib.Dec.{eqb}
use Rattle.refusal.specs.declared.Reason.{Reason}
use Rattle.refusal.specs.declared.Reason.TheVariants.{Combination, MissingKey}
use Rattle.source.specs.Address.{named, lacking, none_needed, Address, present, key_kinds, key_numbers, asked_by, ref, Elements}
use Rattle.source.specs.Resolve.{forbidden, lacks, missing_from, lacks_organisation, missing, elements_of, elements, refused, resolve}
use Rattle.source.specs.Delivery.{organisation_in, rows_for, forbidden_in, lacking_from, missing_in, refusal_in}
use Rattle.source.specs.declared.DeliveryPoint.{DeliveryPoint}
use Rattle.shelf.specs.Stock.{Stock, texts_or_none, look_in}
use Rattle.pack.specs.Cutting.{bad_of, first_bad}
use Rattle.build.specs.Plan.{Packed, rows_of, numbered_refusal, first_refused}
use Rattle.build_exact.specs.Started.{PackedSays, AllSay, none_says, one_says}
use Rattle.std.specs.Prelude.{Err}
use Rattle.refusal.specs.Verdict.{fine}

-- ---- one delivery point

lacks-organisation : (others : List ℕ) (p : DeliveryPoint) → p.lacking && p.organised ≡ false
    → lacks_organisation (organisation_in others p) ≡ p.lacking
lacks-organisation others p e = by_tests p.organised p.lacking _ _ e
  where
    by_tests : (t u : Bool) (name department : List ℕ) → u && t ≡ false
        → lacks_organisation (cond t (named name department) (cond u lacking none_needed)) ≡ u
    by_tests true true name department e = sym e
    by_tests true false name department e = refl
    by_tests false true name department e = refl
    by_tests false false name department e = refl

verdict-is : (view : ℕ) (e : Elements) (why other : Reason) (t u : Bool)
    → bad_of view (cond t (cond u (elements e) (refused why)) (refused other))
    ≡ numbered_refusal view (cond t (cond u fine (Err why)) (Err other))
verdict-is view e why other true true = refl
verdict-is view e why other true false = refl
verdict-is view e why other false u = refl

module _ (st : Stock) where
  pub lacks-row : (row : ℕ) → lacks (texts_or_none st row) ≡ eqb row 0
  lacks-row row = by-test (eqb row 0)
    where
      by-test : (t : Bool) → lacks (cond t none (some (st.texts row))) ≡ t
      by-test true = refl
      by-test false = refl

  -- a key lacks its row where it finds no texts
  lacking-is : (n : ℕ) (kinds keys : List ℕ)
      → missing_from (look_in st) n (asked_by kinds keys) ≡ lacking_from n keys (rows_for st.row (asked_by kinds keys))
  unfolding look_in
  lacking-is n [] [] = refl
  lacking-is n [] (key ∷ keys) = refl
  lacking-is n (kind ∷ kinds) [] = refl
  lacking-is n (kind ∷ kinds) (key ∷ keys) = by-test (present key) (lacking-is (suc n) kinds keys)
    where
      row : ℕ
      row = st.row (ref kind key)

      by-test : (t : Bool) {x y : ℕ} → x ≡ y
          → cond (t && lacks (texts_or_none st row)) n x ≡ cond (t && eqb (cond t row 0) 0) n y
      by-test true later = ap₂ (λ b m. cond b n m) (lacks-row row) later
      by-test false later = later

  module _ {own others : List ℕ} {d : Packed} {a : Address} (s : PackedSays own others d a) where
    abbrev p : DeliveryPoint
    p = d.point

    forbidden-is : forbidden a ≡ forbidden_in p
    unfolding forbidden forbidden_in
    forbidden-is = rw (s.says.keys, s.says.number)

    missing-is : missing (look_in st) a ≡ missing_in p (rows_of st p)
    unfolding missing missing_in
    missing-is =
        let there = lacks-organisation others p s.says.one in
        rw (s.says.keys, lacking-is 1 key_kinds (key_numbers a), ← s.says.organisation, there)

    -- refusals 8 and 9 are those of the address
    refusal_is : bad_of a.view (resolve (look_in st) a) ≡ numbered_refusal d.view (refusal_in p (rows_of st p))
    unfolding resolve refusal_in
    refusal_is =
        rw (forbidden-is, missing-is, s.view)
        (verdict-is a.view (elements_of (look_in st) a) (MissingKey (missing_in p (rows_of st p)) 0)
        (Combination (forbidden_in p) 0) (eqb (forbidden_in p) 0) (eqb (missing_in p (rows_of st p)) 0))

-- ---- all of them

pub refused-same : (st : Stock) {own others : List ℕ} {ds : List Packed} {as' : List Address}
    → AllSay own others ds as'
    → first_bad (look_in st) as' ≡ first_refused st ds
refused-same st none_says = refl
refused-same st (one_says s rest) = rw (refusal_is st s, refused-same st rest)
