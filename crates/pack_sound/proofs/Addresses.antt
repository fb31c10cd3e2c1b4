-- Addresses whose fields are well formed and of which none is refused are what a pack may hold.
-- Assumes nothing.
use Prim.Native.Nat.{ℕ, ◌<◌}
use mathlib.Core.Path.{◌≡◌, refl}
use mathlib.Core.Bool.{Bool, true, false, cond, not}
use mathlib.Core.List.{List, [], ◌∷◌}
use native.Mathlib.Omega.{arith}
use borrow.Author.Tests.{eqb-true, eqb-false}
use lib.Dec.{eqb}
use Rattle.refusal.specs.declared.Reason.TheVariants.{Combination, MissingKey}
use Rattle.refusal.proofs.Verdicts.{both-fine}
use Rattle.file_compare.specs.Order.{order, same}
use Rattle.file_compare.proofs.Order.{order-equal}
use Rattle.source.specs.Address.{Lookup, Address, present, keys_of}
use Rattle.source.specs.Resolve.{forbidden, missing_from, lacks_organisation, missing, elements_of, elements, refused, resolve}
use Rattle.source.specs.Same.{AllOf}
use Rattle.ask.specs.Source.{in_code}
use Rattle.ask.proofs.Laws.{in-code-all}
use Rattle.pack.specs.Cutting.{bad_of, first_bad}
use Rattle.pack.specs.Sound.{AddressSound, AddressesSound}
use Rattle.pack_sound.proofs.Fields.{FieldsSound}
use Rattle.refusal.specs.Verdict.{fine}

-- an address that is not refused breaks none of the rules of refusals 8 and 9
unrefused : (look : Lookup) (a : Address) (view : ℕ) → bad_of view (resolve look a) ≡ fine
    → (forbidden a ≡ 0) × (missing look a ≡ 0)
unfolding resolve
unrefused look a view e = by_tests (eqb (forbidden a) 0) (eqb (missing look a) 0) refl refl e
  where
    by_tests : (t u : Bool) → eqb (forbidden a) 0 ≡ t → eqb (missing look a) 0 ≡ u
        → bad_of view
        (cond t (cond u (elements (elements_of look a)) (refused (MissingKey (missing look a) 0)))
        (refused (Combination (forbidden a) 0)))
        ≡ fine
        → (forbidden a ≡ 0) × (missing look a ≡ 0)
    by_tests true true p q e = (eqb-true (forbidden a) 0 p, eqb-true (missing look a) 0 q)
    by_tests true false p q e = let z : ◌≡◌ {A = ℕ} 0 1 = cc in absurd (omega arith)
    by_tests false u p q e = let z : ◌≡◌ {A = ℕ} 0 1 = cc in absurd (omega arith)

-- where nothing is missing, the organisation is not
organisation-there : (look : Lookup) (a : Address) → missing look a ≡ 0 → lacks_organisation a.organisation ≡ false
unfolding missing
organisation-there look a e =
    by_tests (not (present a.locality)) (missing_from look 1 (keys_of a)) (lacks_organisation a.organisation) e
  where
    by_number : (m : ℕ) (t u : Bool) → eqb m 0 ≡ t → cond t (cond u 8 0) m ≡ 0 → u ≡ false
    by_number m true true q e = absurd (omega arith)
    by_number m true false q e = refl
    by_number m false u q e = absurd (eqb-false m 0 q e)

    by_tests : (t : Bool) (m : ℕ) (u : Bool) → cond t 1 (cond (eqb m 0) (cond u 8 0) m) ≡ 0 → u ≡ false
    by_tests true m u e = absurd (omega arith)
    by_tests false m u e = by_number m (eqb m 0) u refl e

module _ (look : Lookup) (code : List ℕ) where
  address-sound : (a : Address) → FieldsSound a → a.outward ≡ code → bad_of a.view (resolve look a) ≡ fine
      → AddressSound look code a
  address-sound a f own fine =
      let rules = unrefused look a a.view fine in
      record {
        mix = rules.0;
        rows = rules.1;
        outward = own;
        inward = f.inward;
        suffix = f.suffix;
        type = f.type;
        address_key = f.address_key;
        organisation_key = f.organisation_key;
        number = f.number;
        box_long = f.box_long;
        box_good = f.box_good;
        view = f.view;
        keys = f.keys;
        organisation = f.organisation (organisation-there look a rules.1);
      }

-- an address in a code
abbrev Own : List ℕ → Address → Type 0
Own code a = a.outward ≡ code

in-code-own : (code : List ℕ) (views : List Address) → AllOf (Own code) (in_code code views)
in-code-own code [] = tt
in-code-own code (a ∷ more) = by-test (same a.outward code) refl (in-code-own code more)
  where
    by-test : (t : Bool) → same a.outward code ≡ t → AllOf (Own code) (in_code code more)
        → AllOf (Own code) (cond t (a ∷ in_code code more) (in_code code more))
    by-test true e rest = (order-equal a.outward code (eqb-true (order a.outward code) 0 e), rest)
    by-test false e rest = rest

-- views whose numbers rise, from above a number on
abbrev pub Rising : ℕ → List Address → Type 0
Rising low [] = Unit {0}
Rising low (a ∷ more) = (low < a.view) × Rising a.view more

-- they do where one is left out
pub rising-one : (t : Bool) (low : ℕ) (a : Address) (more : List Address) → low < a.view → Rising a.view more
    → Rising low (cond t (a ∷ more) more)
rising-one true low a more h r = (h, r)
rising-one false low a [] h r = tt
rising-one false low a (b ∷ more) h r = (omega (arith, r.0), r.1)

in-code-rising : (code : List ℕ) (low : ℕ) (views : List Address) → Rising low views → Rising low (in_code code views)
in-code-rising code low [] r = tt
in-code-rising code low (a ∷ more) r =
    rising-one (same a.outward code) low a (in_code code more) r.0 (in-code-rising code a.view more r.1)

module _ (look : Lookup) (code : List ℕ) where
  all_sound : (low : ℕ) (views : List Address) → Rising low views → AllOf FieldsSound views → AllOf (Own code) views
      → first_bad look views ≡ fine
      → AddressesSound look code low views
  all_sound low [] r f own fine = tt
  all_sound low (a ∷ more) r f own fine =
      let both = both-fine (bad_of a.view (resolve look a)) (first_bad look more) fine in (
        r.0,
        (
          address-sound look code a f.0 own.0 both.0,
          all_sound a.view more r.1 f.1 own.1 both.1,
        ),
      )

  -- of a source's views, those in a code
  pub addresses-sound : (views : List Address) → Rising 0 views → AllOf FieldsSound views
      → first_bad look (in_code code views) ≡ fine
      → AddressesSound look code 0 (in_code code views)
  addresses-sound views r f fine =
      all_sound 0 (in_code code views) (in-code-rising code 0 views r) (in-code-all FieldsSound code views f)
      (in-code-own code views) fine
