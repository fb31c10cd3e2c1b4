use Rattle.std.proofs.Common.{rules, tests, ◌≡◌, ℕ, suc, ◌+◌, Bool, true, false, not, cond, eqb, ltb, List, [], ◌∷◌, length, Some, None, Option, refl, sym, ◌∙◌, arith}
use mathlib.Core.Bool.{◌&&◌}
use Rattle.std.proofs.lemmas.Bool.Decides.{nat_tests}
use Rattle.std.specs.List.{zip, position_or_len}
use Rattle.std.proofs.lemmas.Iterator.{YieldsList-from_slice, YieldsList-from_zip}
use Rattle.std.proofs.lemmas.Iterator.Search.{position_from_yields_List}
use Rattle.source.specs.Delivery.{lacking_from}
use Rattle.source_keys.proofs.first_lacking.Goals as goal

-- a key that is not zero and has no row
abbrev lacks : ℕ × ℕ → Bool
lacks p = not (eqb p.0 0) && eqb p.1 0

module _ (keys rows : List ℕ) where
  abbrev place : ℕ
  place = position_or_len lacks (zip keys rows)

  abbrev is_found : Bool
  is_found = ltb place (length (zip keys rows))

-- what is said by the place of the first that lacks
lacking-placed : (n : ℕ) (keys rows : List ℕ) → length keys ≡ length rows
    → lacking_from n keys rows ≡ cond (is_found keys rows) (n + place keys rows) 0
lacking-placed n [] rows e = refl
lacking-placed n (k ∷ keys) [] e = absurd (omega arith)
lacking-placed n (k ∷ keys) (r ∷ rows) e =
    by-test (not (eqb k 0) && eqb r 0) (place keys rows) (length (zip keys rows)) (lacking-placed (suc n) keys rows (omega arith))
  where
    by-test : (t : Bool) (p l : ℕ) → lacking_from (suc n) keys rows ≡ cond (ltb p l) (suc n + p) 0
        → cond t n (lacking_from (suc n) keys rows) ≡ cond (ltb (cond (not t) (1 + p) 0) (suc l)) (n + cond (not t) (1 + p) 0) 0
    by-test true p l h = grind (arith, nat_tests)
    by-test false p l h = h ∙ grind (arith, nat_tests)

some-found : (t : Bool) (p i : ℕ) → Some i ≡ cond t (Some p) None → i + 1 ≡ cond t (1 + p) 0
some-found true p i e = let same : i ≡ p = cc in omega (arith, same)
some-found false p i e = cc

none-found : (t : Bool) (p : ℕ) → ◌≡◌ {A = Option ℕ} None (cond t (Some p) None) → 0 ≡ cond t (1 + p) 0
none-found true p e = cc
none-found false p e = refl

pub returns-in-Some : goal.returns-in-Some
returns-in-Some c =
    let found : c.position-lacking.result ≡ cond (is_found c.args.keys c.args.rows) (Some (place c.args.keys c.args.rows)) None =
    position_from_yields_List lacks c.position-lacking.new.self _ c.position-lacking.result c.position-lacking.ensures.ran
    (YieldsList-from_zip {s = c.zip.result} (YieldsList-from_slice c.args.keys cc) (YieldsList-from_slice c.args.rows cc)) (λ x b q k. search (rules, tests)) in
    some-found (is_found c.args.keys c.args.rows) (place c.args.keys c.args.rows) c.in-Some.i (sym c.in-Some.is ∙ found) ∙ sym (lacking-placed 1 c.args.keys c.args.rows (omega arith))

pub returns-in-None : goal.returns-in-None
returns-in-None c =
    let found : c.position-lacking.result ≡ cond (is_found c.args.keys c.args.rows) (Some (place c.args.keys c.args.rows)) None =
    position_from_yields_List lacks c.position-lacking.new.self _ c.position-lacking.result c.position-lacking.ensures.ran
    (YieldsList-from_zip {s = c.zip.result} (YieldsList-from_slice c.args.keys cc) (YieldsList-from_slice c.args.rows cc)) (λ x b q k. search (rules, tests)) in
    none-found (is_found c.args.keys c.args.rows) (place c.args.keys c.args.rows) (sym c.in-None.is ∙ found) ∙ sym (lacking-placed 1 c.args.keys c.args.rows (omega arith))
