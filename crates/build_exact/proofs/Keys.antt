-- What the keys of the packed delivery points find: where none is refused, each row that an address refers to; and a row
-- is referred to where it is in force and an address refers to what it stands for.
-- Assumes nothing.
use Prim.Native.Nat.{ℕ, zero, suc, ◌≤◌, ◌<◌}
use mathlib.Core.Path.{◌≡◌, refl, sym, ap, ap₂, ◌∙◌}
use mathlib.Core.Bool.{Bool, true, false, cond, ◌&&◌, ◌||◌, true≢false}
use mathlib.Core.List.{List, [], ◌∷◌}
use native.Mathlib.Omega.{arith}
use borrow.Author.Tests.{eq-eqb, ne_eqb, eqb-true, eqb-false}
use lib.Dec.{eqb}
use Rattle.field.specs.Test.{elem}
use Rattle.field.proofs.Tests.{and-false}
use Rattle.refusal.specs.declared.Reason.TheVariants.{Combination, MissingKey}
use Rattle.source.specs.Address.{Lookup, Address, present, Asked, key_kinds, asked_by, keys_of, ref}
use Rattle.source.specs.Resolve.{forbidden, lacks, missing_from, missing, elements_of, elements, refused, resolve}
use Rattle.source.specs.Delivery.{rows_for}
use Rattle.refusal.proofs.Verdicts.{both-fine}
use Rattle.shelf.specs.Stock.{Stock, Good, texts_or_none, look_in}
use Rattle.pack.specs.Cutting.{bad_of, first_bad}
use Rattle.pack_carries.specs.Used.{refers_in, refers}
use Rattle.pack_carries.proofs.Used.{all_there}
use Rattle.pack_carries.proofs.Rows.{and_both}
use Rattle.build.specs.Plan.{Packed, refers_to}
use Rattle.build_exact.specs.Started.{AllSay, none_says, one_says}
use Rattle.build_exact.proofs.Refused.{lacks-row}
use Rattle.refusal.specs.Verdict.{fine}

-- ---- addresses that are not refused

none_missing : (look : Lookup) (a : Address) → bad_of a.view (resolve look a) ≡ fine → missing look a ≡ 0
unfolding resolve
none_missing look a e = by_tests (eqb (forbidden a) 0) (eqb (missing look a) 0) refl e
  where
    by_tests : (t u : Bool) → eqb (missing look a) 0 ≡ u
        → bad_of a.view
        (cond t (cond u (elements (elements_of look a)) (refused (MissingKey (missing look a) 0)))
        (refused (Combination (forbidden a) 0)))
        ≡ fine
        → missing look a ≡ 0
    by_tests true true q e = eqb-true (missing look a) 0 q
    by_tests true false q e = let z : ◌≡◌ {A = ℕ} 0 1 = cc in absurd (omega arith)
    by_tests false u q e = let z : ◌≡◌ {A = ℕ} 0 1 = cc in absurd (omega arith)

-- the row in force for a number is there, and stands for it
pub record Finds (st : Stock) (r : ℕ) : Type 0 where
  pub low : 1 ≤ st.row r
  pub high : st.row r < st.last
  pub is : st.stands_for (st.row r) ≡ r

module _ (st : Stock) (g : Good st) where
  finds : (r : ℕ) → (st.row r ≡ 0 → ⊥) → Finds st r
  finds r some = by_row (st.row r) refl
    where
      by_row : (i : ℕ) → st.row r ≡ i → Finds st r
      by_row zero e = absurd (some e)
      by_row (suc p) e =
          let f = g.found r p e in
          record { low = omega arith; high = omega (arith, f.0); is = ap st.stands_for e ∙ f.1 }

  asked-finds : (n r : ℕ) (keys : List Asked) → missing_from (look_in st) (suc n) keys ≡ 0 → refers_in r keys ≡ true
      → Finds st r
  unfolding look_in
  asked-finds n r [] e h = absurd (true≢false (sym h))
  asked-finds n r (a ∷ more) e h =
      by_tests (present a.key) (eqb r s) (lacks (texts_or_none st (st.row s))) refl refl e h
      (asked-finds (suc n) r more)
    where
      s : ℕ
      s = ref a.kind a.key

      by_tests : (t u v : Bool) → eqb r s ≡ u → lacks (texts_or_none st (st.row s)) ≡ v
          → cond (t && v) (suc n) (missing_from (look_in st) (suc (suc n)) more) ≡ 0
          → (t && u) || refers_in r more ≡ true
          → (missing_from (look_in st) (suc (suc n)) more ≡ 0 → refers_in r more ≡ true → Finds st r)
          → Finds st r
      by_tests true u true p q e h later = absurd (omega arith)
      by_tests true true false p q e h later =
          rw (eqb-true r s p) (finds s (eqb-false (st.row s) 0 (sym (lacks-row st (st.row s)) ∙ q)))
      by_tests true false false p q e h later = later e h
      by_tests false u v p q e h later = later e h

  pub referred-finds : (r : ℕ) (as' : List Address) → first_bad (look_in st) as' ≡ fine → refers r as' ≡ true → Finds st r
  referred-finds r [] e h = absurd (true≢false (sym h))
  referred-finds r (a ∷ as') e h =
      by-test (refers_in r (keys_of a)) refl h (referred-finds r as' both.1)
    where
      both : (bad_of a.view (resolve (look_in st) a) ≡ fine) × (first_bad (look_in st) as' ≡ fine)
      both = both-fine (bad_of a.view (resolve (look_in st) a)) (first_bad (look_in st) as') e

      by-test : (t : Bool) → refers_in r (keys_of a) ≡ t → t || refers r as' ≡ true → (refers r as' ≡ true → Finds st r)
          → Finds st r
      by-test true q h later =
          asked-finds 0 r (keys_of a) (all_there (look_in st) a (none_missing (look_in st) a both.0)).keys q
      by-test false q h later = later h

  -- ---- rows that are referred to

  and-over : (c s t : Bool) → (c && s) || (c && t) ≡ c && (s || t)
  and-over true s t = refl
  and-over false s t = refl

  module _ (i : ℕ) (low : 1 ≤ i) where
    abbrev owns : Bool
    owns = eqb (st.row (st.stands_for i)) i

    key_row : (r : ℕ) → eqb i (st.row r) ≡ owns && eqb (st.stands_for i) r
    key_row r = by_tests (eqb i (st.row r)) (eqb (st.stands_for i) r) refl refl
      where
        by_tests : (t u : Bool) → eqb i (st.row r) ≡ t → eqb (st.stands_for i) r ≡ u → t ≡ owns && u
        by_tests true u p q =
            let is = eqb-true i (st.row r) p in
            let e : st.stands_for i ≡ r = ap st.stands_for is ∙ (finds r (λ z. omega arith)).is in
            sym
            (and_both (eq-eqb (st.row (st.stands_for i)) i (ap st.row e ∙ sym is))
            (sym q ∙ eq-eqb (st.stands_for i) r e))
        by_tests false true p q =
            let e = ap st.row (eqb-true (st.stands_for i) r q) in
            sym (ap (λ b. b && true) (ne_eqb (st.row (st.stands_for i)) i (λ z. eqb-false i (st.row r) p (sym z ∙ e))))
        by_tests false false p q = sym (and-false owns)

    key-rows : (keys : List Asked) → elem i (rows_for st.row keys) ≡ owns && refers_in (st.stands_for i) keys
    key-rows [] = sym (and-false owns)
    key-rows (a ∷ more) =
        ap₂ ◌||◌ (by-test (present a.key)) (key-rows more) ∙ and-over owns _ (refers_in (st.stands_for i) more)
      where
        r : ℕ
        r = ref a.kind a.key

        by-test : (t : Bool) → eqb i (cond t (st.row r) 0) ≡ owns && (t && eqb (st.stands_for i) r)
        by-test true = key_row r
        by-test false = ne_eqb i 0 (λ z. omega arith) ∙ sym (and-false owns)

    pub refers-to : {own others : List ℕ} {ds : List Packed} {as' : List Address} → AllSay own others ds as'
        → refers_to st ds i ≡ eqb (st.row (st.stands_for i)) i && refers (st.stands_for i) as'
    refers-to none_says = sym (and-false owns)
    refers-to {as' = a ∷ as'} (one_says s rest) =
        ap₂ ◌||◌
        (ap (λ ks. elem i (rows_for st.row (asked_by key_kinds ks))) s.says.keys ∙ key-rows (keys_of a))
        (refers-to rest)
        ∙ and-over owns (refers_in (st.stands_for i) (keys_of a)) (refers (st.stands_for i) as')
