-- Refusals 8 and 9 of a delivery point, by its keys and the rows that these find, are those of its address.
-- Assumes nothing.
use Prim.Native.Nat.{ℕ, suc, ◌+◌}
use mathlib.Core.Path.{◌≡◌, refl, sym}
use mathlib.Core.Bool.{Bool, true, false, cond, ◌&&◌}
use mathlib.Core.List.{List, [], ◌∷◌}
use mathlib.Core.Option.{none, some}
use lib.Dec.{eqb}
use Rattle.field.specs.Text.{text_in}
use Rattle.refusal.specs.declared.Reason.TheVariants.{Combination, MissingKey}
use Rattle.source.specs.declared.DeliveryPoint.{DeliveryPoint}
use Rattle.source.specs.Address.{none_needed, named, lacking, Address, present, key_kinds, key_numbers, asked_by, ref}
use Rattle.source.specs.Resolve.{forbidden, lacks, missing_from, lacks_organisation, missing, elements_of, resolve}
use Rattle.source.specs.Delivery.{Says, rows_for, asked_of, forbidden_in, lacking_from, missing_in, refusal_in}
use Rattle.shelf.specs.Stock.{Stock, look_in}
pub use Rattle.source_meaning.proofs.Verdicts.{resolved_by}
use Rattle.source_meaning.proofs.Verdicts.{by-verdict}

-- a key that finds row r lacks it where it has no texts
lacks-meant : (t : Bool) (r : ℕ) (texts : List (List ℕ))
    → t && eqb (cond t r 0) 0 ≡ t && lacks (cond (eqb r 0) none (some texts))
lacks-meant false r texts = refl
lacks-meant true r texts = by-test (eqb r 0)
  where
    by-test : (u : Bool) → u ≡ lacks (cond u none (some texts))
    by-test true = refl
    by-test false = refl

-- an organisation is lacking where it is said to be
lacking-said : (there not_there : Bool) (name department : List ℕ) → (not_there && there) ≡ false
    → lacks_organisation (cond there (named name department) (cond not_there lacking none_needed)) ≡ not_there
lacking-said true true name department e = sym e
lacking-said true false name department e = refl
lacking-said false true name department e = refl
lacking-said false false name department e = refl

module _ (st : Stock) where
  from-meant : (n : ℕ) (kinds keys : List ℕ)
      → lacking_from n keys (rows_for st.row (asked_by kinds keys)) ≡ missing_from (look_in st) n (asked_by kinds keys)
  unfolding look_in
  from-meant n [] [] = refl
  from-meant n [] (v ∷ vs) = refl
  from-meant n (k ∷ ks) [] = refl
  from-meant n (k ∷ ks) (v ∷ vs) =
      let r = st.row (ref k v) in
      rw (lacks-meant (present v) r (st.texts r), from-meant (suc n) ks vs)

  module _ (own others : List ℕ) (p : DeliveryPoint) (a : Address) (says : Says own others p a) where
    forbidden-meant : forbidden_in p ≡ forbidden a
    unfolding forbidden_in forbidden
    forbidden-meant = rw (says.keys, says.number)

    missing-meant : missing_in p (rows_for st.row (asked_of p)) ≡ missing (look_in st) a
    unfolding missing_in missing
    missing-meant =
        let o = p.organisation in
        let lost =
        lacking-said p.organised p.lacking (text_in others o (o + 60)) (text_in others (o + 60) (o + 120)) says.one in
        rw (says.keys, sym says.organisation, lost, from-meant 1 key_kinds (key_numbers a))

    -- what the address resolves to, by what code finds out
    pub refusal-meant : (rows : List ℕ) → rows ≡ rows_for st.row (asked_of p)
        → resolve (look_in st) a ≡ resolved_by (refusal_in p rows) (elements_of (look_in st) a)
    unfolding resolve refusal_in
    refusal-meant rows e =
        let f = forbidden a in
        let m = missing (look_in st) a in
        rw (e, forbidden-meant, missing-meant)
        (by-verdict (eqb f 0) (eqb m 0) (Combination f 0) (MissingKey m 0) (elements_of (look_in st) a))
