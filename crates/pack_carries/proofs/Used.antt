-- The rows that addresses use are those that their keys refer to, each once and rising; and each of them is found.
-- Assumes nothing.
use Prim.Native.Nat.{ℕ, suc, ◌≤◌, ◌<◌}
use mathlib.Core.Path.{◌≡◌, refl, sym, ap, ap₂, subst, ◌∙◌}
use mathlib.Core.Bool.{Bool, true, false, cond, not, ◌&&◌, ◌||◌}
use mathlib.Core.List.{List, [], ◌∷◌}
use mathlib.Core.Option.{Option, none, some}
use native.Mathlib.Omega.{arith}
use borrow.Author.Tests.{eqb-true, eqb-false, ltb-true, ltb-false}
use lib.Dec.{eqb, ltb}
use Rattle.field.specs.Test.{elem}
use Rattle.field.proofs.Tests.{or_assoc}
use Rattle.source.specs.Address.{Lookup, Address, present, Asked, keys_of, ref}
use Rattle.source.proofs.Refs.{ref-kind, ref-key}
use Rattle.source.specs.Resolve.{lacks, missing_from, lacks_organisation, missing}
use Rattle.pack.specs.Layout.{insert, insert_keys, used_by}
use Rattle.pack.specs.Sound.{RowSound, RowsSound, KeysFit, AddressesSound, Sound}
use Rattle.pack_carries.specs.Used.{refers_in, refers, Rises, RowFound}

-- ---- which they are

or-twice : (s t : Bool) → s || t ≡ s || (s || t)
or-twice true t = refl
or-twice false t = refl

or_swap : (r s t : Bool) → r || (s || t) ≡ s || (r || t)
or_swap true true t = refl
or_swap true false t = refl
or_swap false s t = refl

elem-insert : (r x : ℕ) (xs : List ℕ) → elem r (insert x xs) ≡ eqb r x || elem r xs
elem-insert r x [] = refl
elem-insert r x (y ∷ ys) = by_tests (ltb x y) (eqb x y) refl (elem-insert r x ys)
  where
    by_tests : (below same : Bool) → eqb x y ≡ same → elem r (insert x ys) ≡ eqb r x || elem r ys
        → elem r (cond below (x ∷ y ∷ ys) (cond same (y ∷ ys) (y ∷ insert x ys))) ≡ eqb r x || (eqb r y || elem r ys)
    by_tests true same e ih = refl
    by_tests false true e ih =
        rw (eqb-true x y e) (or-twice (eqb r y) (elem r ys))
    by_tests false false e ih = rw ih (or_swap (eqb r y) (eqb r x) (elem r ys))

elem-keys : (r : ℕ) (keys : List Asked) (rs : List ℕ) → elem r (insert_keys keys rs) ≡ refers_in r keys || elem r rs
elem-keys r [] rs = refl
elem-keys r (a ∷ more) rs = by-test (present a.key) (elem-keys r more rs)
  where
    by-test : (t : Bool) → elem r (insert_keys more rs) ≡ refers_in r more || elem r rs
        → elem r (cond t (insert (ref a.kind a.key) (insert_keys more rs)) (insert_keys more rs))
        ≡ ((t && eqb r (ref a.kind a.key)) || refers_in r more) || elem r rs
    by-test true ih =
        elem-insert r (ref a.kind a.key) (insert_keys more rs)
        ∙ (ap (λ t. eqb r (ref a.kind a.key) || t) ih
        ∙ or_assoc (eqb r (ref a.kind a.key)) (refers_in r more) (elem r rs))
    by-test false ih = ih

-- "the table rows used by a packed view", and no other
pub used-exactly : (r : ℕ) (addresses : List Address) → elem r (used_by addresses) ≡ refers r addresses
used-exactly r [] = refl
used-exactly r (a ∷ more) =
    elem-keys r (keys_of a) (used_by more) ∙ ap (λ t. refers_in r (keys_of a) || t) (used-exactly r more)

-- ---- in which order

rises-insert : (low r : ℕ) (xs : List ℕ) → low < r → Rises low xs → Rises low (insert r xs)
rises-insert low r [] h g = (h, tt)
rises-insert low r (x ∷ xs) h g = by_tests (ltb r x) (eqb r x) refl refl (λ above. rises-insert x r xs above g.1)
  where
    by_tests : (below same : Bool) → ltb r x ≡ below → eqb r x ≡ same → (x < r → Rises x (insert r xs))
        → Rises low (cond below (r ∷ x ∷ xs) (cond same (x ∷ xs) (x ∷ insert r xs)))
    by_tests true same b e ih = (h, (ltb-true r x b, g.1))
    by_tests false true b e ih = g
    by_tests false false b e ih =
        let apart : r ≡ x → ⊥ = eqb-false r x e in
        (g.0, ih (omega (arith, ltb-false r x b)))

rises-keys : (keys : List Asked) (rs : List ℕ) → Rises 0 rs → Rises 0 (insert_keys keys rs)
rises-keys [] rs g = g
rises-keys (a ∷ more) rs g = by-test (eqb a.key 0) refl (rises-keys more rs g)
  where
    by-test : (t : Bool) → eqb a.key 0 ≡ t → Rises 0 (insert_keys more rs)
        → Rises 0 (cond (not t) (insert (ref a.kind a.key) (insert_keys more rs)) (insert_keys more rs))
    by-test true e ih = ih
    by-test false e ih =
        let some_key : a.key ≡ 0 → ⊥ = eqb-false a.key 0 e in
        rises-insert 0 (ref a.kind a.key) (insert_keys more rs) (omega arith) ih

-- "by type then key, each once"
pub used-rises : (addresses : List Address) → Rises 0 (used_by addresses)
used-rises [] = tt
used-rises (a ∷ more) = rises-keys (keys_of a) (used_by more) (used-rises more)

-- ---- what they find

abbrev pub Each : (ℕ → Type 0) → List ℕ → Type 0
Each P [] = Unit {0}
Each P (x ∷ xs) = P x × Each P xs

module _ (P : ℕ → Type 0) where
  each-insert : (r : ℕ) (xs : List ℕ) → P r → Each P xs → Each P (insert r xs)
  each-insert r [] p g = (p, tt)
  each-insert r (x ∷ xs) p g = by_tests (ltb r x) (eqb r x) (each-insert r xs p g.1)
    where
      by_tests : (below same : Bool) → Each P (insert r xs)
          → Each P (cond below (r ∷ x ∷ xs) (cond same (x ∷ xs) (x ∷ insert r xs)))
      by_tests true same ih = (p, g)
      by_tests false true ih = g
      by_tests false false ih = (g.0, ih)

  pub each_of : (xs : List ℕ) → Each P xs → (r : ℕ) → elem r xs ≡ true → P r
  each_of [] g r e = let z : ◌≡◌ {A = ℕ} 0 1 = cc in absurd (omega arith)
  each_of (x ∷ xs) g r e = by-test (eqb r x) refl (λ later. each_of xs g.1 r later) e
    where
      by-test : (t : Bool) → eqb r x ≡ t → (elem r xs ≡ true → P r) → t || elem r xs ≡ true → P r
      by-test true q later e = subst P (sym (eqb-true r x q)) g.0
      by-test false q later e = later e

-- the keys of tables
abbrev KindsFit : List Asked → Type 0
KindsFit [] = Unit {0}
KindsFit (a ∷ more) = ((1 ≤ a.kind) × (a.kind ≤ 5)) × KindsFit more

kinds-fit : (a : Address) → KindsFit (keys_of a)
kinds-fit a = omega arith

-- a view that lacks no row
pub record AllThere (look : Lookup) (a : Address) : Type 0 where
  pub locality : present a.locality ≡ true
  pub keys : missing_from look 1 (keys_of a) ≡ 0

pub all_there : (look : Lookup) (a : Address) → missing look a ≡ 0 → AllThere look a
unfolding missing
all_there look a e =
    let both = by_tests (present a.locality) (lacks_organisation a.organisation) (missing_from look 1 (keys_of a)) e in
    record { locality = both.0; keys = both.1 }
  where
    by_tests : (t u : Bool) (m : ℕ) → cond (not t) 1 (cond (eqb m 0) (cond u 8 0) m) ≡ 0 → (t ≡ true) × (m ≡ 0)
    by_tests true u m e = (refl, by-test (eqb m 0) refl e)
      where
        by-test : (t : Bool) → eqb m 0 ≡ t → cond t (cond u 8 0) m ≡ 0 → m ≡ 0
        by-test true q e = eqb-true m 0 q
        by-test false q e = e
    by_tests false u m e = absurd (omega arith)

module _ (look : Lookup) (rows : RowsSound look) where
  row-found : (kind key : ℕ) (texts : List (List ℕ)) → 1 ≤ kind → kind ≤ 5 → key ≤ 99_999_999
      → look kind key ≡ some texts → RowFound look (ref kind key)
  row-found kind key texts low high small e =
      let k = ref-kind kind key small in
      record {
        low = omega (arith, k);
        high = omega (arith, k);
        texts = texts;
        found = ap₂ look k (ref-key kind key small) ∙ e;
        sound = subst (λ n. RowSound n texts) (sym k) (rows kind key texts low high small e);
      }

  found-keys : (n : ℕ) (keys : List Asked) (rs : List ℕ) → KindsFit keys → KeysFit keys
      → missing_from look (suc n) keys ≡ 0 → Each (RowFound look) rs → Each (RowFound look) (insert_keys keys rs)
  found-keys n [] rs kinds small e g = g
  found-keys n (a ∷ more) rs kinds small e g =
      by_row (present a.key) (look a.kind a.key) refl e
      (λ later. found-keys (suc n) more rs kinds.1 small.1 later g)
    where
      by_row : (t : Bool) (row : Option (List (List ℕ))) → look a.kind a.key ≡ row
          → cond (t && lacks row) (suc n) (missing_from look (suc (suc n)) more) ≡ 0
          → (missing_from look (suc (suc n)) more ≡ 0 → Each (RowFound look) (insert_keys more rs))
          → Each (RowFound look) (cond t (insert (ref a.kind a.key) (insert_keys more rs)) (insert_keys more rs))
      by_row true none f e ih = absurd (omega arith)
      by_row true (some texts) f e ih =
          each-insert (RowFound look) (ref a.kind a.key) (insert_keys more rs)
          (row-found a.kind a.key texts kinds.0.0 kinds.0.1 small.0 f) (ih e)
      by_row false none f e ih = ih e
      by_row false (some texts) f e ih = ih e

  found-used : (code : List ℕ) (low : ℕ) (addresses : List Address) → AddressesSound look code low addresses
      → Each (RowFound look) (used_by addresses)
  found-used code low [] g = tt
  found-used code low (a ∷ more) g =
      found-keys 0 (keys_of a) (used_by more) (kinds-fit a) g.1.0.keys (all_there look a g.1.0.rows).keys
      (found-used code a.view more g.1.1)

-- every row that is used is found in its table, and is sound
pub used-each : (look : Lookup) (addresses : List Address) (code : List ℕ) → Sound look addresses code
    → Each (RowFound look) (used_by addresses)
used-each look addresses code g = found-used look g.of_rows code 0 addresses g.of_addresses

pub used-found : (look : Lookup) (addresses : List Address) (code : List ℕ) → Sound look addresses code → (r : ℕ)
    → elem r (used_by addresses) ≡ true
    → RowFound look r
used-found look addresses code g r e = each_of (RowFound look) (used_by addresses) (used-each look addresses code g) r e
