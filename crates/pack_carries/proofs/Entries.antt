-- The rows of a sound source's pack: each is sound, and each that an address refers to is among them.
-- Assumes nothing.
use Prim.Native.Nat.{ℕ, ◌≤◌, ◌<◌}
use mathlib.Core.Path.{◌≡◌, refl, sym, ap, ap₂, subst, ◌∙◌}
use mathlib.Core.Bool.{Bool, true, false, cond, ◌&&◌, ◌||◌}
use mathlib.Core.List.{List, [], ◌∷◌, ◌++◌}
use mathlib.Core.Option.{some}
use native.Mathlib.Omega.{arith}
use borrow.Author.Tests.{eq-eqb, ne_eqb, eqb-true, eqb-false}
use lib.Dec.{eqb}
use Rattle.field.specs.Test.{elem}
use Rattle.field.proofs.Tests.{or-true}
use Rattle.source.specs.Address.{Lookup, Organisation, none_needed, named, lacking, Address, present, Asked, keys_of, ref, kind_of, key_of}
use Rattle.pack.specs.Layout.{Entry, entry, used_by, texts_or, table_entries, organisation_entry, organisation_entries, entries_of}
use Rattle.pack.specs.Sound.{RowSound, OrganisationSound, KeysFit, AddressesSound, Sound}
use Rattle.pack_carries.specs.Used.{refers_in, refers, Rises, RowFound}
use Rattle.pack_carries.proofs.Used.{used-exactly, used-rises, used-each, used-found, Each}
use Rattle.source.proofs.Refs.{ref-kind, ref-key}
use Rattle.pack_carries.proofs.Rows.{EntrySound, EntriesSound, and_both}
use Rattle.pack_carries.proofs.Found.{texts_for}

-- ---- each is sound

entries-lower : (low lower : ℕ) (es : List Entry) → lower ≤ low → EntriesSound low es → EntriesSound lower es
entries-lower low lower [] h g = g
entries-lower low lower (e ∷ es) h g = (omega (arith, g.0), g.1)

abbrev organisation_row : ℕ → List ℕ → List ℕ → Entry
organisation_row view name department = entry (ref 6 view) (name ∷ department ∷ [])

organisation-row : (view type key : ℕ) (name department : List ℕ) → view ≤ 99_999_999
    → OrganisationSound type key (named name department)
    → EntrySound (organisation_row view name department)
organisation-row view type key name department small g =
    record {
      known = omega arith;
      row = subst (λ k. RowSound k (name ∷ department ∷ [])) (sym (ref-kind 6 view small))
          (record { fit = and_both g.0 (and_both g.1.0 refl); double = λ e. absurd (omega arith) });
    }

organisations-sound : (look : Lookup) (code : List ℕ) (low : ℕ) (addresses : List Address)
    → AddressesSound look code low addresses
    → EntriesSound 6 (organisation_entries addresses)
organisations-sound look code low [] g = tt
organisations-sound look code low (a ∷ more) g =
    by-case a.organisation g.1.0.organisation (organisations-sound look code a.view more g.1.1)
  where
    kind : kind_of (ref 6 a.view) ≡ 6
    kind = ref-kind 6 a.view g.1.0.view

    by-case : (o : Organisation) → OrganisationSound a.postcode_type a.organisation_key o
        → EntriesSound 6 (organisation_entries more)
        → EntriesSound 6 (organisation_entry a.view o ++ organisation_entries more)
    by-case none_needed h later = later
    by-case (named name department) h later = (
      omega (arith, kind),
      (
        organisation-row a.view a.postcode_type a.organisation_key name department g.1.0.view h,
        subst (λ k. EntriesSound k (organisation_entries more)) (sym kind) later,
      ),
    )
    by-case lacking h later = absurd h

-- a row that is used, as an entry
table-row : (look : Lookup) (r : ℕ) → RowFound look r → EntrySound (entry r (texts_or (look (kind_of r) (key_of r))))
table-row look r f =
    record {
      known = omega (arith, f.high);
      row = subst (λ o. RowSound (kind_of r) (texts_or o)) (sym f.found) f.sound;
    }

-- rows that rise, their kinds from k on
tables-sound : (look : Lookup) (k before : ℕ) (rs : List ℕ) (more : List Entry) → k ≤ 6
    → ((r : ℕ) → RowFound look r → before < r → k ≤ kind_of r)
    → Rises before rs
    → Each (RowFound look) rs
    → EntriesSound 6 more
    → EntriesSound k (table_entries look rs ++ more)
tables-sound look k before [] more small low rises found later = entries-lower 6 k more small later
tables-sound look k before (r ∷ rs) more small low rises found later = (
  low r found.0 rises.0,
  (
    table-row look r found.0,
    tables-sound look (kind_of r) r rs more (omega (arith, found.0.high)) (λ s f l. omega arith) rises.1 found.1
        later,
  ),
)

pub entries-sound : (look : Lookup) (addresses : List Address) (code : List ℕ) → Sound look addresses code
    → EntriesSound 1 (entries_of look addresses)
unfolding entries_of
entries-sound look addresses code g =
    tables-sound look 1 0 (used_by addresses) (organisation_entries addresses) (omega arith) (λ r f l. f.low)
    (used-rises addresses) (used-each look addresses code g)
    (organisations-sound look code 0 addresses g.of_addresses)

-- ---- each that is referred to is found

module _ (look : Lookup) (more : List Entry) (r : ℕ) where
  find-used : (rs : List ℕ) → elem r rs ≡ true
      → texts_for (table_entries look rs ++ more) r ≡ some (texts_or (look (kind_of r) (key_of r)))
  find-used [] e = let z : ◌≡◌ {A = ℕ} 0 1 = cc in absurd (omega arith)
  find-used (x ∷ xs) e = by-test (eqb x r) refl (find-used xs)
    where
      by-test : (t : Bool) → eqb x r ≡ t
          → (elem r xs ≡ true → texts_for (table_entries look xs ++ more) r ≡ some (texts_or (look (kind_of r) (key_of r))))
          → cond t (some (texts_or (look (kind_of x) (key_of x)))) (texts_for (table_entries look xs ++ more) r)
          ≡ some (texts_or (look (kind_of r) (key_of r)))
      by-test true q later = ap (λ n. some (texts_or (look (kind_of n) (key_of n)))) (eqb-true x r q)
      by-test false q later = later (rw (ne_eqb r x (λ p. eqb-false x r q (sym p))) at e)

  find-other : (rs : List ℕ) → (elem r rs ≡ true → ⊥) → texts_for (table_entries look rs ++ more) r ≡ texts_for more r
  find-other [] n = refl
  find-other (x ∷ xs) n = by-test (eqb r x) refl (find-other xs) n
    where
      by-test : (t : Bool) → eqb r x ≡ t
          → ((elem r xs ≡ true → ⊥) → texts_for (table_entries look xs ++ more) r ≡ texts_for more r)
          → (t || elem r xs ≡ true → ⊥)
          → texts_for (table_entries look (x ∷ xs) ++ more) r ≡ texts_for more r
      by-test true q later n = absurd (n refl)
      by-test false q later n = rw (ne_eqb x r (λ p. eqb-false r x q (sym p))) (later n)

-- a key that is not zero, its row looked up and packed
pub record KeyFound (look : Lookup) (es : List Entry) (kind key : ℕ) : Type 0 where
  pub small : key ≤ 99_999_999
  pub texts : List (List ℕ)
  pub row : look kind key ≡ some texts
  pub found : texts_for es (ref kind key) ≡ some texts

abbrev pub KeysFound : Lookup → List Entry → List Asked → Type 0
KeysFound look es [] = Unit {0}
KeysFound look es (a ∷ more) =
    (present a.key ≡ true → KeyFound look es a.kind a.key) × KeysFound look es more

abbrev pub OrganisationFound : List Entry → ℕ → Organisation → Type 0
OrganisationFound es view none_needed = Unit {0}
OrganisationFound es view (named name department) = texts_for es (ref 6 view) ≡ some (name ∷ department ∷ [])
OrganisationFound es view lacking = ⊥

pub record RowsFound (look : Lookup) (es : List Entry) (a : Address) : Type 0 where
  pub keys : KeysFound look es (keys_of a)
  pub organisation : OrganisationFound es a.view a.organisation

abbrev pub AllFound : Lookup → List Entry → List Address → Type 0
AllFound look es [] = Unit {0}
AllFound look es (a ∷ more) = RowsFound look es a × AllFound look es more

module _ (look : Lookup) (rs : List ℕ) (orgs : List Entry) (found : (r : ℕ) → elem r rs ≡ true → RowFound look r) where
  abbrev es : List Entry
  es = table_entries look rs ++ orgs

  key-found : (kind key : ℕ) → key ≤ 99_999_999 → elem (ref kind key) rs ≡ true → KeyFound look es kind key
  key-found kind key small used =
      let f = found (ref kind key) used in
      record {
        small = small;
        texts = f.texts;
        row = sym (ap₂ look (ref-kind kind key small) (ref-key kind key small)) ∙ f.found;
        found = find-used look orgs (ref kind key) rs used ∙ ap (λ o. some (texts_or o)) f.found;
      }

  keys_found : (keys : List Asked) → KeysFit keys → ((r : ℕ) → refers_in r keys ≡ true → elem r rs ≡ true)
      → KeysFound look es keys
  keys_found [] fit used = tt
  keys_found (a ∷ more) fit used =
      let r = ref a.kind a.key in (
        λ h. key-found a.kind a.key fit.0 (used r (rw (h, eq-eqb r r refl))),
        keys_found more fit.1 (λ s e. used s (rw e (or-true (present a.key && eqb s r)))),
      )

  -- a view above is not the one of these rows
  skip-row : (view v : ℕ) (o : Organisation) (more : List Entry) → view < v
      → texts_for (organisation_entry view o ++ more) (ref 6 v) ≡ texts_for more (ref 6 v)
  skip-row view v none_needed more h = refl
  skip-row view v (named name department) more h = rw (ne_eqb (ref 6 view) (ref 6 v) (λ e. omega arith))
  skip-row view v lacking more h = refl

  organisation-found : (view type key : ℕ) (o : Organisation) (more : List Entry) → OrganisationSound type key o
      → texts_for es (ref 6 view) ≡ texts_for (organisation_entry view o ++ more) (ref 6 view)
      → OrganisationFound es view o
  organisation-found view type key none_needed more g e = tt
  organisation-found view type key (named name department) more g e = e ∙ rw (eq-eqb (ref 6 view) (ref 6 view) refl)
  organisation-found view type key lacking more g e = g

  addresses-found : (code : List ℕ) (low : ℕ) (addresses : List Address) → AddressesSound look code low addresses
      → ((r : ℕ) → refers r addresses ≡ true → elem r rs ≡ true)
      → ((v : ℕ) → low < v → v ≤ 99_999_999 → texts_for es (ref 6 v) ≡ texts_for (organisation_entries addresses) (ref 6 v))
      → AllFound look es addresses
  addresses-found code low [] g used rows = tt
  addresses-found code low (a ∷ more) g used rows = (
    record {
      keys = keys_found (keys_of a) g.1.0.keys (λ r e. used r (rw e));
      organisation = organisation-found a.view a.postcode_type a.organisation_key a.organisation
          (organisation_entries more) g.1.0.organisation (rows a.view g.0 g.1.0.view);
    },
    addresses-found code a.view more g.1.1 (λ r e. used r (rw e (or-true (refers_in r (keys_of a)))))
        (λ v h small. rows v (omega (arith, g.0)) small ∙ skip-row a.view v a.organisation (organisation_entries more) h),
  )

pub all_found : (look : Lookup) (addresses : List Address) (code : List ℕ) → Sound look addresses code
    → AllFound look (entries_of look addresses) addresses
unfolding entries_of
all_found look addresses code g =
    addresses-found look (used_by addresses) (organisation_entries addresses) (used-found look addresses code g) code 0
    addresses g.of_addresses (λ r e. used-exactly r addresses ∙ e) by-view
  where
    by-view : (v : ℕ) → 0 < v → v ≤ 99_999_999
        → texts_for (table_entries look (used_by addresses) ++ organisation_entries addresses) (ref 6 v)
        ≡ texts_for (organisation_entries addresses) (ref 6 v)
    by-view v h small =
        find-other look (organisation_entries addresses) (ref 6 v) (used_by addresses)
        (λ e. omega (arith, (used-found look addresses code g (ref 6 v) e).high, ref-kind 6 v small))
