-- A pack sees the look-up through the keys that its addresses use, and through nothing else.
-- Assumes nothing.
use Prim.Native.Nat.{ℕ}
use mathlib.Core.Path.{◌≡◌, refl, sym, ap, ap₂, ◌∙◌}
use mathlib.Core.Bool.{Bool, true, false, ◌&&◌, ◌||◌}
use mathlib.Core.List.{List, [], ◌∷◌, ◌++◌}
use native.Mathlib.Omega.{arith}
use borrow.Author.Tests.{eq-eqb, eqb-true}
use lib.Dec.{eqb}
use Rattle.field.specs.Test.{elem}
use Rattle.field.proofs.Tests.{and_left, and_right, or-true}
use Rattle.source.specs.Address.{Lookup, Address, present, Asked, keys_of, ref, kind_of, key_of}
use Rattle.source.specs.Same.{AllOf, Agree, AllAgree}
use Rattle.pack.specs.Layout.{used_by, texts_or, entry, table_entries, organisation_entries, entries_of, pack_bytes, pack_of}
use Rattle.pack.specs.Names.{newest}
use Rattle.pack.specs.Sound.{KeysFit, AddressesSound}
use Rattle.pack_carries.specs.Used.{refers_in, refers}
use Rattle.pack_carries.proofs.Used.{used-exactly}
use Rattle.source.proofs.Refs.{ref-kind, ref-key}

-- each key of each address has eight digits
abbrev pub AllFit : List Address → Type 0
AllFit = AllOf (λ a. KeysFit (keys_of a))

pub sound-fit : (look : Lookup) (code : List ℕ) (low : ℕ) (addresses : List Address)
    → AddressesSound look code low addresses
    → AllFit addresses
sound-fit look code low [] g = tt
sound-fit look code low (a ∷ more) g = (g.1.0.keys, sound-fit look code a.view more g.1.1)

module _ (look other : Lookup) where
  -- they find the same for a number
  abbrev pub Alike : ℕ → Type 0
  Alike r = look (kind_of r) (key_of r) ≡ other (kind_of r) (key_of r)

  tables-same : (rs : List ℕ) → ((r : ℕ) → elem r rs ≡ true → Alike r) → table_entries look rs ≡ table_entries other rs
  tables-same [] h = refl
  tables-same (r ∷ rs) h =
      ap₂ ◌∷◌ (ap (λ o. entry r (texts_or o)) (h r (rw (eq-eqb r r refl))))
      (tables-same rs (λ s e. h s (rw e (or-true (eqb s r)))))

  -- for every number that an address refers to
  pub pack-same-used : (addresses : List Address) (code : List ℕ) → ((r : ℕ) → refers r addresses ≡ true → Alike r)
      → pack_of look addresses code ≡ pack_of other addresses code
  unfolding pack_of entries_of
  pack-same-used addresses code h =
      ap (λ es. pack_bytes newest (es ++ organisation_entries addresses) addresses code)
      (tables-same (used_by addresses) (λ r e. h r (sym (used-exactly r addresses) ∙ e)))

  alike-keys : (keys : List Asked) → KeysFit keys → Agree look other keys → (r : ℕ) → refers_in r keys ≡ true → Alike r
  alike-keys [] fit h r e = let z : ◌≡◌ {A = ℕ} 0 1 = cc in absurd (omega arith)
  alike-keys (a ∷ more) fit h r e =
      by-test (present a.key && eqb r (ref a.kind a.key)) refl e (alike-keys more fit.1 h.1 r)
    where
      by-test : (t : Bool) → present a.key && eqb r (ref a.kind a.key) ≡ t → t || refers_in r more ≡ true
          → (refers_in r more ≡ true → Alike r)
          → Alike r
      by-test true q e later =
          let is = eqb-true r (ref a.kind a.key) (and_right (present a.key) (eqb r (ref a.kind a.key)) q) in
          let k = ap kind_of is ∙ ref-kind a.kind a.key fit.0 in
          let n = ap key_of is ∙ ref-key a.kind a.key fit.0 in
          ap₂ look k n ∙ (h.0 (and_left (present a.key) _ q) ∙ sym (ap₂ other k n))
      by-test false q e later = later e

  alike_all : (addresses : List Address) → AllFit addresses → AllAgree look other addresses → (r : ℕ)
      → refers r addresses ≡ true
      → Alike r
  alike_all [] fit h r e = let z : ◌≡◌ {A = ℕ} 0 1 = cc in absurd (omega arith)
  alike_all (a ∷ more) fit h r e =
      by-test (refers_in r (keys_of a)) refl e (alike_all more fit.1 h.1 r)
    where
      by-test : (t : Bool) → refers_in r (keys_of a) ≡ t → t || refers r more ≡ true → (refers r more ≡ true → Alike r)
          → Alike r
      by-test true q e later = alike-keys (keys_of a) fit.0 h.0 r q
      by-test false q e later = later e

  -- for every key of every address
  pub pack-same : (addresses : List Address) (code : List ℕ) → AllFit addresses → AllAgree look other addresses
      → pack_of look addresses code ≡ pack_of other addresses code
  pack-same addresses code fit h = pack-same-used addresses code (alike_all addresses fit h)
