-- The elements that a delivery point is printed from are those of its address.
-- Assumes nothing.
use Prim.Native.Nat.{ℕ, zero, suc, ◌<◌}
use mathlib.Core.Path.{◌≡◌, refl, sym, ap, ◌∙◌}
use mathlib.Core.Bool.{Bool, true, false, cond, not}
use mathlib.Core.List.{List, [], ◌∷◌}
use native.Mathlib.Omega.{arith}
use borrow.Author.Tests.{ne_eqb}
use lib.Dec.{eqb}
use lib.ListN.{get_or}
use Rattle.field.specs.Text.{text_in}
use Rattle.source.specs.declared.DeliveryPoint.{DeliveryPoint}
use Rattle.source.specs.Address.{Lookup, Address, present, ref, kind_of}
use Rattle.source.specs.Resolve.{text_or, text_of, elements_of}
use Rattle.source.specs.Delivery.{Says, rows_for, asked_of}
use Rattle.source.proofs.Refs.{ref-kind}
use Rattle.shelf.specs.declared.Shelf.{Shelf}
use Rattle.shelf.specs.Shelf.{texts_in, record_of, texts_at, row_of}
use Rattle.shelf.specs.Stock.{stock_of, texts_or_none, look_in, Good}
use Rattle.source_spans.specs.Spans.{row_text, elements_from, elements_by}

module _ (s : Shelf) (file : List ℕ) (g : Good (stock_of s file)) where
  -- a row that is found has the texts of its kind
  row-said : (kind key n : ℕ) → key < 100_000_000 → (r : ℕ) → row_of s file (ref kind key) ≡ r
      → row_text s file r kind n ≡ text_or (texts_or_none (stock_of s file) r) n
  unfolding texts_at
  row-said kind key n small zero e = refl
  row-said kind key n small (suc q) e =
      let is = ap kind_of (g.found (ref kind key) q e).1 ∙ ref-kind kind key (omega arith) in
      simp (ne_eqb (suc q) 0 (λ z. omega arith)) (rw is)

  -- the text of the row that a key finds, if it is not zero
  pub key-said : (kind key n : ℕ) → key < 100_000_000
      → row_text s file (cond (present key) (row_of s file (ref kind key)) 0) kind n
      ≡ text_of (look_in (stock_of s file)) kind key n
  unfolding look_in
  key-said kind key n small = by-test (eqb key 0)
    where
      r : ℕ
      r = row_of s file (ref kind key)

      by-test : (t : Bool)
          → row_text s file (cond (not t) r 0) kind n ≡ cond (not t) (text_or (texts_or_none (stock_of s file) r) n) []
      by-test true = refl
      by-test false = row-said kind key n small r refl

-- ---- all elements

-- what holds of each kind
abbrev pub Kinds : (ℕ → Type 0) → Type 0
Kinds P = P 1 × (P 2 × (P 3 × (P 4 × P 5)))

-- the rows that the keys of an address find, by a way from a kind and a number to a row
abbrev pub found_by : (ℕ → ℕ → ℕ) → Address → List ℕ
found_by row a =
    cond (present a.locality) (row 1 (ref 1 a.locality)) 0
    ∷ cond (present a.thoroughfare) (row 2 (ref 2 a.thoroughfare)) 0
    ∷ cond (present a.descriptor) (row 3 (ref 3 a.descriptor)) 0
    ∷ cond (present a.dependent) (row 2 (ref 2 a.dependent)) 0
    ∷ cond (present a.dependent_descriptor) (row 3 (ref 3 a.dependent_descriptor)) 0
    ∷ cond (present a.building) (row 4 (ref 4 a.building)) 0
    ∷ cond (present a.sub_building) (row 5 (ref 5 a.sub_building)) 0
    ∷ []

module _ (look : Lookup) (text : ℕ → ℕ → ℕ → List ℕ) (row : ℕ → ℕ → ℕ)
    (said : Kinds (λ kind. (key n : ℕ) → key < 100_000_000
    → text (cond (present key) (row kind (ref kind key)) 0) kind n ≡ text_of look kind key n))
    (own others : List ℕ) (p : DeliveryPoint) (a : Address) (says : Says own others p a) where
  pub elements-from : elements_from text own others p (found_by row a) ≡ elements_of look a
  unfolding elements_of text_in
  elements-from =
      let small = says.small in
      let from-thoroughfare = small.1 in
      let from-descriptor = from-thoroughfare.1 in
      let from-dependent = from-descriptor.1 in
      let from-dependent-descriptor = from-dependent.1 in
      let from-building = from-dependent-descriptor.1 in
      let thoroughfares = said.1 in
      let descriptors = thoroughfares.1 in
      let buildings = descriptors.1 in
      rw (
        says.organisation,
        says.box,
        says.number,
        says.concatenation,
        says.outward,
        says.inward,
        buildings.1 a.sub_building 0 from-building.1.0,
        buildings.0 a.building 0 from-building.0,
        thoroughfares.0 a.dependent 0 from-dependent.0,
        descriptors.0 a.dependent_descriptor 0 from-dependent-descriptor.0,
        thoroughfares.0 a.thoroughfare 0 from-thoroughfare.0,
        descriptors.0 a.descriptor 0 from-descriptor.0,
        said.0 a.locality 2 small.0,
        said.0 a.locality 1 small.0,
        said.0 a.locality 0 small.0,
      )

-- where all rows stand on one shelf
module _ (s : Shelf) (file : List ℕ) (g : Good (stock_of s file)) (own : List ℕ) (p : DeliveryPoint) (a : Address)
    (says : Says own own p a) where
  pub elements-meant : (rows : List ℕ) → rows ≡ rows_for (row_of s file) (asked_of p)
      → elements_by s file own p rows ≡ elements_of (look_in (stock_of s file)) a
  unfolding elements_by
  elements-meant rows e =
      let said = key-said s file g in
      rw (e, says.keys)
      (elements-from (look_in (stock_of s file)) (row_text s file) (λ kind. row_of s file)
      (said 1, (said 2, (said 3, (said 4, said 5)))) own own p a says)
