-- The points of a pack are those that a builder writes from the delivery points.
-- Assumes nothing.
use Prim.Native.Nat.{ℕ, ◌+◌, ◌-◌}
use mathlib.Core.Path.{◌≡◌, refl, sym, ap, ap₂, ◌∙◌}
use mathlib.Core.Bool.{Bool, true, false, cond, ◌&&◌}
use mathlib.Core.List.{List, [], ◌∷◌, ◌++◌, append_assoc, append-nil}
use mathlib.Core.Option.{Option, none, some}
use native.Mathlib.Omega.{arith}
use borrow.Author.Tests.{eq-eqb}
use lib.Dec.{eqb}
use lib.ListN.{length, drop, get_or}
use lib.Seq.{take-add, drop-drop}
use Rattle.field.specs.Text.{part}
use Rattle.source.specs.Address.{Address, present, key_kinds, key_numbers, asked_by, keys_of, ref}
use Rattle.source.specs.Delivery.{Says, rows_for}
use Rattle.source.specs.declared.DeliveryPoint.{DeliveryPoint}
use Rattle.shelf.specs.Stock.{Stock}
use Rattle.pack.specs.Numbers.{bytes_of}
use Rattle.pack.specs.Names.{absent, newest}
use Rattle.pack.specs.Layout.{Entry, organisation_entries, key_refs, organisation_ref, offset_of, ref_bytes, refs_bytes, postcode_of, plain_of, points_bytes}
use Rattle.pack_carries.specs.Used.{refers_in, refers}
use Rattle.pack_carries.proofs.Rows.{and_both}
use Rattle.build.specs.Plan.{Packed, rows_of, organisation_row}
use Rattle.build.specs.Bytes.{offsets_for, offset_bytes, front_in, plain_in, point_with, points_in}
use Rattle.build_exact.specs.Started.{AllSay, none_says, one_says, Rising}
use Rattle.build_exact.proofs.Orders.{or_left, or_right}
use Rattle.build_exact.proofs.Organisations.{Standing, organisation-ref, stand-on}

-- what a point says without its rows
module _ {own others : List ℕ} {p : DeliveryPoint} {a : Address} (s : Says own others p a) where
  -- "postcode 7" is its two fields
  postcode-is : postcode_of a ≡ part own p.postcode (p.postcode + 7)
  postcode-is =
      let at = p.postcode in
      let whole : at + 7 - at ≡ 4 + 3 = omega arith in
      let first : at + 4 - at ≡ 4 = omega arith in
      let second : at + 7 - (at + 4) ≡ 3 = omega arith in
      sym
      (rw (whole, take-add 4 3 (drop at own), drop-drop 4 at own)
      (ap₂ ◌++◌ (rw first at s.outward) (rw second at s.inward)))

  -- and the suffix stands behind it, whatever follows
  front-is : (more : List ℕ) → postcode_of a ++ (a.suffix ++ more) ≡ front_in own p ++ more
  front-is more =
      ap₂ (λ l m. l ++ (m ++ more)) postcode-is (sym s.suffix)
      ∙ sym (append_assoc (part own p.postcode (p.postcode + 7)) (part own p.suffix (p.suffix + 2)) more)

  plain-is : plain_of a ≡ plain_in own p
  plain-is =
      rw (s.postcode_type, s.address_key, s.organisation_key, s.number, s.concatenation, s.box)

-- the offsets of all but the last, then the last
refs-last : (es : List Entry) (rs : List (Option ℕ)) (r : Option ℕ)
    → refs_bytes es (rs ++ (r ∷ [])) ≡ refs_bytes es rs ++ ref_bytes es r
refs-last es [] r = append-nil (ref_bytes es r)
refs-last es (x ∷ rs) r = rw (refs-last es rs r) (sym (append_assoc (ref_bytes es x) (refs_bytes es rs) (ref_bytes es r)))

module _ (st : Stock) (starts : List ℕ) (es : List Entry) where
  -- the row in force for r stands where the builder put it
  abbrev Placed : ℕ → Type 0
  Placed r = offset_of es r ≡ get_or starts (st.row r) 0 - 1

  -- "eight row offsets of 4", those of the keys
  keys-are : (kinds keys : List ℕ) → ((r : ℕ) → refers_in r (asked_by kinds keys) ≡ true → Placed r)
      → refs_bytes es (key_refs (asked_by kinds keys)) ≡ offset_bytes (offsets_for starts keys (rows_for st.row (asked_by kinds keys)))
  keys-are [] [] placed = refl
  keys-are [] (key ∷ keys) placed = refl
  keys-are (kind ∷ kinds) [] placed = refl
  keys-are (kind ∷ kinds) (key ∷ keys) placed =
      ap₂ ◌++◌ (by-test (present key) refl)
      (keys-are kinds keys
      (λ r e. placed r (or_right (present key && eqb r (ref kind key)) (refers_in r (asked_by kinds keys)) e)))
    where
      r : ℕ
      r = ref kind key

      by-test : (t : Bool) → present key ≡ t
          → ref_bytes es (cond t (some r) none) ≡ bytes_of 4 (cond t (get_or starts (cond t (st.row r) 0) 0 - 1) absent)
      by-test true q =
          ap (bytes_of 4)
          (placed r
          (or_left (present key && eqb r r) (refers_in r (asked_by kinds keys)) (and_both q (eq-eqb r r refl))))
      by-test false q = refl

  module _ {own others : List ℕ} where
    pub points-are : {ds : List Packed} {as' : List Address} (at low : ℕ) → AllSay own others ds as' → Rising low ds
        → Standing es at low as'
        → ((r : ℕ) → refers r as' ≡ true → offset_of es r ≡ get_or starts (st.row r) 0 - 1)
        → points_bytes newest es as' ≡ points_in st own others starts at ds
    unfolding point_with
    points-are at low none_says rise stand placed = refl
    points-are {ds = d ∷ ds} {as' = a ∷ as'} at low (one_says s rest) rise stand placed =
        let keys : refs_bytes es (key_refs (keys_of a)) ≡ offset_bytes (offsets_for starts d.point.keys (rows_of st d.point)) =
        rw s.says.keys
        (keys-are key_kinds (key_numbers a) (λ r e. placed r (or_left (refers_in r (keys_of a)) (refers r as') e))) in
        let organisation =
        organisation-ref s es (organisation_entries as') at (stand (ref 6 a.view) (omega (arith, s.view, rise.0))) in
        ap₂ ◌++◌
        (front-is s.says _
        ∙ ap (λ l. front_in own d.point ++ l)
        (ap₂ ◌++◌ (plain-is s.says)
        (refs-last es (key_refs (keys_of a)) (organisation_ref a.view a.organisation) ∙ ap₂ ◌++◌ keys organisation)))
        (points-are (at + length (organisation_row others d.point)) d.view rest rise.1.1
        (stand-on es at low as' s rise.0 rise.1.0 stand)
        (λ r e. placed r (or_right (refers_in r (keys_of a)) (refers r as') e)))
