-- An address is seen through the look-up of its own keys alone: two look-ups that agree on them resolve it alike.
-- Assumes nothing.
use Prim.Native.Nat.{ℕ, suc}
use mathlib.Core.Path.{◌≡◌, refl, ap}
use mathlib.Core.Bool.{Bool, true, false, cond, ◌&&◌}
use mathlib.Core.List.{List, [], ◌∷◌}
use Rattle.source.specs.Address.{Lookup, Address, present, Asked, keys_of, ref}
use Rattle.source.specs.Resolve.{lacks, missing_from, missing, text_or, text_of, elements_of, resolve}
use Rattle.source.specs.Delivery.{rows_for}
use Rattle.source.specs.Same.{Agree}

module _ (look other : Lookup) where
  missing-same : (n : ℕ) (keys : List Asked) → Agree look other keys → missing_from look n keys ≡ missing_from other n keys
  missing-same n [] h = refl
  missing-same n (a ∷ more) h = by-test (present a.key) h.0 (missing-same (suc n) more h.1)
    where
      by-test : (t : Bool) → (t ≡ true → look a.kind a.key ≡ other a.kind a.key)
          → missing_from look (suc n) more ≡ missing_from other (suc n) more
          → cond (t && lacks (look a.kind a.key)) n (missing_from look (suc n) more)
          ≡ cond (t && lacks (other a.kind a.key)) n (missing_from other (suc n) more)
      by-test true e later = rw (e refl, later)
      by-test false e later = later

  text_same : (kind key n : ℕ) → (present key ≡ true → look kind key ≡ other kind key)
      → text_of look kind key n ≡ text_of other kind key n
  text_same kind key n h = by-test (present key) h
    where
      by-test : (t : Bool) → (t ≡ true → look kind key ≡ other kind key)
          → cond t (text_or (look kind key) n) [] ≡ cond t (text_or (other kind key) n) []
      by-test true e = ap (λ o. text_or o n) (e refl)
      by-test false e = refl

  elements_same : (a : Address) → Agree look other (keys_of a) → elements_of look a ≡ elements_of other a
  unfolding elements_of
  elements_same a h =
      let locality = h.0 in
      let street = h.1.0 in
      let descriptor = h.1.1.0 in
      let dependent = h.1.1.1.0 in
      let second = h.1.1.1.1.0 in
      let building = h.1.1.1.1.1.0 in
      let sub = h.1.1.1.1.1.1.0 in
      rw (
        text_same 1 a.locality 0 locality,
        text_same 1 a.locality 1 locality,
        text_same 1 a.locality 2 locality,
        text_same 2 a.thoroughfare 0 street,
        text_same 3 a.descriptor 0 descriptor,
        text_same 2 a.dependent 0 dependent,
        text_same 3 a.dependent_descriptor 0 second,
        text_same 4 a.building 0 building,
        text_same 5 a.sub_building 0 sub,
      )

  pub resolve_same : (a : Address) → Agree look other (keys_of a) → resolve look a ≡ resolve other a
  unfolding resolve missing
  resolve_same a h = rw (missing-same 1 (keys_of a) h, elements_same a h)

-- ways to a row that agree find the same rows
pub rows_same : (row other : ℕ → ℕ) (keys : List Asked) → ((r : ℕ) → row r ≡ other r)
    → rows_for row keys ≡ rows_for other keys
rows_same row other [] h = refl
rows_same row other (a ∷ more) h = rw (h (ref a.kind a.key), rows_same row other more h)
