-- The chosen delivery points of a book: from one to the next, where their texts lie, and what they say.
-- Assumes nothing.
use Prim.Native.Nat.{ℕ, zero, suc, ◌+◌, ◌≤◌, ◌<◌}
use mathlib.Core.Path.{◌≡◌, refl, ap, ◌∙◌}
use mathlib.Core.List.{List, [], ◌∷◌}
use native.Mathlib.Omega.{arith}
use native.Mathlib.Numerals.{add-one}
use lib.ListN.{length, get_or, drop, drop_of_length-le}
use lib.Seq.{drop-cons}
use Rattle.source.specs.Delivery.{Within}
use Rattle.build.specs.Plan.{Packed}
use Rattle.build_exact.specs.Started.{AllSay, none_says, one_says}
use Rattle.build_exact.specs.Within.{AllWithin}
use Rattle.changes_source.specs.Addresses.{address_of}
use Rattle.book_source.specs.Starts.{addresses_at, delivery_from, Inside, AllInside}
use Rattle.book_source.proofs.Says.{says-from, within-from}
use Rattle.book_build.specs.Chosen.{packed_from, packed_all}

-- those from the i-th on
abbrev pub packed_rest : (book chosen : List ℕ) → ℕ → List Packed
packed_rest book chosen i = packed_all book (drop i chosen)

module _ (book chosen : List ℕ) where
  pub packed_step : (i : ℕ) → i < length chosen
      → packed_rest book chosen i ≡ packed_from book (get_or chosen i 0) ∷ packed_rest book chosen (i + 1)
  packed_step i h = ap (packed_all book) (drop-cons chosen i 0 h) ∙ rw (add-one i)

  pub packed-end : (i : ℕ) → length chosen ≤ i → packed_rest book chosen i ≡ []
  packed-end i h = ap (packed_all book) (drop_of_length-le chosen h)

pub packed-length : (book chosen : List ℕ) → length (packed_all book chosen) ≡ length chosen
packed-length book [] = refl
packed-length book (at ∷ more) = ap suc (packed-length book more)

module _ (book : List ℕ) where
  -- two records stand at each
  pub inside-at : (chosen : List ℕ) → AllInside book chosen → (i : ℕ) → i < length chosen → Inside book (get_or chosen i 0)
  inside-at [] all i h = absurd (omega arith)
  inside-at (at ∷ more) all zero h = all.0
  inside-at (at ∷ more) all (suc i) h = inside-at more all.1 i (omega arith)

  pub within-at : (chosen : List ℕ) → AllInside book chosen → (i : ℕ) → i < length chosen
      → Within book (delivery_from book (get_or chosen i 0))
  within-at chosen all i h = within-from book (get_or chosen i 0) (inside-at chosen all i h)

  -- each says its address, and its texts lie within the book
  pub all_say : (chosen : List ℕ) → AllInside book chosen → AllSay book book (packed_all book chosen) (addresses_at book chosen)
  unfolding address_of
  all_say [] all = none_says
  all_say (at ∷ more) all =
      one_says (record { says = says-from book at all.0; view = refl }) (all_say more all.1)

  pub all-within : (chosen : List ℕ) → AllInside book chosen → AllWithin book (packed_all book chosen)
  all-within [] all = tt
  all-within (at ∷ more) all =
      let here = within-from book at all.0 in
      (record { postcode = here.postcode; suffix = here.suffix; box = here.box }, all-within more all.1)
