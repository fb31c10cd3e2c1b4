-- The row that a number stands for, found among the rows of a pack and where it stands.
-- Assumes nothing.
use Prim.Native.Nat.{ℕ, suc, ◌+◌, ◌≤◌}
use mathlib.Core.Path.{◌≡◌, refl, subst}
use mathlib.Core.Bool.{Bool, true, false, cond}
use mathlib.Core.List.{List, [], ◌∷◌, ◌++◌}
use mathlib.Core.Option.{Option, none, some}
use native.Mathlib.Omega.{arith}
use borrow.Author.Tests.{eq-eqb, eqb-true}
use lib.Dec.{eqb}
use lib.ListN.{length, length-append}
use Rattle.field.proofs.Tests.{or-true}
use Rattle.pack.specs.Layout.{Entry, entry, entry_bytes, entries_bytes, offset_of}
use Rattle.pack.specs.Opening.{row_end, is_start}
use Rattle.pack_carries.proofs.Stands.{Stands}
use Rattle.pack_carries.proofs.Rows.{EntrySound, EntriesSound, row-end, first-stands, others-stand}

-- the texts of the row that a number stands for
abbrev pub texts_for : List Entry → ℕ → Option (List (List ℕ))
texts_for [] r = none
texts_for (e ∷ es) r = cond (eqb e.stands_for r) (some e.texts) (texts_for es r)

pub offset-within : (es : List Entry) (r : ℕ) → offset_of es r ≤ length (entries_bytes es)
offset-within [] r = omega arith
offset-within (e ∷ es) r = by-test (eqb e.stands_for r) (offset-within es r)
  where
    by-test : (t : Bool) → offset_of es r ≤ length (entries_bytes es)
        → cond t 0 (length (entry_bytes e) + offset_of es r) ≤ length (entry_bytes e ++ entries_bytes es)
    by-test true ih = omega arith
    by-test false ih = omega (arith, length-append (entry_bytes e) (entries_bytes es))

-- a row that is one of n from a place on, and starts at o
pub record FoundAt (rows : List ℕ) (n at r : ℕ) (texts : List (List ℕ)) (o : ℕ) : Type 0 where
  pub sound : EntrySound (entry r texts)
  pub stands : Stands rows o (entry_bytes (entry r texts))
  pub starts : is_start rows n at o ≡ true

module _ (rows : List ℕ) where
  found_first : (e : Entry) (r : ℕ) (texts : List (List ℕ)) (n at : ℕ) → EntrySound e → Stands rows at (entry_bytes e)
      → e.stands_for ≡ r
      → e.texts ≡ texts
      → FoundAt rows (suc n) at r texts (at + 0)
  found_first e r texts n at g s p q =
      let is : e ≡ entry r texts = λ i. record { stands_for = p i; texts = q i } in
      subst (FoundAt rows (suc n) at r texts) (let z : at ≡ at + 0 = omega arith in z)
      (record {
        sound = subst EntrySound is g;
        stands = subst (λ x. Stands rows at (entry_bytes x)) is s;
        starts = rw (eq-eqb at at refl);
      })

  -- the row stands behind those before it
  pub found_at : (es : List Entry) (low at r : ℕ) (texts : List (List ℕ)) → EntriesSound low es
      → Stands rows at (entries_bytes es)
      → texts_for es r ≡ some texts
      → FoundAt rows (length es) at r texts (at + offset_of es r)
  found_at [] low at r texts g h f = let z : ◌≡◌ {A = ℕ} 0 1 = cc in absurd (omega arith)
  found_at (e ∷ es) low at r texts g h f =
      by-test (eqb e.stands_for r) refl f
      (λ later. found_at es _ (row_end rows at) r texts g.1.1 (others-stand rows e es at g.1.0 h) later)
    where
      first : Stands rows at (entry_bytes e)
      first = first-stands rows e es at g.1.0 h

      further : row_end rows at + offset_of es r ≡ at + (length (entry_bytes e) + offset_of es r)
      further = omega (arith, row-end rows e at g.1.0 first)

      by-test : (t : Bool) → eqb e.stands_for r ≡ t → cond t (some e.texts) (texts_for es r) ≡ some texts
          → (texts_for es r ≡ some texts
          → FoundAt rows (length es) (row_end rows at) r texts (row_end rows at + offset_of es r))
          → FoundAt rows (suc (length es)) at r texts (at + cond t 0 (length (entry_bytes e) + offset_of es r))
      by-test true q f ih = found_first e r texts (length es) at g.1.0 first (eqb-true e.stands_for r q) (cc)
      by-test false q f ih =
          let i = ih f in
          subst (FoundAt rows (suc (length es)) at r texts) further
          (record {
            sound = i.sound;
            stands = i.stands;
            starts = rw i.starts (or-true (eqb at (row_end rows at + offset_of es r)));
          })
