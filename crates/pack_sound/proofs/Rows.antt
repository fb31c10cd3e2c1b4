-- Rows that a pack may hold: by the fields in which their texts stand, and as a key finds them on a shelf.
-- Assumes nothing.
use Prim.Native.Nat.{ℕ, zero, suc, ◌+◌, ◌≤◌, ◌<◌}
use mathlib.Core.Path.{◌≡◌, refl, sym, ap, subst, ◌∙◌}
use mathlib.Core.Bool.{Bool, true, false, cond, not, ◌&&◌, ◌||◌}
use mathlib.Core.List.{List, [], ◌∷◌}
use mathlib.Core.Option.{none, some}
use native.Mathlib.Omega.{arith}
use lib.Dec.{eqb}
use Rattle.field.specs.Text.{blank, text_fault, filled_fault, part, text_in}
use Rattle.file_fault.specs.Table.{double_fault}
use Rattle.source.specs.Address.{ref, kind_of}
use Rattle.source.proofs.Refs.{ref-kind}
use Rattle.shelf.specs.declared.Shelf.{Shelf}
use Rattle.shelf.specs.Shelf.{texts_in, record_of, ref_at, last_of, texts_at, row_of}
use Rattle.shelf.specs.Stock.{stock_of, texts_or_none, look_in}
use Rattle.shelf.proofs.Last.{row-of-some}
use Rattle.pack.specs.Opening.{slot, slots_of}
use Rattle.pack.specs.Sound.{RowSound}
use Rattle.pack_sound.proofs.Texts.{trim-empty, may-be-blank, filled-good}

-- "A double dependent locality needs a dependent one"
double-passes : (dependent s : List ℕ) → double_fault dependent s ≡ 0
    → (text_fault s ≡ 0) × (not (blank dependent) || blank s ≡ true)
unfolding double_fault
double-passes dependent s e = by_tests (blank dependent) (blank s) e
  where
    by_tests : (t u : Bool) → cond (t && not u) 1 (text_fault s) ≡ 0 → (text_fault s ≡ 0) × (not t || u ≡ true)
    by_tests true true e = (e, refl)
    by_tests true false e = absurd (omega arith)
    by_tests false u e = (e, refl)

module _ (rec : List ℕ) where
  -- "post town 30, dependent locality 35, double dependent locality 35", from a byte of the record on
  pub locality-sound : (l : ℕ) → filled_fault (part rec l (l + 30)) ≡ 0 → text_fault (part rec (l + 30) (l + 65)) ≡ 0
      → double_fault (part rec (l + 30) (l + 65)) (part rec (l + 65) (l + 100)) ≡ 0
      → RowSound 1 (text_in rec l (l + 30) ∷ text_in rec (l + 30) (l + 65) ∷ text_in rec (l + 65) (l + 100) ∷ [])
  unfolding text_in
  locality-sound l town dependent double =
      let both = double-passes (part rec (l + 30) (l + 65)) (part rec (l + 65) (l + 100)) double in
      record {
        fit = simp (
          filled-good rec l (l + 30) town 30 (omega arith),
          may-be-blank rec (l + 30) (l + 65) 35 (omega arith) dependent,
          may-be-blank rec (l + 65) (l + 100) 35 (omega arith) both.0,
        );
        double =
            λ e. rw (trim-empty (part rec (l + 30) (l + 65)), trim-empty (part rec (l + 65) (l + 100))) both.1;
      }

  -- the other types have one text of a width
  pub one-sound : (kind w start : ℕ) → 1 < kind → slots_of kind ≡ slot w false ∷ []
      → filled_fault (part rec start (start + w)) ≡ 0
      → RowSound kind (text_in rec start (start + w) ∷ [])
  one-sound kind w start high one filled =
      record {
        fit = rw (one, filled-good rec start (start + w) filled w (omega arith));
        double = λ e. absurd (omega arith);
      }

-- the texts that are found are the record's
texts-found : (t : Bool) (ts texts : List (List ℕ)) → cond t none (some ts) ≡ some texts → ts ≡ texts
texts-found true ts texts e = let z : ◌≡◌ {A = ℕ} 0 1 = cc in absurd (omega arith)
texts-found false ts texts e = cc

-- the row that a kind and a key find on a shelf, where all that stand for them are sound
pub found-sound : (s : Shelf) (file : List ℕ) (kind key : ℕ) → key ≤ 99_999_999
    → ((i : ℕ) → 1 ≤ i → i < last_of s file → ref_at s file i ≡ ref kind key
    → RowSound kind (texts_in s kind (record_of s file i)))
    → (texts : List (List ℕ)) → look_in (stock_of s file) kind key ≡ some texts
    → RowSound kind texts
unfolding look_in texts_at
found-sound s file kind key small each texts e = by_place (row_of s file (ref kind key)) refl e
  where
    by_place : (p : ℕ) → row_of s file (ref kind key) ≡ p → texts_or_none (stock_of s file) p ≡ some texts
        → RowSound kind texts
    by_place zero q e = let z : ◌≡◌ {A = ℕ} 0 1 = cc in absurd (omega arith)
    by_place (suc p) q e =
        let r = row-of-some s file (ref kind key) p q in
        let is : kind_of (ref_at s file (suc p)) ≡ kind = ap kind_of r.2 ∙ ref-kind kind key small in
        let same = ap (λ (k : ℕ). texts_in s k (record_of s file (suc p))) is in
        subst (λ (ts : List (List ℕ)). RowSound kind ts)
        (sym same ∙ texts-found (eqb (suc p) 0) (texts_at s file (suc p)) texts e)
        (each (suc p) r.0 r.1 r.2)
