-- What an address of an accepted set resolves to, by what code knows of its record: its elements, or the refusal.
-- Assumes nothing.
use Prim.Native.Nat.{ℕ, zero, suc, ◌+◌, ◌/◌, ◌<◌}
use mathlib.Core.Path.{◌≡◌, refl, sym, ap, subst, ◌∙◌}
use mathlib.Core.Bool.{cond}
use mathlib.Core.List.{List, [], ◌∷◌}
use native.Mathlib.Omega.{arith}
use borrow.Author.Tests.{ne_eqb}
use lib.Dec.{eqb}
use lib.ListN.{length, get_or}
use Rattle.refusal.specs.declared.Reason.{Reason}
use Rattle.file_record.specs.Parts.{record_at}
use Rattle.source.specs.Address.{Address, present, ref}
use Rattle.source.specs.Resolve.{text_of, elements_of, elements, refused, resolve}
use Rattle.source.specs.declared.DeliveryPoint.{DeliveryPoint}
use Rattle.source.specs.Delivery.{Small, asked_of, rows_for, lacking_from, missing_in, refusal_in}
use Rattle.shelf.specs.Stock.{look_in, Good}
use Rattle.source_meaning.proofs.Refusals.{resolved_by, refusal-meant}
use Rattle.source_meaning.proofs.Elements.{key-said, Kinds, elements-from}
use Rattle.mainfile.specs.Set.{Set}
use Rattle.mainfile.specs.Rows.{shelf_of, file_of, kind_stock, set_stock, set_lookup}
use Rattle.mainfile.specs.Addresses.{address_of}
use Rattle.mainfile.specs.Accepted.{AcceptedRows, AcceptedSet}
use Rattle.mainfile_source.specs.Rows.{kind_found, rows_ahead, behind_by}
use Rattle.mainfile_source.specs.Delivery.{delivery_at}
use Rattle.mainfile_source.proofs.Shelves.{good-1, good-2, good-3, good-4, good-5}
use Rattle.mainfile_source.proofs.Joined.{look-1, look-2, look-3, look-4, look-5}
use Rattle.mainfile_source.proofs.Seven.{kind-found, set-rows}
use Rattle.mainfile_meaning.specs.Elements.{kind_text, elements_at, point_at, rows_at}
use Rattle.mainfile_meaning.proofs.Says.{says_at}
use Rattle.std.specs.Prelude.{Err}
use Rattle.refusal.specs.Verdict.{fine}

-- ---- refusals, by whether rows are found

-- rows that are none together
abbrev pub Alike : (rows others : List ℕ) → Type 0
Alike [] [] = Unit {0}
Alike [] (o ∷ os) = ⊥
Alike (r ∷ rs) [] = ⊥
Alike (r ∷ rs) (o ∷ os) = (eqb r 0 ≡ eqb o 0) × Alike rs os

lacking-alike : (n : ℕ) (keys rows others : List ℕ) → Alike rows others → lacking_from n keys rows ≡ lacking_from n keys others
lacking-alike n [] rows others h = refl
lacking-alike n (k ∷ ks) [] [] h = refl
lacking-alike n (k ∷ ks) [] (o ∷ os) h = absurd h
lacking-alike n (k ∷ ks) (r ∷ rs) [] h = absurd h
lacking-alike n (k ∷ ks) (r ∷ rs) (o ∷ os) h = rw (h.0, lacking-alike (suc n) ks rs os h.1)

pub refusal-alike : (p : DeliveryPoint) (rows others : List ℕ) → Alike rows others → refusal_in p rows ≡ refusal_in p others
unfolding refusal_in missing_in
refusal-alike p rows others h = rw (lacking-alike 1 p.keys rows others h)

pub behind-alike : (before row : ℕ) → eqb row 0 ≡ eqb (behind_by before row) 0
behind-alike before zero = refl
behind-alike before (suc q) =
    simp (ne_eqb (suc q) 0 (λ z. omega arith)) (sym (ne_eqb (before + suc q) 0 (λ z. omega arith)))

-- ---- texts, each in the file of its kind

module _ (s : Set) (ok : AcceptedRows s) where
  -- the row that a key finds in the file of its kind has the text that the set's look-up gives
  text-said : (kind : ℕ) → Good (kind_stock s kind) → (key n : ℕ) → key < 100_000_000
      → set_lookup s kind key ≡ look_in (kind_stock s kind) kind key
      → kind_text s (cond (present key) (kind_found s kind (ref kind key)) 0) kind n ≡ text_of (set_lookup s) kind key n
  text-said kind good key n small look =
      ap (λ (row : ℕ). kind_text s (cond (present key) row 0) kind n) (kind-found s ok kind (ref kind key))
      ∙ (key-said (shelf_of kind) (file_of s kind) good kind key n small ∙ rw (sym look) refl)

  texts-said : Kinds (λ kind. (key n : ℕ) → key < 100_000_000
      → kind_text s (cond (present key) (kind_found s kind (ref kind key)) 0) kind n ≡ text_of (set_lookup s) kind key n)
  texts-said = (
    λ key n small. text-said 1 (good-1 s ok) key n small (look-1 s key small),
    (
      λ key n small. text-said 2 (good-2 s ok) key n small (look-2 s key small),
      (
        λ key n small. text-said 3 (good-3 s ok) key n small (look-3 s key small),
        (
          λ key n small. text-said 4 (good-4 s ok) key n small (look-4 s key small),
          λ key n small. text-said 5 (good-5 s ok) key n small (look-5 s key small),
        ),
      ),
    ),
  )

-- ---- an address record

module _ (s : Set) (ok : AcceptedSet s) (i : ℕ) (high : i < length s.addresses / 88) (n : ℕ) where
  abbrev address : Address
  address = address_of n (record_at 88 s.addresses i) s.organisations

  abbrev joined_rows : List ℕ
  joined_rows = rows_for (set_stock s).row (asked_of (point_at s i))

  keys-small : Small (point_at s i).keys
  unfolding delivery_at address_of
  keys-small = (says_at s.addresses s.organisations i high ok.organisations n).small

  rows_alike : Alike (rows_at s i) joined_rows
  unfolding delivery_at
  rows_alike =
      let row : ℕ → ℕ = λ j. get_or (rows_at s i) j 0 in
      subst (λ (others : List ℕ). Alike (rows_at s i) others)
      (set-rows s ok.rows (point_at s i).keys refl keys-small (rows_at s i) refl) (
        refl,
        (
          behind-alike (rows_ahead s 2) (row 1),
          (
            behind-alike (rows_ahead s 3) (row 2),
            (
              behind-alike (rows_ahead s 2) (row 3),
              (
                behind-alike (rows_ahead s 3) (row 4),
                (behind-alike (rows_ahead s 4) (row 5), (behind-alike (rows_ahead s 5) (row 6), tt)),
              ),
            ),
          ),
        ),
      )

  pub resolved : resolve (set_lookup s) address
      ≡ resolved_by (refusal_in (point_at s i) (rows_at s i)) (elements_of (set_lookup s) address)
  resolved =
      refusal-meant (set_stock s) s.addresses s.organisations (point_at s i) address
      (says_at s.addresses s.organisations i high ok.organisations n) joined_rows refl
      ∙ rw (refusal-alike (point_at s i) (rows_at s i) joined_rows rows_alike) refl

  elements-are : elements_at s (point_at s i) (rows_at s i) ≡ elements_of (set_lookup s) address
  unfolding delivery_at address_of
  elements-are =
      elements-from (set_lookup s) (kind_text s) (kind_found s) (texts-said s ok.rows) s.addresses s.organisations
      (point_at s i) address (says_at s.addresses s.organisations i high ok.organisations n)

  pub resolved-fine : refusal_in (point_at s i) (rows_at s i) ≡ fine
      → resolve (set_lookup s) address ≡ elements (elements_at s (point_at s i) (rows_at s i))
  resolved-fine e = resolved ∙ rw (e, sym elements-are)

  pub resolved-bad : (why : Reason) → refusal_in (point_at s i) (rows_at s i) ≡ Err why
      → resolve (set_lookup s) address ≡ refused why
  resolved-bad why e = resolved ∙ rw e
