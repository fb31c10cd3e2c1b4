-- One slot put anew: the slots are good again, and all else that is present stays. An insertion and a replacement are this.
-- Assumes nothing.
use Prim.Native.Nat.{ℕ, ◌≤◌, ◌<◌}
use mathlib.Core.Path.{◌≡◌, refl, sym, ap, subst, ◌∙◌}
use mathlib.Core.Bool.{true, cond}
use mathlib.Core.List.{List}
use native.Mathlib.Omega.{arith}
use borrow.Author.Tests.{eq-eqb, ne_eqb}
use lib.Dec.{eqb}
use lib.ListN.{length}
use Rattle.field.specs.Test.{only}
use Rattle.book.specs.Layout.{slots, place_of, view_of, follower_of}
use Rattle.book.specs.Book.{identity, well_kept}
use Rattle.book.specs.Meaning.{Present, present_in}
use Rattle.book.proofs.Search.{equal-or}
use Rattle.book.proofs.Good.{Good, at_place, present-slot}

abbrev pub put_in : (f : ℕ → List ℕ) → (t : ℕ) → (new : List ℕ) → ℕ → List ℕ
put_in f t new s = cond (eqb s t) new (f s)

module _ (f : ℕ → List ℕ) (t : ℕ) (new : List ℕ) where
  pub put-here : put_in f t new t ≡ new
  put-here = simp (eq-eqb t t refl)

  pub put-there : (s : ℕ) → (s ≡ t → ⊥) → put_in f t new s ≡ f s
  put-there s other = simp (ne_eqb s t other)

  -- what holds of the new one, and of each old one, holds of each
  put-cases : (P : ℕ → List ℕ → Type 0) (s : ℕ) → P t new → P s (f s) → P s (put_in f t new s)
  put-cases P s here there =
      equal-or s t
      (λ z. subst (λ u. P u (put_in f t new u)) (sym z) (subst (P t) (sym put-here) here))
      (λ z. subst (P s) (sym (put-there s z)) there)

  pub put-wide : (w : ℕ) → length new ≡ w → (s : ℕ) → length (f s) ≡ w → length (put_in f t new s) ≡ w
  put-wide w here s there = put-cases (λ s l. length l ≡ w) s here there

-- two slots with their bytes: a place once, a delivery point once
abbrev Once : (s : ℕ) (l : List ℕ) (u : ℕ) (m : List ℕ) → Type 0
Once s l u m = 1 ≤ place_of l → place_of l ≡ place_of m → s ≡ u

abbrev Apart : (s : ℕ) (l : List ℕ) (u : ℕ) (m : List ℕ) → Type 0
Apart s l u m = 1 ≤ place_of l → 1 ≤ place_of m → identity (view_of l) ≡ identity (view_of m) → s ≡ u

-- slot t of n places gets place q and what is present there, so that there are m places; no other has either
pub record PutFine (f : ℕ → List ℕ) (n t : ℕ) (new : List ℕ) (q : ℕ) (e : Present) (m : ℕ) : Type 0 where
  pub slot-low : t < slots
  pub place_is : place_of new ≡ q
  pub present-is : present_in new ≡ e
  pub kept : well_kept e.view e.follower ≡ true
  pub some : 1 ≤ q
  pub most : q ≤ m
  pub more : n ≤ m
  pub new-place : (s : ℕ) → s < slots → place_of (f s) ≡ q → s ≡ t
  pub new-point : (s : ℕ) → s < slots → 1 ≤ place_of (f s) → identity (view_of (f s)) ≡ identity e.view → s ≡ t
  pub old-place : (p : ℕ) → 1 ≤ p → p ≤ m → (p ≡ q → ⊥) → (p ≤ n) × (place_of (f t) ≡ p → ⊥)

module _ (f : ℕ → List ℕ) (n : ℕ) (good : Good f n) (t : ℕ) (new : List ℕ) (q : ℕ) (e : Present) (m : ℕ)
    (fine : PutFine f n t new q e m) where
  id-is : identity (view_of new) ≡ identity e.view
  id-is = ap (λ x. identity x.view) fine.present-is

  pub put-good : Good (put_in f t new) m
  put-good =
      record {
        placed =
            λ s h.
            put-cases f t new (λ s l. place_of l ≤ m) s (omega (arith, fine.place_is, fine.most))
            (omega (arith, good.placed s h, fine.more));
        once =
            λ s u h k.
            put-cases f t new (λ s l. Once s l u (put_in f t new u)) s
            (put-cases f t new (λ u l. Once t new u l) u (λ a b. refl)
            (λ a b. sym (fine.new-place u k (sym b ∙ fine.place_is))))
            (put-cases f t new (λ u l. Once s (f s) u l) u (λ a b. fine.new-place s h (b ∙ fine.place_is))
            (good.once s u h k));
        held =
            λ p h k.
            equal-or p q (λ z. (t, fine.slot-low, ap place_of (put-here f t new) ∙ (fine.place_is ∙ sym z)))
            (λ z.
            let (within, other) = fine.old-place p h k z in
            let (s, low, b) = good.held p h within in
            (s, low, ap place_of (put-there f t new s (λ c. other (ap (λ u. place_of (f u)) (sym c) ∙ b))) ∙ b));
        kept =
            λ s h.
            put-cases f t new (λ s l. 1 ≤ place_of l → well_kept (view_of l) (follower_of l) ≡ true) s
            (λ a. ap (λ x. well_kept x.view x.follower) fine.present-is ∙ fine.kept) (good.kept s h);
        apart =
            λ s u h k.
            put-cases f t new (λ s l. Apart s l u (put_in f t new u)) s
            (put-cases f t new (λ u l. Apart t new u l) u (λ a b c. refl)
            (λ a b c. sym (fine.new-point u k b (sym c ∙ id-is))))
            (put-cases f t new (λ u l. Apart s (f s) u l) u (λ a b c. fine.new-point s h a (c ∙ id-is)) (good.apart s u h k));
        free =
            λ s h.
            put-cases f t new (λ s l. place_of l ≡ 0 → only 0 l ≡ true) s
            (λ z. absurd (omega (arith, fine.place_is, fine.some))) (good.free s h);
      }

  pub put-present : at_place (put_in f t new) q ≡ e
  put-present =
      present-slot (put_in f t new) m put-good t q fine.slot-low (ap place_of (put-here f t new) ∙ fine.place_is) fine.some
      ∙ (ap present_in (put-here f t new) ∙ fine.present-is)

  pub put-others : (p : ℕ) → 1 ≤ p → p ≤ m → (p ≡ q → ⊥) → at_place (put_in f t new) p ≡ at_place f p
  put-others p h k z =
      let (within, other) = fine.old-place p h k z in
      let (s, low, b) = good.held p h within in
      let there = put-there f t new s (λ c. other (ap (λ u. place_of (f u)) (sym c) ∙ b)) in
      present-slot (put_in f t new) m put-good s p low (ap place_of there ∙ b) h
      ∙ (ap present_in there ∙ sym (present-slot f n good s p low b h))
