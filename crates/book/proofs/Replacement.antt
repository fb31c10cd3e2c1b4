-- A replacement on the bytes is the replacement among what is present.
-- Assumes nothing.
use Prim.Native.Nat.{ℕ, suc, ◌+◌, ◌-◌, ◌≤◌, ◌<◌}
use mathlib.Core.Path.{◌≡◌, refl, sym, ap, subst, ◌∙◌}
use mathlib.Core.Bool.{cond}
use mathlib.Core.List.{List}
use native.Mathlib.Omega.{arith}
use borrow.Author.Tests.{eq-eqb, ne_eqb}
use lib.Dec.{eqb}
use lib.ListN.{length}
use Rattle.refusal.specs.Outcome.{said}
use Rattle.book.specs.Layout.{slots, slot_width, slot_at, count_of, place_of, view_of, laid}
use Rattle.book.specs.Book.{identity, keeper}
use Rattle.book.specs.Meaning.{Present, present_from, means}
use Rattle.book.specs.Event.{replace, replaced, step_of, slot_bytes, slot_replaced, place_kept, replacement}
use Rattle.book.specs.Agrees.{Keepable, Changed, StepAgrees}
use Rattle.book.proofs.Search.{equal-or}
use Rattle.book.proofs.Laid.{slot-long, slot-place, slot-present, slot-wide}
use Rattle.book.proofs.Good.{Good, BookFacts, keeps-used, keeps-id, keeper-of, good-same, at_place, present-same}
use Rattle.book.proofs.Listed.{present-replaced}
use Rattle.book.proofs.OnePut.{PutFine, put_in, put-wide, put-good, put-present, put-others}
use Rattle.book.proofs.Again.{laid-book, laid-means}
use Rattle.book.proofs.Lookup.{lookup-agrees}
use Rattle.std.specs.Prelude.{Ok}

module _ (book : List ℕ) (facts : BookFacts book) (e : Present) (keep : Keepable e) where
  abbrev slot : ℕ → List ℕ
  slot = slot_at book

  abbrev n : ℕ
  n = count_of book

  abbrev id : List ℕ
  id = identity e.view

  abbrev t : ℕ
  t = keeper slot id

  abbrev p : ℕ
  p = place_kept book id

  abbrev new : List ℕ
  new = slot_bytes p e

  abbrev after : ℕ → List ℕ
  after = slot_replaced book p e

  module _ (found : keeper slot id < slots) where
    used : 1 ≤ p
    used = keeps-used slot id t (keeper-of slot id found)

    within : p ≤ n
    within = facts.good.placed t found

    kept-id : identity (view_of (slot t)) ≡ id
    kept-id = keeps-id slot id t (keeper-of slot id found)

    fine : PutFine slot n t new p e n
    fine =
        record {
          slot-low = found;
          place_is = slot-place p e (omega (arith, within, facts.few));
          present-is = slot-present p e keep.view_long keep.follower_long;
          kept = keep.kept;
          some = used;
          most = within;
          more = omega arith;
          new-place = λ s h z. facts.good.once s t h found (subst (1 ≤◌) (sym z) used) z;
          new-point = λ s h u z. facts.good.apart s t h found u used (z ∙ sym kept-id);
          old-place = λ q h k z. (k, λ c. z (sym c));
        }

    -- the slot that has the place is the one that keeps the delivery point
    tests_same : (s : ℕ) → s < slots → eqb s t ≡ eqb (place_of (slot s)) p
    tests_same s h =
        equal-or s t
        (λ z. eq-eqb s t z ∙ sym (eq-eqb (place_of (slot s)) p (ap (λ u. place_of (slot u)) z)))
        (λ z. ne_eqb s t z ∙ sym (ne_eqb (place_of (slot s)) p (λ c. z (fine.new-place s h c))))

    as-put : (s : ℕ) → s < slots → put_in slot t new s ≡ after s
    as-put s h = ap (λ b. cond b new (slot s)) (tests_same s h)

    put : Good (put_in slot t new) n
    put = put-good slot n facts.good t new p e n fine

    wide : (s : ℕ) → s < slots → length (after s) ≡ slot_width
    wide s h =
        ap length (sym (as-put s h))
        ∙ put-wide slot t new slot_width (slot-wide p e keep.view_long keep.follower_long) s
        (slot-long book facts.long s h)

    good : Good after n
    good = good-same (put_in slot t new) after n as-put put

    listed : present_from after n 1 ≡ replaced p e (means book)
    unfolding means
    listed =
        let k = p - 1 in
        let again : 1 + k ≡ p = omega (arith, used) in
        let next : suc k ≡ p = omega (arith, used) in
        sym (present-same (put_in slot t new) after n as-put put)
        ∙ (present-replaced slot (put_in slot t new) k n 1 e (omega (arith, used, within))
        (ap (at_place (put_in slot t new)) again ∙ put-present slot n facts.good t new p e n fine)
        (λ i h z.
        put-others slot n facts.good t new p e n fine (1 + i) (omega arith) (omega arith) (λ y. z (omega (arith, again))))
        ∙ ap (λ q. replaced q e (present_from slot n 1)) next)

    replaced-agrees : Changed (said (Ok p) (laid after n)) p (replaced p e (means book))
    replaced-agrees =
        record {
          answer = refl;
          book = laid-book after n wide facts.few good;
          meaning = laid-means after n wide facts.few good ∙ listed;
        }

  pub replacement-agrees : StepAgrees book (replacement book e) (step_of (replace e) (means book))
  unfolding replacement
  replacement-agrees = lookup-agrees book facts id (laid after n) (λ q. replaced q e (means book)) replaced-agrees
