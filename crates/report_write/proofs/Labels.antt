-- The label of a view goes into a fresh buffer of 499 bytes, and what is read of it is the view's text.
-- Assumes nothing.
use Prim.Native.Nat.{ℕ, ◌≤◌}
use mathlib.Core.Path.{◌≡◌, refl, sym, ap, subst}
use mathlib.Core.Bool.{Bool, true, false, cond}
use mathlib.Core.List.{List}
use native.Mathlib.Omega.{arith}
use borrow.Author.Tests.{eqb-false}
use lib.Dec.{eqb}
use lib.ListN.{length, take, drop, length-append, length-replicate}
use lib.Seq.{take-append_seam}
use Rattle.refusal.specs.declared.Reason.{Reason}
use Rattle.refusal.specs.Outcome.{Outcome}
use Rattle.source.specs.Address.{Lookup, Address, Elements}
use Rattle.source.specs.Resolve.{Resolved, elements, refused, forbidden, missing, elements_of, resolve}
use Rattle.changes_source.specs.Rows.{table_lookup}
use Rattle.changes_source.specs.Addresses.{address_at}
use Rattle.label.specs.Label.{label_of, room_outcome, resolved_outcome}
use Rattle.label.proofs.Room.{room_fits}
use Rattle.changes_label.specs.Places.{resolved_at, place_label, ViewPlace}
use Rattle.changes_label.proofs.Laws.{label-fits}
use Rattle.label_print.proofs.Unique.{zeros, fresh-tail}
use Rattle.report_write.specs.Fresh.{TailZero}
use Rattle.item.specs.Lines.{refused_line}
use Rattle.item.specs.Item.{resolved_text}
use Rattle.report.specs.Report.{view_text}
use Rattle.std.specs.Prelude.{Ok, Err}
use Rattle.refusal.specs.Answer.{Answer, refusal}

-- what an answer and a buffer say of a text: it stands in front of the buffer, or it is the refusal's line
abbrev pub Told : List ℕ → Answer → List ℕ → Type 0
Told text (Ok n) m = (n ≤ length m) × (take n m ≡ text)
Told text (Err r) m = refused_line r.reason ≡ text

pub told-value : (text : List ℕ) {m x : List ℕ} {a : Answer} (n : ℕ) → Told text a m → a ≡ Ok n → x ≡ m
    → (n ≤ length x) × (take n x ≡ text)
told-value text {m} {x} n t e y =
    subst (λ (l : List ℕ). (n ≤ length l) × (take n l ≡ text)) (sym y) (subst (λ (z : Answer). Told text z m) e t)

pub told-refused : (text m : List ℕ) {a : Answer} (file : ℕ) (why : Reason) → Told text a m → a ≡ refusal file why
    → refused_line why ≡ text
told-refused text m file why t e = subst (λ (z : Answer). Told text z m) e t

-- the same of what printing comes to
abbrev pub ToldBy : List ℕ → Outcome Answer → Type 0
ToldBy text o = Told text o.answer o.memory

room-told : (text out : List ℕ) → length text ≤ length out → ToldBy text (room_outcome text out)
room-told text out h =
    rw (room_fits text out h)
    (omega (arith, length-append text (drop (length text) out)), take-append_seam text (drop (length text) out))

resolved-told : (r : Resolved) (out : List ℕ) → ((e : Elements) → r ≡ elements e → length (label_of e) ≤ length out)
    → ToldBy (resolved_text r) (resolved_outcome r out)
resolved-told (elements e) out fits = room-told (label_of e) out (fits e refl)
resolved-told (refused why) out fits = refl

-- what resolves has the address's elements
abbrev outcome : Elements → Reason → Reason → Bool → Bool → Resolved
outcome e eight nine t u = cond t (cond u (elements e) (refused nine)) (refused eight)

resolved-by : (x e : Elements) (eight nine : Reason) (t u : Bool) → outcome x eight nine t u ≡ elements e → x ≡ e
resolved-by x e eight nine true true h = cc
resolved-by x e eight nine true false h = cc
resolved-by x e eight nine false u h = cc

resolved-is : (look : Lookup) (a : Address) (e : Elements) → resolve look a ≡ elements e → elements_of look a ≡ e
unfolding resolve
resolved-is look a e h = resolved-by (elements_of look a) e _ _ (eqb (forbidden a) 0) (eqb (missing look a) 0) h

module _ (table points : List ℕ) (place : ℕ) (v : ViewPlace table points place) where
  module _ (out : List ℕ) (n : 499 ≤ length out) where
    some-told : (place ≡ 0 → ⊥)
        → ToldBy (resolved_text (resolved_at table points place)) (resolved_outcome (resolved_at table points place) out)
    some-told some =
        resolved-told (resolved_at table points place) out
        (λ e h.
        let same = resolved-is (table_lookup table) (address_at points 0 place) e h in
        omega (arith, label-fits table points place v some, ap (λ (x : Elements). length (label_of x)) same))

    pub view-told : ToldBy (view_text table points place) (place_label table points place out)
    unfolding view_text place_label
    view-told = by-test (eqb place 0) refl
      where
        by-test : (t : Bool) → eqb place 0 ≡ t → ToldBy (view_text table points place) (place_label table points place out)
        by-test true e = rw e refl
        by-test false e = rw e (some-told (eqb-false place 0 e))

-- in a fresh buffer, what is left of it is still zero
pub fresh-zero : (table points : List ℕ) (place : ℕ) → ViewPlace table points place
    → TailZero (place_label table points place (zeros 499)).answer (place_label table points place (zeros 499)).memory
unfolding place_label
fresh-zero table points place v = by-test (eqb place 0) refl
  where
    by-resolved : (r : Resolved) → ((e : Elements) → r ≡ elements e → length (label_of e) ≤ 499)
        → TailZero (resolved_outcome r (zeros 499)).answer (resolved_outcome r (zeros 499)).memory
    by-resolved (elements e) fits =
        let h = fits e refl in
        let is = room_fits (label_of e) (zeros 499) (omega (arith, h, length-replicate {A = ℕ} 499 0)) in
        rw is (rw is at (fresh-tail (label_of e) h))
    by-resolved (refused why) fits = refl

    by-test : (t : Bool) → eqb place 0 ≡ t
        → TailZero (place_label table points place (zeros 499)).answer (place_label table points place (zeros 499)).memory
    by-test true e = rw e refl
    by-test false e =
        rw e
        (by-resolved (resolved_at table points place)
        (λ x h.
        let same = resolved-is (table_lookup table) (address_at points 0 place) x h in
        omega (arith, label-fits table points place v (eqb-false place 0 e), ap (λ (y : Elements). length (label_of y)) same)))
