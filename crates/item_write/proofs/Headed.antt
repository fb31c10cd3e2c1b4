-- An item put together is its heading and the label, or the line of its refusal.
-- Assumes nothing.
use Prim.Native.Nat.{ℕ, ◌+◌, ◌≤◌, ◌<◌}
use mathlib.Core.Path.{◌≡◌, refl, sym, ap, ◌∙◌}
use mathlib.Core.Bool.{Bool, true, false, cond}
use mathlib.Core.List.{List, [], ◌∷◌, ◌++◌, append_assoc}
use native.Mathlib.Omega.{arith}
use borrow.Author.Tests.{eq-eqb, ne_eqb, le-leb, lt-leb, leb-true, leb-false}
use lib.Dec.{eqb, leb}
use lib.ListN.{length, take, drop, length-append, length-drop, take-append-drop}
use lib.Seq.{length-take-le, drop_at, drop-drop}
use Rattle.refusal.specs.declared.Reason.{Reason}
use Rattle.refusal.specs.declared.Reason.TheVariants.{NoSuchNumber, Combination, MissingKey, Room}
use Rattle.refusal.specs.Outcome.{Outcome, said}
use Rattle.refusal.specs.Refusal.{number, detail}
use Rattle.refusal.proofs.Outcomes.{said-as, answer-of}
use Rattle.source.specs.Address.{Lookup, Address}
use Rattle.source.specs.Resolve.{Resolved, elements, refused, forbidden, missing, elements_of, resolve}
use Rattle.label.specs.Put.{Put}
use Rattle.label.specs.Label.{label_of, room_outcome, resolved_outcome}
use Rattle.label.proofs.Room.{Fitting, fits, short, fitting, room_fits, room-short}
use Rattle.item.specs.Lines.{refused_line}
use Rattle.item.specs.Item.{resolved_text}
use Rattle.item_write.specs.Headed.{before, over_label, over_refusal, headed, Small}
use Rattle.std.specs.Prelude.{Ok}
use Rattle.refusal.specs.Answer.{Answer, refusal}

-- ---- what the code finds

module _ (heading : List ℕ) (label : ℕ) (out : List ℕ) where
  pub label-short : length out < length heading
      → said (refusal 0 (Room (length heading + label))) out ≡ over_label heading label out
  unfolding over_label
  label-short h = simp (lt-leb (length heading) (length out) h)

  pub label-headed : length heading ≤ length out → {r : ℕ} {x : List ℕ} → Put heading out 0 r x
      → said (Ok (r + label)) x ≡ over_label heading label out
  unfolding over_label
  label-headed h v =
      let z : 0 + length heading ≡ length heading = omega arith in
      said-as (ap (λ (n : ℕ). Ok (n + label)) (v.size ∙ z))
      (v.is ∙ ap (λ (n : ℕ). heading ++ drop n out) z)
      ∙ simp (le-leb (length heading) (length out) h)

module _ (heading : List ℕ) (why : Reason) (out : List ℕ) where
  pub refusal-room : number why ≡ 10 → {needed : ℕ} → needed ≡ detail why
      → said (refusal 0 (Room (length heading + needed))) out ≡ over_refusal heading why out
  unfolding over_refusal
  refusal-room e d = rw d (simp (eq-eqb (number why) 10 e))

  module _ (fits : number why ≡ 10 → ⊥) where
    pub refusal_none : number why ≡ 7 → said (refusal 0 NoSuchNumber) out ≡ over_refusal heading why out
    unfolding over_refusal
    refusal_none e = simp (ne_eqb (number why) 10 fits, eq-eqb (number why) 7 e)

    pub refusal-line : (number why ≡ 7 → ⊥) → room_outcome (heading ++ refused_line why) out ≡ over_refusal heading why out
    unfolding over_refusal
    refusal-line e = simp (ne_eqb (number why) 10 fits, ne_eqb (number why) 7 e)

-- ---- what it comes to

-- a refusal of the label's own, which a line tells: neither 7 nor 10
abbrev pub Telling : Resolved → Type 0
Telling (elements e) = Unit {0}
Telling (refused why) = (number why ≡ 10 → ⊥) × (number why ≡ 7 → ⊥)

-- a label that can be added to
abbrev pub Bounded : Resolved → Type 0
Bounded (elements e) = length (label_of e) ≤ 4_294_967_295
Bounded (refused why) = Unit {0}

module _ (heading out : List ℕ) where
  abbrev cut : ℕ
  cut = before heading (length out)

  cut-long : length heading ≤ length out → cut ≡ length heading
  unfolding before
  cut-long h = rw (le-leb (length heading) (length out) h)

  cut_short : length out < length heading → cut ≡ length out
  unfolding before
  cut_short h = rw (lt-leb (length heading) (length out) h)

  cut_below : cut ≤ length heading
  cut_below = by-test (leb (length heading) (length out)) refl
    where
      by-test : (t : Bool) → leb (length heading) (length out) ≡ t → cut ≤ length heading
      by-test true e = omega (arith, cut-long (leb-true (length heading) (length out) e))
      by-test false e =
          omega (arith, cut_short (leb-false (length heading) (length out) e), leb-false (length heading) (length out) e)

  pub cut-within : cut ≤ length out
  cut-within = by-test (leb (length heading) (length out)) refl
    where
      by-test : (t : Bool) → leb (length heading) (length out) ≡ t → cut ≤ length out
      by-test true e =
          omega (arith, cut-long (leb-true (length heading) (length out) e), leb-true (length heading) (length out) e)
      by-test false e = omega (arith, cut_short (leb-false (length heading) (length out) e))

  -- the heading goes into its place
  over-fits : (text : List ℕ) → length heading ≤ length out → length text ≤ length (drop (length heading) out)
      → over_label heading (length text)
      (take (length heading) out ++ (text ++ drop (length text) (drop (length heading) out)))
      ≡ room_outcome (heading ++ text) out
  unfolding over_label
  over-fits text h k =
      let front = take (length heading) out in
      let rest = text ++ drop (length text) (drop (length heading) out) in
      let sized = length-take-le (length heading) out h in
      let there : length heading ≤ length (front ++ rest) = omega (arith, length-append front rest, sized) in
      let both = length-append heading text in
      let room : length (heading ++ text) ≤ length out = omega (arith, both, length-drop (length heading) out) in
      let memory : heading ++ rest ≡ (heading ++ text) ++ drop (length (heading ++ text)) out =
      ap (λ (l : List ℕ). heading ++ (text ++ l))
      (drop-drop (length text) (length heading) out ∙ ap (λ (n : ℕ). drop n out) (sym both))
      ∙ sym (append_assoc heading text (drop (length (heading ++ text)) out)) in
      simp (le-leb (length heading) (length (front ++ rest)) there)
      (said-as (ap Ok (sym both))
      (ap (λ (l : List ℕ). heading ++ l) (drop_at front rest (length heading) sized) ∙ memory)
      ∙ sym (room_fits (heading ++ text) out room))

  -- there is no room for the heading alone
  over-short : (text : List ℕ) → length out < length heading → length text ≤ length (drop (length out) out)
      → over_label heading (length text) (take (length out) out ++ (text ++ drop (length text) (drop (length out) out)))
      ≡ room_outcome (heading ++ text) out
  over-short [] h k =
      ap (over_label heading 0) (take-append-drop (length out) out)
      ∙ (sym (label-short heading 0 out h)
      ∙ (said-as (ap (λ (n : ℕ). refusal 0 (Room n)) (sym (length-append heading []))) refl
      ∙ sym (room-short (heading ++ []) out (omega (arith, length-append heading [])))))
  over-short (x ∷ xs) h k = absurd (omega (arith, length-drop (length out) out))

  label-over : (text : List ℕ) → length text ≤ length (drop cut out)
      → over_label heading (length text) (take cut out ++ (text ++ drop (length text) (drop cut out)))
      ≡ room_outcome (heading ++ text) out
  label-over text k = by-test (leb (length heading) (length out)) refl
    where
      by-test : (t : Bool) → leb (length heading) (length out) ≡ t
          → over_label heading (length text) (take cut out ++ (text ++ drop (length text) (drop cut out)))
          ≡ room_outcome (heading ++ text) out
      by-test true e =
          let h = leb-true (length heading) (length out) e in
          rw (cut-long h) (over-fits text h (rw (cut-long h) at k))
      by-test false e =
          let h = leb-false (length heading) (length out) e in
          rw (cut_short h) (over-short text h (rw (cut_short h) at k))

  room-over : (text : List ℕ) → length (drop cut out) < length text
      → over_refusal heading (Room (length text)) (take cut out ++ drop cut out) ≡ room_outcome (heading ++ text) out
  room-over text k =
      ap (over_refusal heading (Room (length text))) (take-append-drop cut out)
      ∙ (sym (refusal-room heading (Room (length text)) out refl refl)
      ∙ (said-as (ap (λ (n : ℕ). refusal 0 (Room n)) (sym (length-append heading text))) refl
      ∙ sym
      (room-short (heading ++ text) out
      (omega (arith, length-append heading text, length-drop cut out, cut_below, cut-within)))))

  resolved-over : (r : Resolved) → Telling r
      → headed heading (resolved_outcome r (drop cut out)).answer (take cut out ++ (resolved_outcome r (drop cut out)).memory)
      ≡ room_outcome (heading ++ resolved_text r) out
  resolved-over (elements e) t = by-case (fitting (label_of e) (drop cut out))
    where
      by-case : Fitting (label_of e) (drop cut out)
          → headed heading (room_outcome (label_of e) (drop cut out)).answer
          (take cut out ++ (room_outcome (label_of e) (drop cut out)).memory)
          ≡ room_outcome (heading ++ label_of e) out
      by-case (fits k is) = rw is (label-over (label_of e) k)
      by-case (short k is) = rw is (room-over (label_of e) k)
  resolved-over (refused why) t =
      ap (over_refusal heading why) (take-append-drop cut out) ∙ sym (refusal-line heading why out t.0 t.1)

  -- the item of a label that was asked behind the heading's place, which came to `a` and left `y`
  pub item-over : (r : Resolved) → Telling r → {a : Answer} {y : List ℕ} → said a y ≡ resolved_outcome r (drop cut out)
      → headed heading a (take cut out ++ y) ≡ room_outcome (heading ++ resolved_text r) out
  item-over r t e =
      ap (λ (o : Outcome Answer). headed heading o.answer (take cut out ++ o.memory)) e ∙ resolved-over r t

  -- there is none of that number
  pub none_over : {a : Answer} {y : List ℕ} → said a y ≡ said (refusal 0 NoSuchNumber) (drop cut out)
      → headed heading a (take cut out ++ y) ≡ said (refusal 0 NoSuchNumber) out
  none_over e =
      ap (λ (o : Outcome Answer). headed heading o.answer (take cut out ++ o.memory)) e
      ∙ (ap (over_refusal heading NoSuchNumber) (take-append-drop cut out)
      ∙ sym (refusal_none heading NoSuchNumber out never refl))
    where
      never : number NoSuchNumber ≡ 10 → ⊥
      never n = omega (arith, n)

-- what is answered of a bounded label is small
room_small : (text out : List ℕ) → length text ≤ 4_294_967_295 → Small (room_outcome text out).answer
room_small text out h = by-case (fitting text out)
  where
    by-case : Fitting text out → Small (room_outcome text out).answer
    by-case (fits k is) = rw is h
    by-case (short k is) = rw is (λ ten. h)

resolved-small : (r : Resolved) (out : List ℕ) → Telling r → Bounded r → Small (resolved_outcome r out).answer
resolved-small (elements e) out t h = room_small (label_of e) out h
resolved-small (refused why) out t h = λ ten. absurd (t.0 ten)

pub item-small : (r : Resolved) (out : List ℕ) → Telling r → Bounded r → {a : Answer} {y : List ℕ}
    → said a y ≡ resolved_outcome r out
    → Small a
item-small r out t h e = rw (answer-of e) (resolved-small r out t h)

pub none-small : {a : Answer} {y out : List ℕ} → said a y ≡ said (refusal 0 NoSuchNumber) out → Small a
none-small e = rw (answer-of e) (λ ten. absurd (omega (arith, ten)))

-- what an address resolves to is told by a line, and no longer than its label
module _ (look : Lookup) (a : Address) where
  pub telling : Telling (resolve look a)
  unfolding resolve
  telling = by_tests (eqb (forbidden a) 0) (eqb (missing look a) 0)
    where
      by_tests : (t u : Bool)
          → Telling
          (cond t (cond u (elements (elements_of look a)) (refused (MissingKey (missing look a) 0)))
          (refused (Combination (forbidden a) 0)))
      by_tests true true = tt
      by_tests true false = (λ e. omega (arith, e), λ e. omega (arith, e))
      by_tests false u = (λ e. omega (arith, e), λ e. omega (arith, e))

  pub bounded : length (label_of (elements_of look a)) ≤ 4_294_967_295 → Bounded (resolve look a)
  unfolding resolve
  bounded h = by_tests (eqb (forbidden a) 0) (eqb (missing look a) 0)
    where
      by_tests : (t u : Bool)
          → Bounded
          (cond t (cond u (elements (elements_of look a)) (refused (MissingKey (missing look a) 0)))
          (refused (Combination (forbidden a) 0)))
      by_tests true true = h
      by_tests true false = tt
      by_tests false u = tt
