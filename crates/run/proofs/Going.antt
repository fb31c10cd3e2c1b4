-- A run on its way: so many labels are written in so many bytes, and the rest decides.
-- Assumes nothing.
use Prim.Native.Nat.{ℕ, zero, suc, ◌+◌, ◌-◌, ◌≤◌, ◌<◌}
use mathlib.Core.Path.{◌≡◌, refl, sym, ap, ◌∙◌}
use mathlib.Core.List.{List, ◌++◌, append_assoc}
use native.Mathlib.Omega.{arith}
use native.Mathlib.Nat.{zero-add}
use lib.ListN.{length, take, drop, length-append, take-append-drop}
use lib.Seq.{length-take-le, take-append-add, drop-append-add}
use Rattle.refusal.specs.declared.Reason.{Reason}
use Rattle.refusal.specs.Outcome.{Outcome, said}
use Rattle.refusal.proofs.Outcomes.{said-as, answer-of, memory-of}
use Rattle.run.specs.Series.{Asking, asked_behind, behind, go_on, run_from}
use Rattle.std.specs.Prelude.{Ok, Err}
use Rattle.refusal.specs.Answer.{Answer, refusal}
use Rattle.run.specs.Series.{Series}
use Rattle.run.specs.declared.Run.TheVariants.{Stopped, Done}

done-asked : (l b file : ℕ) (why : Reason) → Ok (Done l b) ≡ refusal file why → ⊥
done-asked l b file why e = let z : ◌≡◌ {A = ℕ} 0 1 = cc in omega arith

stopped-asked : (l b file : ℕ) (w why : Reason) → Ok (Stopped l b w) ≡ refusal file why → ⊥
stopped-asked l b file w why e = let z : ◌≡◌ {A = ℕ} 0 1 = cc in omega arith

behind-none : (s : Series) → behind 0 0 s ≡ s
behind-none (Err r) = refl
behind-none (Ok (Stopped l b why)) = rw (zero-add l, zero-add b)
behind-none (Ok (Done l b)) = rw (zero-add l, zero-add b)

behind_more : (labels bytes b : ℕ) (s : Series) → behind labels bytes (behind 1 b s) ≡ behind (labels + 1) (bytes + b) s
behind_more labels bytes b (Err r) = refl
behind_more labels bytes b (Ok (Stopped l c why)) =
    let n : labels + (1 + l) ≡ labels + 1 + l = omega arith in
    let m : bytes + (b + c) ≡ bytes + b + c = omega arith in
    rw (n, m)
behind_more labels bytes b (Ok (Done l c)) =
    let n : labels + (1 + l) ≡ labels + 1 + l = omega arith in
    let m : bytes + (b + c) ≡ bytes + b + c = omega arith in
    rw (n, m)

-- a run behind so many labels, which take these bytes
abbrev pub put-before : ℕ → ℕ → (front : List ℕ) → Outcome Series → Outcome Series
put-before labels bytes front o = said (behind labels bytes o.answer) (front ++ o.memory)

-- a label that was asked in a lent part of the buffer, which is given back
pub lent-behind : (ask : List ℕ → Outcome Answer) (at : ℕ) (out : List ℕ) {r : Answer} {part exit : List ℕ}
    → exit ≡ take at out ++ part → said r part ≡ ask (drop at out) → said r exit ≡ asked_behind at out ask
lent-behind ask at out back e =
    said-as (answer-of e) (back ∙ ap (λ (z : List ℕ). take at out ++ z) (memory-of e))

-- a label that is answered with its bytes fits
abbrev pub Fitting : Asking → Type 0
Fitting a = (k : ℕ) (out : List ℕ) (b : ℕ) → (a k out).answer ≡ Ok b → b ≤ length (a k out).memory

-- `done` labels are written in the first `at` bytes of the buffer, which was `out` and is `here`
pub record Going (a : Asking) (first count : ℕ) (out : List ℕ) (done at : ℕ) (here : List ℕ) : Type 0 where
  pub within : at ≤ length here
  pub on : run_from a first count out
      ≡ put-before done at (take at here) (run_from a (first + done) (count - done) (drop at here))

pub going_start : (a : Asking) (first count : ℕ) (out : List ℕ) → Going a first count out 0 0 out
going_start a first count out =
    let n : first + 0 ≡ first = omega arith in
    let m : count - 0 ≡ count = omega arith in
    record {
      within = omega arith;
      on = rw (n, m) (said-as (sym (behind-none (run_from a first count out).answer)) refl);
    }

module _ {a : Asking} {first count : ℕ} {out : List ℕ} {done at : ℕ} {here : List ℕ} (g : Going a first count out done at here) where
  pub going_end : count ≤ done → said (Ok (Done done at)) here ≡ run_from a first count out
  going_end h =
      let none : count - done ≡ 0 = omega arith in
      let n : done + 0 ≡ done = omega arith in
      let m : at + 0 ≡ at = omega arith in
      sym (g.on ∙ rw (none, n, m, take-append-drop at here))

  -- the next label is asked in what is left: it comes to `r`, and leaves `y`
  module _ (h : done < count) {r : Answer} {y : List ℕ} (asked : said r y ≡ asked_behind at here (a (first + done))) where
    abbrev written : List ℕ
    written = (a (first + done) (drop at here)).memory

    left : count - done ≡ suc (count - (done + 1))
    left = omega arith

    front : length (take at here) ≡ at
    front = length-take-le at here g.within

    pub going-stop : {file : ℕ} {why : Reason} → r ≡ refusal file why
        → said (Ok (Stopped done at why)) y ≡ run_from a first count out
    going-stop e =
        let n : done + 0 ≡ done = omega arith in
        let m : at + 0 ≡ at = omega arith in
        let refused = sym (answer-of asked) ∙ e in
        said-as refl (memory-of asked) ∙ sym (g.on ∙ rw (left, refused, n, m))

    module _ {b : ℕ} (e : r ≡ Ok b) where
      value : (a (first + done) (drop at here)).answer ≡ Ok b
      value = sym (answer-of asked) ∙ e

      -- what was written stays within the buffer
      pub going-fits : Fitting a → at + b ≤ length y
      going-fits fit =
          omega (
            arith,
            ap length (memory-of asked),
            length-append (take at here) written,
            front,
            fit (first + done) (drop at here) b value,
          )

      pub going_step : at + b ≤ length y → Going a first count out (done + 1) (at + b) y
      going_step fits =
          let took : take (at + b) (take at here ++ written) ≡ take at here ++ take b written =
          ap (λ n. take (n + b) (take at here ++ written)) (sym front) ∙ take-append-add (take at here) written b in
          let dropped : drop (at + b) (take at here ++ written) ≡ drop b written =
          ap (λ n. drop (n + b) (take at here ++ written)) (sym front) ∙ drop-append-add (take at here) written b in
          let n : first + (done + 1) ≡ suc (first + done) = omega arith in
          let rest = run_from a (suc (first + done)) (count - (done + 1)) (drop b written) in
          record {
            within = fits;
            on =
                g.on
                ∙ rw (memory-of asked, left, value, took, dropped, n)
                (said-as (behind_more done at b rest.answer)
                (sym (append_assoc (take at here) (take b written) rest.memory)));
          }

-- a run that is asked at all is never refused as a whole
behind-asked : (labels bytes : ℕ) (s : Series) (file : ℕ) (why : Reason) → behind labels bytes s ≡ refusal file why
    → s ≡ refusal file why
behind-asked labels bytes (Err r) file why e = e
behind-asked labels bytes (Ok (Stopped l b w)) file why e = absurd (stopped-asked (labels + l) (bytes + b) file w why e)
behind-asked labels bytes (Ok (Done l b)) file why e = absurd (done-asked (labels + l) (bytes + b) file why e)

pub never-unasked : (a : Asking) (n k : ℕ) (out : List ℕ) (file : ℕ) (why : Reason)
    → (run_from a k n out).answer ≡ refusal file why
    → ⊥
never-unasked a zero k out file why e = done-asked 0 0 file why e
never-unasked a (suc n) k out file why e =
    by_answer (a k out).answer e (λ b. never-unasked a n (suc k) (drop b (a k out).memory) file why)
  where
    by_answer : (r : Answer) → (go_on r (a k out).memory (λ rest. run_from a (suc k) n rest)).answer ≡ refusal file why
        → ((b : ℕ) → (run_from a (suc k) n (drop b (a k out).memory)).answer ≡ refusal file why → ⊥)
        → ⊥
    by_answer (Ok b) e more = more b (behind-asked 1 b _ file why e)
    by_answer (Err r) e more = stopped-asked 0 0 file r.reason why e
