-- A run on its way over what is asked in turn: it goes as every run does, and who asks knows which number is next.
-- Assumes nothing.
use Rattle.std.proofs.Common.{◌≡◌, ℕ, ◌+◌, ◌-◌, ◌≤◌, ◌<◌, List, [], ◌++◌, length, take, drop, refl, sym, ap, ◌∙◌, add-zero, add_assoc, append-nil, length-append, length-drop, arith, Ok}
use lib.ListN.{drop_of_length-le}
use lib.Seq.{take_all, length-take-le}
use Rattle.refusal.specs.declared.Reason.{Reason}
use Rattle.refusal.specs.Outcome.{said}
use Rattle.refusal.specs.Answer.{Answer, refusal}
use Rattle.run.specs.declared.Run.TheVariants.{Stopped, Done}
use Rattle.run.specs.Series.{Asking, asked_behind, run_from}
use Rattle.run.proofs.Going.{Going, lent-behind, going_start, going-stop, going_step, going_end}
use Rattle.run_in_turn.specs.Turns.{GoesOn}

-- what is left of a buffer behind so many bytes as it is lent, and the whole as it is given back
abbrev pub left : ℕ → List ℕ → List ℕ
left at here = take (length here - at) (drop at here)

abbrev pub given_back : ℕ → List ℕ → List ℕ → List ℕ
given_back at here part = take at here ++ (part ++ drop (length here - at) (drop at here))

-- `old` was asked for so many, `done` of them are written in the first `at` bytes, and it is `now`
pub record Along {S : Type 0} (asking : S → Asking) (is_next : S → ℕ → Type 0) (old : S) (count : ℕ) (out : List ℕ)
    (done at : ℕ) (now : S) (here : List ℕ) : Type 0 where
  pub within : at ≤ length here
  pub next : (k : ℕ) → is_next old k → is_next now (k + done)
  pub same : asking now ≡ asking old
  pub on : (k : ℕ) → is_next old k → Going (asking old) k count out done at here

module _ {S : Type 0} {asking : S → Asking} {is_next : S → ℕ → Type 0} {old : S} {count : ℕ} {out : List ℕ} where
  pub along_start : Along asking is_next old count out 0 0 old out
  along_start =
      record {
        within = omega arith;
        next = λ k n. rw add-zero n;
        same = refl;
        on = λ k n. going_start (asking old) k count out;
      }

  module _ {done at : ℕ} {now : S} {here : List ℕ} (a : Along asking is_next old count out done at now here) where
    pub along_end : done ≡ count → (k : ℕ) → is_next old k → said (Ok (Done count at)) here ≡ run_from (asking old) k count out
    along_end all k n = ap (λ m. said (Ok (Done m at)) here) (sym all) ∙ going_end (a.on k n) (omega (arith, all))

    -- the next is asked in what is left: it comes to `r`, and leaves `part`
    module _ (h : done < count) {r : Answer} {part : List ℕ}
        (asked : (k : ℕ) → is_next now k → said r part ≡ asking now k (left at here)) where
      whole : given_back at here part ≡ take at here ++ part
      whole =
          let none : drop (length here - at) (drop at here) ≡ [] =
          drop_of_length-le (drop at here) {i = length here - at} (omega (arith, length-drop at here)) in
          rw (none, append-nil part)

      answered : (k : ℕ) → is_next old k → said r (given_back at here part) ≡ asked_behind at here (asking old (k + done))
      answered k n =
          let rest : left at here ≡ drop at here = take_all (length here - at) (drop at here) (omega (arith, length-drop at here)) in
          let e = asked (k + done) (a.next k n) in
          lent-behind (asking old (k + done)) at here whole (rw (a.same, rest) at e)

      pub along-stop : (k : ℕ) → is_next old k → {file : ℕ} {why : Reason} → r ≡ refusal file why
          → said (Ok (Stopped done at why)) (given_back at here part) ≡ run_from (asking old) k count out
      along-stop k n e = going-stop (a.on k n) h (answered k n) e

      pub along_step : {b : ℕ} {new : S} → r ≡ Ok b → b ≤ length part → length part ≡ length (left at here)
          → ((k : ℕ) → is_next now k → GoesOn asking is_next now new k)
          → (some : ℕ) → is_next old some
          → Along asking is_next old count out (done + 1) (at + b) new (given_back at here part)
      along_step {b} e fits full goes some first =
          let front : length (take at here) ≡ at = length-take-le at here a.within in
          let room : at + b ≤ length (given_back at here part) =
          omega (arith, ap length whole, length-append (take at here) part, front) in
          record {
            within = room;
            next = λ k n. rw (← add_assoc k done 1) ((goes (k + done) (a.next k n)).next);
            same = (goes (some + done) (a.next some first)).same ∙ a.same;
            on = λ k n. going_step (a.on k n) h (answered k n) e room;
          }
