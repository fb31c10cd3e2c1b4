-- What an accepted file is: its records are well formed, they rise, and owners and followers stand where they must.
-- Assumes nothing.
use Prim.Native.Nat.{ℕ, zero, suc, ◌+◌, ◌-◌, ◌≤◌, ◌<◌}
use mathlib.Core.Path.{◌≡◌, refl, sym, ap, ◌∙◌}
use mathlib.Core.Bool.{Bool, true, false, cond}
use mathlib.Core.List.{List}
use mathlib.Core.Logic.{⊎_elim}
use native.Mathlib.Omega.{arith}
use native.Mathlib.Nat.{eq-or-lt_of_le}
use borrow.Author.Tests.{eqb-true}
use lib.Dec.{eqb}
use Rattle.refusal.specs.Refusal.{malformed_at}
use Rattle.refusal.specs.declared.Reason.{Reason}
use Rattle.refusal.specs.declared.Reason.TheVariants.{NotAbove, Follower}
use Rattle.refusal.proofs.Answers.{refused-value}
use Rattle.refusal.proofs.Verdicts.{bad-fine, both-fine}
use Rattle.file.specs.Check.{Format, records, whole, at, rises, in_place, judged, scan, verdict, answered, checked}
use Rattle.file.specs.Accepted.{FineRecord, Accepted}
use Rattle.file.proofs.Laws.{judged-fine, verdict-length, verdict-header, verdict-trailer, verdict-scan}
use Rattle.std.specs.Prelude.{Ok, Err}
use Rattle.refusal.specs.Verdict.{Verdict, fine}

-- of a scan that found nothing, each verdict is fine
pub scan-fine : (judge : ℕ → Verdict) (k i : ℕ) → scan judge k i ≡ fine → (j : ℕ) → i ≤ j → j < i + k → judge j ≡ fine
scan-fine judge zero i e j p q = absurd (omega arith)
scan-fine judge (suc k) i e j p q =
    let fine = both-fine (judge i) (scan judge k (suc i)) e in
    ⊎_elim (λ (h : i ≡ j). ap judge (sym h) ∙ fine.0)
    (λ (h : suc i ≤ j). scan-fine judge k (suc i) fine.1 j h (omega arith)) (eq-or-lt_of_le p)

pub judged-record : (f : Format) (file : List ℕ) (i : ℕ) → judged f file i ≡ fine → FineRecord f file i
unfolding judged
judged-record f file i e =
    by_tests (eqb (f.fault (at f file i)) 0) (rises f file i)
    (in_place f file i) (Follower (i + 1)) (NotAbove (i + 1))
    (malformed_at (i + 1) (f.fault (at f file i))) refl refl refl e
  where
    by_tests : (t u v : Bool) (stray falls malformed : Reason) → eqb (f.fault (at f file i)) 0 ≡ t → rises f file i ≡ u
        → in_place f file i ≡ v
        → cond t (cond u (cond v fine (Err stray)) (Err falls)) (Err malformed) ≡ fine
        → FineRecord f file i
    by_tests true true true stray falls malformed p q r e =
        record { well_formed = eqb-true (f.fault (at f file i)) 0 p; rising = q; in-place = r }
    by_tests true true false stray falls malformed p q r e = absurd (bad-fine stray e)
    by_tests true false v stray falls malformed p q r e = absurd (bad-fine falls e)
    by_tests false u v stray falls malformed p q r e = absurd (bad-fine malformed e)

record-judged : (f : Format) (file : List ℕ) (i : ℕ) → FineRecord f file i → judged f file i ≡ fine
record-judged f file i r = judged-fine f file i r.well_formed r.rising r.in-place

fine-scan : (judge : ℕ → Verdict) (k i : ℕ) → ((j : ℕ) → i ≤ j → j < i + k → judge j ≡ fine) → scan judge k i ≡ fine
fine-scan judge zero i h = refl
fine-scan judge (suc k) i h =
    rw (h i (omega arith) (omega arith)) (fine-scan judge k (suc i) (λ j p q. h j (omega arith) (omega arith)))

module _ (f : Format) (file : List ℕ) where
  verdict-accepted : verdict f file ≡ fine → Accepted f file
  verdict-accepted e =
      by_tests (whole f file) (f.headed (at f file 0))
      (f.ended (records f file) (at f file (records f file - 1))) refl refl refl
    where
      scanned : scan (judged f file) (records f file - 2) 1 ≡ fine → (i : ℕ) → 1 ≤ i → i < records f file - 1
          → FineRecord f file i
      scanned h i p q =
          judged-record f file i (scan-fine (judged f file) (records f file - 2) 1 h i p (omega arith))

      by_tests : (t u v : Bool) → whole f file ≡ t → f.headed (at f file 0) ≡ u
          → f.ended (records f file) (at f file (records f file - 1)) ≡ v
          → Accepted f file
      by_tests true true true p q r =
          record { is_whole = p; headed = q; ended = r; each = scanned (sym (verdict-scan f file p q r) ∙ e) }
      by_tests true true false p q r = absurd (bad-fine _ (sym (verdict-trailer f file p q r) ∙ e))
      by_tests true false v p q r = absurd (bad-fine _ (sym (verdict-header f file p q) ∙ e))
      by_tests false u v p q r = absurd (bad-fine _ (sym (verdict-length f file p) ∙ e))

  -- a file that is answered with a number is accepted
  pub accepted : (n : ℕ) → checked f file ≡ Ok n → Accepted f file
  unfolding checked
  accepted n e = by-verdict (verdict f file) refl e
    where
      by-verdict : (v : Verdict) → verdict f file ≡ v → answered f file v ≡ Ok n → Accepted f file
      by-verdict (Ok _) h e = verdict-accepted h
      by-verdict (Err why) h e = absurd (refused-value f.file n why e)

  -- and an accepted file is so answered
  pub accepts : Accepted f file → checked f file ≡ Ok (records f file)
  unfolding checked
  accepts a = ap (answered f file) (verdict-scan f file a.is_whole a.headed a.ended ∙ fine-scan (judged f file) (records f file - 2) 1 (λ i p q. record-judged f file i (a.each i p (omega arith))))
