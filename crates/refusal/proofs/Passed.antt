-- What `?` answers with where it passes a refusal on.
-- Assumes nothing.
use Prim.Native.Nat.{ℕ}
use mathlib.Core.Path.{◌≡◌, sym, ap, ◌∙◌}
use mathlib.Core.List.{List}
use Rattle.std.specs.Prelude.{Result, Err, IsErrAnd}
use Rattle.std.proofs.lemmas.Result.{err_from_is_err_and}
use Rattle.refusal.specs.declared.Reason.{Reason}
use Rattle.refusal.specs.declared.Refusal.{Refusal}
use Rattle.refusal.specs.Answer.{Answer, blame, refusal}
use Rattle.refusal.specs.Outcome.{Outcome, said, after, afterwards}

pub passed-on : {T E : Type 0} (r : Result T E) (e : E) → IsErrAnd r (λ x. x ≡ e) → r ≡ Err e
passed-on {T} {E} r e h =
    let p = err_from_is_err_and {Q = λ x. x ≡ e} r h in p.1 ∙ ap (λ (x : E). Err x) p.2

-- of what is asked one after the other: the first refuses
pub after-passed : {found answer : Answer} (next : Answer) {e : Refusal} (r : Answer) → found ≡ answer → found ≡ Err e
    → IsErrAnd r (λ x. x ≡ e) → r ≡ after answer next
after-passed next {e} r same stopped h =
    passed-on r e h ∙ ap (λ (a : Answer). after a next) (sym stopped ∙ same)

-- the same of a call that writes
pub afterwards-passed : {T : Type 0} {found judged : Answer} {out : List ℕ} (next : Outcome (Result T Refusal)) {e : Refusal}
    (r : Result T Refusal) → found ≡ judged → found ≡ Err e → IsErrAnd r (λ x. x ≡ e)
    → said r out ≡ afterwards refusal judged out next
afterwards-passed {T} {out = out} next {e} r same stopped h =
    ap (λ (a : Result T Refusal). said a out) (passed-on r e h)
    ∙ ap (λ (j : Answer). afterwards refusal j out next) (sym stopped ∙ same)

-- a reason passed on blames no file
pub reason-passed : {T : Type 0} {why : Reason} (r : Result T Refusal) → IsErrAnd r (λ x. x ≡ blame 0 why)
    → r ≡ refusal 0 why
reason-passed {T} {why} r h = passed-on r (blame 0 why) h

-- the same with what is in the lent buffer
pub said-passed : {T E : Type 0} {out : List ℕ} (r : Result T E) {e : E} → IsErrAnd r (λ x. x ≡ e)
    → said r out ≡ said (Err e) out
said-passed {T} {E} {out} r {e} h = ap (λ (a : Result T E). said a out) (passed-on r e h)
