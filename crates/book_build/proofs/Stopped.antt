-- A refusal of one that is packed, passed on with its view.
-- Assumes nothing.
use Rattle.std.proofs.Common.{ℕ, ◌≡◌, List, ◌∷◌, refl, sym, ap, ◌∙◌}
use Rattle.std.specs.Prelude.{⊤, Ok, Err, IsErrAnd}
use Rattle.std.specs.Result.{MatchResult}
use Rattle.std.proofs.lemmas.Result.{err_from_is_err_and}
use Rattle.refusal.specs.Refusal.{with_view}
use Rattle.refusal.specs.declared.Reason.{Reason}
use Rattle.refusal.specs.Verdict.{Verdict, fine}
use Rattle.refusal.proofs.Verdicts.{bad-fine}
use Rattle.source.specs.Delivery.{refusal_in}
use Rattle.shelf.specs.Stock.{Stock}
use Rattle.build.specs.Plan.{Packed, rows_of, first_refused}
use Rattle.build.proofs.Walks.{Marking, marking-stop}

-- what is passed on, of what was found
abbrev pub Passed : (found passed : Verdict) → (Reason → Reason → Type 0) → Type 0
Passed found passed Q = MatchResult found (λ x. passed ≡ Ok x) (λ e. IsErrAnd passed (Q e))

pub fine-before : (found passed : Verdict) (Q : Reason → Reason → Type 0) → Passed found passed Q → {x : ⊤} → passed ≡ Ok x → found ≡ fine
fine-before (Ok x) passed Q p e = refl
fine-before (Err y) passed Q p e =
    let (d, is, q) = err_from_is_err_and passed p in
    absurd (bad-fine d (sym is ∙ e))

bad-before : (found passed : Verdict) {view : ℕ} (Q : Reason → Reason → Type 0) → Passed found passed Q
    → ((e d : Reason) → Q e d → d ≡ with_view view e) → {why : Reason} → passed ≡ Err why
    → (e : Reason) × (found ≡ Err e) × (why ≡ with_view view e)
bad-before (Ok x) passed Q p f {why} e = absurd (bad-fine why (sym e ∙ p))
bad-before (Err y) passed Q p f {why} e =
    let (d, is, q) = err_from_is_err_and passed p in
    let same : why ≡ d = cc in
    (y, refl, same ∙ f y d q)

pub stopped : {st : Stock} {all : List Packed} {entry marks : List ℕ} {d : Packed} {ds : List Packed} (found passed : Verdict)
    (Q : Reason → Reason → Type 0) → Passed found passed Q → ((e x : Reason) → Q e x → x ≡ with_view d.view e)
    → found ≡ refusal_in d.point (rows_of st d.point) → Marking st all entry (d ∷ ds) marks → {why : Reason} → passed ≡ Err why
    → first_refused st all ≡ Err why
stopped found passed Q p f is m e =
    let (y, bad, same) = bad-before found passed Q p f e in
    marking-stop m y (sym is ∙ bad) ∙ ap (λ (x : Reason). Err x) (sym same)
