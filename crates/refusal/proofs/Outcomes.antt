-- Laws of calls that come one after another.
-- Assumes nothing.
use Prim.Native.Nat.{ℕ}
use mathlib.Core.Path.{◌≡◌, refl, sym, ap, ap₂, ◌∙◌}
use mathlib.Core.List.{List}
use Rattle.refusal.specs.declared.Reason.{Reason}
use Rattle.refusal.specs.Outcome.{Outcome, said, after, afterwards}
use Rattle.refusal.proofs.Answers.{refused-value}
use Rattle.std.specs.Prelude.{Ok, Err}
use Rattle.refusal.specs.Answer.{Answer, refusal}

pub said-as : {A : Type 0} {a b : A} {x y : List ℕ} → a ≡ b → x ≡ y → said a x ≡ said b y
said-as {A} p q = ap₂ (said {A = A}) p q

pub answer-of : {A : Type 0} {o p : Outcome A} → o ≡ p → o.answer ≡ p.answer
answer-of {A} e = ap (λ (o : Outcome A). o.answer) e

pub memory-of : {A : Type 0} {o p : Outcome A} → o ≡ p → o.memory ≡ p.memory
memory-of {A} e = ap (λ (o : Outcome A). o.memory) e

-- the first answer, as the code found it
module _ (answer found next : Answer) (same : found ≡ answer) where
  pub after-value : (n : ℕ) → found ≡ Ok n → next ≡ after answer next
  after-value n e = ap (λ x. after x next) (sym e ∙ same)

  pub after-refused : (file : ℕ) (why : Reason) → found ≡ refusal file why → refusal file why ≡ after answer next
  after-refused file why e = ap (λ x. after x next) (sym e ∙ same)

-- the same of a call that writes
module _ {A : Type 0} (whole : ℕ → Reason → A) {judged : Answer} (out : List ℕ) (next : Outcome A) where
  pub afterwards-value : {n : ℕ} → judged ≡ Ok n → afterwards whole judged out next ≡ next
  afterwards-value e = ap (λ (j : Answer). afterwards whole j out next) e

  pub afterwards-refused : {file : ℕ} {why : Reason} → judged ≡ refusal file why
      → afterwards whole judged out next ≡ said (whole file why) out
  afterwards-refused e = ap (λ (j : Answer). afterwards whole j out next) e

-- two questions of which both are answered
pub record Both (first second : Answer) : Type 0 where
  pub first-number : ℕ
  pub first_is : first ≡ Ok first-number
  pub second-number : ℕ
  pub second_is : second ≡ Ok second-number

pub both_values : (first second : Answer) {n : ℕ} → after first second ≡ Ok n → Both first second
both_values (Ok m) (Ok k) e = record { first-number = m; first_is = refl; second-number = k; second_is = refl }
both_values (Ok m) (Err r) {n} e = absurd (refused-value r.file n r.reason e)
both_values (Err r) second {n} e = absurd (refused-value r.file n r.reason e)
