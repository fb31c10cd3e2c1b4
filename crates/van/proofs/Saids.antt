-- What folding comes to, as code finds it: the rows are counted first.
-- Assumes nothing.
use Prim.Native.Nat.{ℕ, ◌≤◌, ◌<◌}
use mathlib.Core.Path.{◌≡◌, refl, sym, ap, ◌∙◌}
use mathlib.Core.List.{List}
use native.Mathlib.Omega.{arith}
use borrow.Author.Tests.{le-leb, lt-leb}
use lib.ListN.{length}
use Rattle.std.specs.Prelude.{Ok, Err}
use Rattle.refusal.specs.declared.Reason.TheVariants.{Room}
use Rattle.refusal.specs.Answer.{blame}
use Rattle.refusal.specs.Outcome.{Outcome, said}
use Rattle.refusal.proofs.Outcomes.{said-as}
use Rattle.label.specs.Label.{ended, room_outcome}
use Rattle.label.specs.Put.{Put}
use Rattle.label.proofs.Puts.{wrote}
use Rattle.label.proofs.Room.{counted-short, counted-written}
use Rattle.van.specs.declared.Refusal.TheVariants.{Lower, TooManyLines}
use Rattle.van.specs.Fold.{rows, folded, folded_bytes}
use Rattle.van.specs.Walk.{text_rows}
use Rattle.van.specs.Said.{Answer, as_lower, fold_outcome, packed, told}
use Rattle.van.proofs.Rows.{texts-length}

module _ (text out : List ℕ) where
  pub fold-many : rows < length (folded text) → fold_outcome text out ≡ said (Err TooManyLines) out
  unfolding fold_outcome
  fold-many h = rw (lt-leb (length (folded text)) rows h)

  pub fold-few : length (folded text) ≤ rows → fold_outcome text out ≡ as_lower (room_outcome (folded_bytes text) out)
  unfolding fold_outcome
  fold-few h = rw (le-leb (length (folded text)) rows h)

  rows_are : length (text_rows text) ≡ length (folded text)
  unfolding text_rows
  rows_are = texts-length (folded text)

  bytes-are : ended (text_rows text) ≡ folded_bytes text
  unfolding text_rows folded_bytes
  bytes-are = refl

  module _ {n : ℕ} (counted : n ≡ length (text_rows text)) where
    pub counted-many : rows < n → said (Err TooManyLines) out ≡ fold_outcome text out
    counted-many h = sym (fold-many (omega (arith, rows_are)))

    module _ (few : n ≤ rows) where
      few-is : fold_outcome text out ≡ as_lower (room_outcome (ended (text_rows text)) out)
      few-is = rw bytes-are (fold-few (omega (arith, rows_are)))

      pub counted-room : {b : ℕ} → b ≡ length (ended (text_rows text)) → length out < b
          → said (Err (Lower (blame 0 (Room b)))) out ≡ fold_outcome text out
      counted-room is h = ap as_lower (counted-short (ended (text_rows text)) out is h) ∙ sym few-is

      pub counted-folded : {r : ℕ} {exit : List ℕ} → length (ended (text_rows text)) ≤ length out
          → Put (ended (text_rows text)) out 0 r exit
          → said (Ok r) exit ≡ fold_outcome text out
      counted-folded h put =
          let w = wrote put in
          ap as_lower (counted-written (ended (text_rows text)) out h w.size w.is) ∙ sym few-is

-- what C is told
pub told-as : {n : ℕ} {r : Answer} {exit : List ℕ} {o : Outcome Answer} → n ≡ packed r → said r exit ≡ o → said n exit ≡ told o
told-as is e = said-as is refl ∙ ap told e
