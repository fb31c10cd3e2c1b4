-- An item, once its label was asked in what the heading leaves of a buffer.
-- Assumes nothing.
use Rattle.std.specs.Prelude.{ℕ, ◌+◌, ◌≤◌, ◌≡◌, cond, List, ◌++◌, eqb, leb, length, drop}
use Rattle.refusal.specs.declared.Reason.{Reason}
use Rattle.refusal.specs.declared.Reason.TheVariants.{NoSuchNumber, Room}
use Rattle.refusal.specs.Outcome.{Outcome, said}
use Rattle.refusal.specs.Refusal.{number, detail}
use Rattle.label.specs.Label.{room_outcome}
use Rattle.item.specs.Lines.{refused_line}
use Rattle.std.specs.Prelude.{Ok, Err}
use Rattle.refusal.specs.Answer.{Answer, refusal}

-- how much of so many bytes a heading takes
unfoldable pub before : (heading : List ℕ) → (room : ℕ) → ℕ
before heading room = cond (leb (length heading) room) (length heading) room

-- a label of so many bytes has been written behind the heading's place
unfoldable pub over_label : (heading : List ℕ) → ℕ → (out : List ℕ) → Outcome Answer
over_label heading label out =
    cond (leb (length heading) (length out))
    (said (Ok (length heading + label)) (heading ++ drop (length heading) out))
    (said (refusal 0 (Room (length heading + label))) out)

-- a label has been refused: without room, since there is none of that number, or by 8 or 9
unfoldable pub over_refusal : (heading : List ℕ) → Reason → (out : List ℕ) → Outcome Answer
over_refusal heading why out =
    cond (eqb (number why) 10) (said (refusal 0 (Room (length heading + detail why))) out)
    (cond (eqb (number why) 7) (said (refusal 0 NoSuchNumber) out) (room_outcome (heading ++ refused_line why) out))

abbrev pub headed : (heading : List ℕ) → Answer → (out : List ℕ) → Outcome Answer
headed heading (Ok label) out = over_label heading label out
headed heading (Err r) out = over_refusal heading r.reason out

-- what is answered of a label is small enough to be added to
abbrev pub Small : Answer → Type 0
Small (Ok label) = label ≤ 4_294_967_295
Small (Err r) = number r.reason ≡ 10 → detail r.reason ≤ 4_294_967_295
