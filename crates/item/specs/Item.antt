-- An item of a listing: "the line `view N L` .., then the label or the line `refused n d`".
-- Assumes nothing.
use Rattle.std.specs.Prelude.{List, ◌++◌, ℕ}
use Rattle.std.proofs.Math.Option.{Option, none, some}
use Rattle.refusal.specs.declared.Reason.TheVariants.{NoSuchNumber}
use Rattle.refusal.specs.Outcome.{Outcome, said}
use Rattle.source.specs.Resolve.{Resolved, elements, refused}
use Rattle.label.specs.Label.{label_of, room_outcome}
use Rattle.item.specs.Lines.{refused_line}
use Rattle.refusal.specs.Answer.{Answer, refusal}

-- the heading of an item by its number
abbrev pub Heading : Type 0
Heading = ℕ → List ℕ

-- "then the label, or `refused`, number, detail"
abbrev pub resolved_text : Resolved → List ℕ
resolved_text (elements e) = label_of e
resolved_text (refused why) = refused_line why

-- an item into a buffer: "It stops with 7 where no such view is left and with 10 before the first that does not fit in what
-- is left (its own bytes needed)"; "A refused label does not stop a listing"
abbrev pub item_outcome : (heading : List ℕ) → Option Resolved → List ℕ → Outcome Answer
item_outcome heading none out = said (refusal 0 NoSuchNumber) out
item_outcome heading (some r) out = room_outcome (heading ++ resolved_text r) out
