-- The bytes of a label, and what printing it into a lent buffer comes to.
-- Assumes nothing.
use Rattle.std.specs.Prelude.{ℕ, cond, List, [], ◌∷◌, ◌++◌, leb, length, drop}
use Rattle.refusal.specs.declared.Reason.TheVariants.{Room}
use Rattle.refusal.specs.Outcome.{Outcome, said}
use Rattle.source.specs.Address.{Elements}
use Rattle.source.specs.Resolve.{Resolved, elements, refused}
use Rattle.label.specs.Lines.{lines_of}
use Rattle.std.specs.Prelude.{Ok}
use Rattle.refusal.specs.Answer.{Answer, refusal}

-- "Each line ends with byte 10"
abbrev pub ended : List (List ℕ) → List ℕ
ended [] = []
ended (l ∷ ls) = l ++ (10 ∷ ended ls)

unfoldable pub label_of : Elements → List ℕ
label_of e = ended (lines_of e)

-- bytes that are wanted in a buffer: "10: lent buffer shorter than the label .. bytes needed"; "bytes behind the label
-- keep their values"; "A refusal leaves lent buffers unwritten"
unfoldable pub room_outcome : (text out : List ℕ) → Outcome Answer
room_outcome text out =
    cond (leb (length text) (length out))
    (said (Ok (length text)) (text ++ drop (length text) out))
    (said (refusal 0 (Room (length text))) out)

-- what is printed of an address, or its refusal
abbrev pub resolved_outcome : Resolved → List ℕ → Outcome Answer
resolved_outcome (elements e) out = room_outcome (label_of e) out
resolved_outcome (refused why) out = said (refusal 0 why) out
