-- What the van library answers, what folding comes to, and the one number in which an answer reaches C.
-- Assumes nothing.
use Rattle.std.specs.Prelude.{ℕ, cond, List, leb, length, take, replicate, Result, Ok, Err}
use Rattle.refusal.specs.Answer as Lower
use Rattle.refusal.specs.Outcome.{Outcome, said}
use Rattle.refusal.specs.Packed as Word
use Rattle.label.specs.Label.{room_outcome}
use Rattle.van.specs.declared.Refusal.{Refusal}
use Rattle.van.specs.declared.Refusal.TheVariants.{Lower, TooManyLines}
use Rattle.van.specs.Fold.{rows, folded, folded_bytes}

-- what a call answers: a value, or why it refuses
abbrev pub Answer : Type 0
Answer = Result ℕ Refusal

-- an answer that the lower library has too
abbrev pub lower : Lower.Answer → Answer
lower (Ok n) = Ok n
lower (Err r) = Err (Lower r)

abbrev pub as_lower : Outcome Lower.Answer → Outcome Answer
as_lower o = said (lower o.answer) o.memory

-- "21 where there are more than 6 lines, then 10 with the bytes needed"
unfoldable pub fold_outcome : (text out : List ℕ) → Outcome Answer
fold_outcome text out =
    cond (leb (length (folded text)) rows) (as_lower (room_outcome (folded_bytes text) out)) (said (Err TooManyLines) out)

-- a label that stands in the front of its own buffer is folded into `out`: "the lower library's refusals first"
abbrev pub label_folded : Lower.Answer → (label out : List ℕ) → Outcome Answer
label_folded (Ok n) label out = fold_outcome (take n label) out
label_folded (Err r) label out = said (Err (Lower r)) out

-- "the label stands in a local buffer of 499 bytes", of zeros: what the lower call comes to in it, folded
abbrev pub fresh : List ℕ
fresh = replicate 499 0

abbrev pub folding : (label : List ℕ → Outcome Lower.Answer) → (out : List ℕ) → Outcome Answer
folding label out = label_folded (label fresh).answer (label fresh).memory out

-- the lower library's number, and 21 with no detail
abbrev pub packed : Answer → ℕ
packed (Ok n) = Word.packed (Ok n)
packed (Err (Lower r)) = Word.packed (Err r)
packed (Err TooManyLines) = Word.word 21 0 0 0

-- as C gets it
abbrev pub told : Outcome Answer → Outcome ℕ
told o = said (packed o.answer) o.memory
