-- Labels asked in turn: "writes the labels one behind the other, equal to asking for each in turn".
-- Assumes nothing.
use Rattle.std.specs.Prelude.{ℕ, zero, suc, ◌+◌, List, ◌++◌, take, drop, Result, Ok, Err}
use Rattle.refusal.specs.declared.Refusal.{Refusal}
use Rattle.refusal.specs.Answer.{Answer}
use Rattle.refusal.specs.Outcome.{Outcome, said}
use Rattle.run.specs.declared.Run.{Run}
use Rattle.run.specs.declared.Run.TheVariants.{Stopped, Done}

-- how far a run came, or why no label was asked
abbrev pub Series : Type 0
Series = Result Run Refusal

-- asking for one label: its number and a buffer give what it comes to
abbrev pub Asking : Type 0
Asking = ℕ → List ℕ → Outcome Answer

-- one label, asked in what is left of a buffer behind so many bytes
abbrev pub asked_behind : (at : ℕ) → List ℕ → (List ℕ → Outcome Answer) → Outcome Answer
asked_behind at out ask = said (ask (drop at out)).answer (take at out ++ (ask (drop at out)).memory)

-- a run behind so many labels and bytes
abbrev pub behind : ℕ → ℕ → Series → Series
behind labels bytes (Err r) = Err r
behind labels bytes (Ok (Stopped l b why)) = Ok (Stopped (labels + l) (bytes + b) why)
behind labels bytes (Ok (Done l b)) = Ok (Done (labels + l) (bytes + b))

-- "It stops before the first label that is refused or doesn't fit in what is left"; the next is asked in what is left
abbrev pub go_on : Answer → (written : List ℕ) → (List ℕ → Outcome Series) → Outcome Series
go_on (Ok b) written next =
    said (behind 1 b (next (drop b written)).answer) (take b written ++ (next (drop b written)).memory)
go_on (Err r) written next = said (Ok (Stopped 0 0 r.reason)) written

-- "a first view number .. and a count": n labels from number k on
abbrev pub run_from : Asking → ℕ → ℕ → List ℕ → Outcome Series
run_from ask k zero out = said (Ok (Done 0 0)) out
run_from ask k (suc n) out = go_on (ask k out).answer (ask k out).memory (λ left. run_from ask (suc k) n left)
