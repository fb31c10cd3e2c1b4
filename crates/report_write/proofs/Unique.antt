-- The contract of `write_report` allows one answer and one content of the lent buffer.
-- Assumes nothing.
use Prim.Native.Nat.{ℕ}
use mathlib.Core.Path.{◌≡◌, sym, ◌∙◌}
use mathlib.Core.List.{List}
use Rattle.label.specs.Put.{Wrote}
use Rattle.report.specs.Fed.{fitting}
use Rattle.report.specs.Report.{report_of}

-- what the contract allows
pub record Allowed (table points out : List ℕ) (r : ℕ) (exit : List ℕ) : Type 0 where
  pub wrote : Wrote (fitting (report_of table points) out) out r exit

pub one_answer : {table points out y z : List ℕ} {r s : ℕ} → Allowed table points out r y → Allowed table points out s z
    → (r ≡ s) × (y ≡ z)
one_answer p q = (p.wrote.size ∙ sym q.wrote.size, p.wrote.is ∙ sym q.wrote.is)
