-- `csv_read::forms::is_outward` meets its contract. Assumes nothing.
use borrow.Author.Rules.{rules}
use mathlib.Core.Path.{ap}
use mathlib.Core.Bool.{not, ◌&&◌}
use mathlib.Core.List.{List}
use Prim.Native.Nat.{ℕ}
use lib.Dec.{eqb}
use Rattle.field.specs.Text.{from_end}
use Rattle.field_outward.specs.Outward.{outward_fault}
use Rattle.csv_read.proofs.FormLaws.{code_is}
use Rattle.csv_read.proofs.forms.is_outward.Statement.{statement}
use Rattle.csv_read.proofs.forms.is_outward.Tie as tie

returns : tie.Need-returns
returns c =
    let fourth = c in
    let third = fourth in
    let start = third in
    let o = start.args.o.now in
    rw c.outward_fault.ensures
    (ap (λ (code : List ℕ). not (eqb (from_end o 1) 32) && eqb (outward_fault code) 0)
    (code_is o _ _ start.requires third.byte_or_space.ensures fourth.byte_or_space-2.ensures))

pub is_outward_spec : {M : Type 1} → statement M
is_outward_spec =
    tie.close
    (tie.spec (search rules) (search rules) (search rules) (search rules) (search rules) (search rules) (search rules)
    (search rules) returns)
