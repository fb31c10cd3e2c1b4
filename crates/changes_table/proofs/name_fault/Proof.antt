-- `changes_table::name_fault` meets its contract. Assumes nothing.
use borrow.Author.Rules.{rules}
use Prim.Native.Nat.{◌+◌, ◌-◌}
use mathlib.Core.Path.{◌≡◌}
use native.Mathlib.Omega.{arith}
use Rattle.changes_table.proofs.name_fault.Statement.{statement}
use Rattle.changes_table.proofs.name_fault.Tie as tie

returns : tie.Need-returns
returns c =
    let f = c in
    let a = f.args in
    rw (c.first_of.ensures, f.filled_at.ensures, (let size : 24 + (a.end - 24) ≡ a.end = omega arith in size))

pub name_fault_spec : {M : Type 1} → statement M
name_fault_spec = tie.close (tie.spec (λ c κs. search rules) (λ c κs. search rules) returns)
