-- `file_fault::fine::is_fine_organisation` meets its contract. Assumes nothing.
use borrow.Author.Rules.{rules}
use Prim.Native.Nat.{◌+◌}
use mathlib.Core.Path.{◌≡◌}
use mathlib.Core.Bool.{false≢true}
use native.Mathlib.Omega.{arith}
use Rattle.file_fault.proofs.fine.is_fine_organisation.Statement.{statement}
use Rattle.file_fault.proofs.fine.is_fine_organisation.Tie as tie

returns : tie.Need-returns-then-not-are_names
returns c = λ e. absurd (false≢true e)

returns-2 : tie.Need-returns-then-not-is_fine_name
returns-2 c = λ e. absurd (false≢true e)

returns-3 : tie.Need-returns
returns-3 c =
    let named = c in
    let name = named in
    let written = name in
    let texts = written in
    let a = texts.args in
    let end : a.name + 60 + 60 ≡ a.name + 120 = omega arith in
    λ e.
    let each = texts.are_names.ensures (written.if-not-are_names.false) in
    (name.is_fine_name.ensures (named.if-not-is_fine_name.false) each.0, rw end at (c.is_fine_department.ensures e) each.1)

pub is_fine_organisation_spec : {M : Type 1} → statement M
is_fine_organisation_spec =
    tie.close
    (tie.spec (search rules) returns (search rules) returns-2 (search rules) (search rules) returns-3)
