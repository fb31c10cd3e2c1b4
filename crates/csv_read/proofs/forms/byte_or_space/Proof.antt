-- `csv_read::forms::byte_or_space` meets its contract. Assumes nothing.
use borrow.Author.Rules.{rules}
use mathlib.Core.Path.{sym}
use Rattle.csv_read.proofs.FormLaws.{get_d-there, get_d-none}
use Rattle.csv_read.proofs.forms.byte_or_space.Statement.{statement}
use Rattle.csv_read.proofs.forms.byte_or_space.Tie as tie

returns : tie.Need-returns-then-i-o
returns c =
    let a = c.args in
    get_d-there a.o.now a.i 0 32 c.if-i-o.true

returns-2 : tie.Need-returns-else-i-o
returns-2 c =
    let a = c.args in
    sym (get_d-none a.o.now a.i 32 c.if-i-o.false)

pub byte_or_space_spec : {M : Type 1} → statement M
byte_or_space_spec = tie.close (tie.spec (search rules) returns returns-2)
