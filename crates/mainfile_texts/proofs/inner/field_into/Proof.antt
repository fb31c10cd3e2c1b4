-- `mainfile_texts::inner::field_into` meets its contract. Assumes nothing.
use borrow.Author.Rules.{rules}
use Prim.Native.Nat.{◌+◌}
use mathlib.Core.Path.{sym, ◌∙◌}
use native.Mathlib.Omega.{arith}
use Rattle.field.proofs.Fronts.{text_in-bound}
use Rattle.mainfile_texts.proofs.Kept.{kept-as}
use Rattle.mainfile_texts.proofs.inner.field_into.Statement.{statement}
use Rattle.mainfile_texts.proofs.inner.field_into.Tie as tie

text-into-requires : tie.Need-text_into-requires
text-into-requires c κs =
    let start = c in
    let a = start.args in
    let short = text_in-bound a.file.now a.from (a.from + a.width) in
    rw c.read_text.ensures (omega (arith, start.requires.0), omega (arith, start.requires.1))

returns : tie.Need-returns-then-there
returns c =
    let start = c in
    let a = start.args in
    let short = text_in-bound a.file.now a.from (a.from + a.width) in
    let read = c in
    kept-as a.width c.text_into.ensures (rw read.if-there.true read.read_text.ensures)
    (rw read.read_text.ensures (omega arith))

returns-2 : tie.Need-returns-else-there
returns-2 c =
    let start = c in
    kept-as start.args.width c.text_into-else-there.ensures (rw c.if-there.false) (omega arith)

pub field_into_spec : {M : Type 1} → statement M
field_into_spec = tie.close (tie.spec (λ c. search rules) (λ c κs. search rules) text-into-requires (λ c. search rules) (λ c κs. search rules) (λ c. search rules) returns (λ c. search rules) returns-2)
