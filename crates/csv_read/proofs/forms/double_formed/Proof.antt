-- `csv_read::forms::double_formed` meets its contract. Assumes nothing.
use borrow.Author.Rules.{rules}
use Prim.Native.Nat.{ℕ}
use mathlib.Core.Path.{sym, ap, ◌∙◌}
use lib.Dec.{eqb}
use Rattle.csv_read.proofs.FormLaws.{double-alone, double-beside}
use Rattle.csv_read.proofs.forms.double_formed.Statement.{statement}
use Rattle.csv_read.proofs.forms.double_formed.Tie as tie

returns : tie.Need-returns-then-alone
returns c dependent e =
    c.all_are.ensures ∙ double-alone dependent c.args.f.now (sym c.if-alone.true ∙ e)

returns-2 : tie.Need-returns-else-alone
returns-2 c dependent e =
    ap (λ (n : ℕ). eqb n 0) c.text_fault.ensures
    ∙ double-beside dependent c.args.f.now (sym c.if-alone.false ∙ e)

pub double_formed_spec : {M : Type 1} → statement M
double_formed_spec = tie.close (tie.spec (search rules) (search rules) returns returns-2)
