-- `field_word::inner::turned` meets its contract. Assumes nothing.
use Rattle.std.proofs.Common.{arith, rules}
use Rattle.field_word.proofs.Laws.{turned-is}
use Rattle.field_word.proofs.inner.turned.Statement.{statement}
use Rattle.field_word.proofs.inner.turned.Tie as tie

returns : tie.Need-returns
returns c = λ s e p. turned-is s _ _ e p (omega arith)

pub turned_spec : {M : Type 1} → statement M
turned_spec =
    tie.close
    (tie.spec
    (search rules)
    (search rules)
    (search rules)
    (search rules)
    (search rules)
    (search rules)
    (search rules)
    (search rules)
    (search rules)
    (search rules)
    (search rules)
    (search rules)
    (search rules)
    (search rules)
    returns)
