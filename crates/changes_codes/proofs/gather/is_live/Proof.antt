-- `changes_codes::gather::is_live` meets its contract. Assumes nothing.
use borrow.Author.Rules.{rules}
use mathlib.Core.Path.{sym, ap}
use mathlib.Core.Bool.{◌||◌}
use lib.Dec.{eqb}
use lib.ListN.{get_or}
use Rattle.field.proofs.Tests.{or-false}
use Rattle.changes_codes.proofs.gather.is_live.Statement.{statement}
use Rattle.changes_codes.proofs.gather.is_live.Tie as tie

returns : tie.Need-returns
returns c =
    let letter = get_or c.args.rec.now 40 0 in
    rw c.byte_of-letter.ensures (ap (eqb letter 73 ||◌) (sym (or-false (eqb letter 67))))

pub is_live_spec : {M : Type 1} → statement M
is_live_spec = tie.close (tie.spec (search rules) returns)
