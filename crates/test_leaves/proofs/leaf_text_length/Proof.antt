-- `test_leaves::leaf_text_length` meets its contract. Assumes nothing.
use borrow.Author.Rules.{rules}
use mathlib.Core.Path.{ap}
use lib.ListN.{length}
use Rattle.test_leaves.proofs.leaf_text_length.Statement.{statement}
use Rattle.test_leaves.proofs.leaf_text_length.Tie as tie

returns : tie.Need-returns
returns c = ap length c.read_text.ensures

pub leaf_text_length_spec : {M : Type 1} → statement M
leaf_text_length_spec = tie.close (tie.spec (λ c κs. search rules) returns)
