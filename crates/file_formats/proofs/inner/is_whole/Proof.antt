-- `file_formats::inner::is_whole` meets its contract. Assumes nothing.
use borrow.Author.Rules.{rules}
use native.Mathlib.Omega.{arith}
use native.Mathlib.Nat.{div-mul-le_self}
use lib.ListN.{length}
use Rattle.file.proofs.Laws.{width_some}
use Rattle.file_formats.proofs.inner.is_whole.Statement.{statement}
use Rattle.file_formats.proofs.inner.is_whole.Tie as tie

div-n : tie.Need-nonzero_div-n
div-n c = rw c.numbers_of-format.ensures.1.0 (width_some c.args.kind)

mul-result : tie.Need-overflow_mul-result
mul-result c =
    let file = c.args.file.now in
    record { fits = omega (arith, div-mul-le_self (length file) c.numbers_of-format.result.width) }

returns : tie.Need-returns
returns c = rw (c.numbers_of-format.ensures.1.0, c.numbers_of-format.ensures.1.1)

pub is_whole_spec : {M : Type 1} → statement M
is_whole_spec = tie.close (tie.spec (λ c κs. search rules) div-n mul-result returns)
