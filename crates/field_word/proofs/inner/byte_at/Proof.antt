-- `field_word::inner::byte_at` meets its contract. Assumes nothing.
use Rattle.std.proofs.Common.{refl, arith, rules}
use Rattle.field_word.proofs.inner.byte_at.Statement.{statement}
use Rattle.field_word.proofs.inner.byte_at.Tie as tie

cast-result : tie.Need-overflow_cast-result
cast-result c = omega (arith, c.shared_slice_known-1.given c.args.i)

returns : tie.Need-returns
returns c = (refl, omega (arith, c.shared_slice_known-1.given c.args.i))

pub byte_at_spec : {M : Type 1} → statement M
byte_at_spec = tie.close (tie.spec (search rules) cast-result returns)
