-- `field_word::inner::others_in` meets its contract. Assumes nothing.
use Rattle.std.proofs.Common.{rules}
use Rattle.field_word.proofs.Told.{all_digits}
use Rattle.field_word.proofs.inner.others_in.Statement.{statement}
use Rattle.field_word.proofs.inner.others_in.Tie as tie

returns : tie.Need-returns
returns c =
    λ s n p e.
    all_digits s c.args.w n p (rw c.wrapping_add_usize-more.ensures at e)

pub others_in_spec : {M : Type 1} → statement M
others_in_spec = tie.close (tie.spec (search rules) returns)
