use native.Mathlib.Omega.{arith}
use borrow.Author.Tests.{eq-eqb, ne_eqb}
use Rattle.changes_list.specs.Listing.{letter_at}
use Rattle.changes_list.proofs.letter_at.Goals as goal

pub returns-then-place-eq0 : goal.returns-then-place-eq0
unfolding letter_at
returns-then-place-eq0 c = rw c.into.ensures (simp (eq-eqb c.args.place 0 (omega arith)))

pub returns : goal.returns
unfolding letter_at
returns c =
    rw (c.byte_of-letter.ensures, c.point_record.ensures) (simp (ne_eqb c.args.place 0 (λ z. omega arith)))
