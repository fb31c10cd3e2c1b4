-- `label_lines::inner::place_at` meets its contract: what is written into the part that is lent stands at its place.
-- Assumes nothing.
use borrow.Author.Rules.{rules}
use native.Mathlib.Omega.{arith}
use Rattle.label.proofs.Puts.{put-part}
use Rattle.label_lines.proofs.inner.place_at.Statement.{statement}
use Rattle.label_lines.proofs.inner.place_at.Tie as tie

returns : tie.Need-returns
returns c =
    let lent = c.put_place in
    put-part _ _ lent.new.out _ _ (omega arith) lent.ensures

pub place_at_spec : {M : Type 1} → statement M
place_at_spec =
    tie.close
    (tie.spec (search rules) (search rules) (search rules) (search rules) (search rules)
    (search rules) returns)
