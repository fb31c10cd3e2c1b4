-- `file_compare::above::is_above_24` meets its contract. Assumes nothing.
use borrow.Author.Rules.{rules}
use Rattle.file_compare.proofs.Laws.{FrontFrom, front-none, front-more}
use native.Mathlib.Nat.{zero-add}
use native.Mathlib.Omega.{arith}
use Rattle.file_compare.proofs.above.is_above_24.Statement.{statement}
use Rattle.file_compare.proofs.above.is_above_24.Tie as tie

is-above-behind-requires : tie.Need-is_above_behind-requires
is-above-behind-requires c κs =
    let one = c.before in
    let two = one.before in
    let other = two.before in
    let start = other.before.before.before in
    let a = start.args.a.now in
    let b = start.args.b.now in
    let second : FrontFrom a b 8 two.eights-second.result =
    rw two.eights-second.ensures.0 (front-more a b 8 0 other.eight_same.result (omega arith) other.eight_same.ensures (front-none a b 16)) in
    let first : FrontFrom a b 0 c.eights-first.result =
    rw c.eights-first.ensures.0 (front-more a b 0 two.eights-second.result one.eight_same-2.result (omega arith) one.eight_same-2.ensures second) in
    record {
      in_a = omega (arith, two.eights-second.ensures.1, c.eights-first.ensures.1, start.requires.0);
      in_b = omega (arith, two.eights-second.ensures.1, c.eights-first.ensures.1, start.requires.1);
      decided = rw (zero-add c.eights-first.result) at first.decided;
    }

returns : tie.Need-returns
returns c = c.is_above_behind.ensures

pub is_above_24_spec : {M : Type 1} → statement M
is_above_24_spec =
    tie.close
    (tie.spec
    (search rules)
    (search rules)
    (search rules)
    (search rules)
    is-above-behind-requires
    returns)
