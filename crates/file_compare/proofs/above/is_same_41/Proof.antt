-- `file_compare::above::is_same_41` meets its contract. Assumes nothing.
use borrow.Author.Rules.{rules}
use Rattle.file_compare.proofs.Words.{same-to-the-end}
use Rattle.field.proofs.Tests.{and_left, and_right}
use lib.ListN.{get_or}
use lib.Dec.{eqb}
use borrow.Author.Tests.{eqb-true}
use mathlib.Core.Bool.{◌&&◌}
use mathlib.Core.Path.{◌∙◌}
use Rattle.file_compare.proofs.above.is_same_41.Statement.{statement}
use Rattle.file_compare.proofs.above.is_same_41.Tie as tie

returns : tie.Need-returns
returns c =
    let fifth = c in
    let fourth = fifth in
    let third = fourth in
    let second = third in
    let first = second in
    let start = first in
    let a = start.args.a.now in
    let b = start.args.b.now in
    let front = first.eight_same.result && second.eight_same-2.result in
    let middle = third.eight_same-3.result && fourth.eight_same-4.result in
    let last = eqb (get_or a 40 0) (get_or b 40 0) in
    let back = fifth.eight_same-5.result && last in
    λ e.
    let f = and_left front (middle && back) e in
    let m = and_left middle back (and_right front (middle && back) e) in
    let l = and_right middle back (and_right front (middle && back) e) in
    same-to-the-end a b start.requires.0 start.requires.1
    (first.eight_same.ensures (and_left _ _ f)
    ∙ (second.eight_same-2.ensures (and_right first.eight_same.result _ f)
    ∙ (third.eight_same-3.ensures (and_left _ _ m)
    ∙ (fourth.eight_same-4.ensures (and_right third.eight_same-3.result _ m) ∙ fifth.eight_same-5.ensures (and_left _ _ l)))))
    (eqb-true _ _ (and_right fifth.eight_same-5.result last l))

pub is_same_41_spec : {M : Type 1} → statement M
is_same_41_spec =
    tie.close
    (tie.spec
    (search rules)
    (search rules)
    (search rules)
    (search rules)
    (search rules)
    (search rules)
    (search rules)
    returns)
