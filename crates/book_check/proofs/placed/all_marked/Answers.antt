use Rattle.std.proofs.Common.{rules, ◌∙◌, tests, arith, eqb, ℕ, ◌≡◌, ◌+◌, ◌-◌}
use mathlib.Core.Bool.{not}
use Rattle.std.proofs.lemmas.Iterator.{YieldsList-from_slice}
use Rattle.std.proofs.lemmas.Iterator.Search.{all_from_yields_List}
use Rattle.book_check.proofs.Loops.{all_part}
use Rattle.book_check.proofs.placed.all_marked.Goals as goal

pub returns : goal.returns
returns c =
    let marked = λ (m : ℕ). not (eqb m 0) in
    all_from_yields_List marked _ _ _ c.all.ensures.ran (YieldsList-from_slice _ c.iter.ensures.rest) (λ x b q k. search (rules, tests))
    ∙ rw (let z : c.args.count + 1 - 1 ≡ c.args.count = omega arith in z) (all_part marked c.args.marks.now c.args.count 1 (omega arith))
