-- `file_compare::same_forty` meets its contract. Assumes nothing.
use borrow.Author.Rules.{rules}
use native.Mathlib.Omega.{arith}
use native.Mathlib.Nat.{zero-add}
use Rattle.file_compare.proofs.Laws.{FrontFrom, front-none, front-more}
use Rattle.file_compare.proofs.same_forty.Statement.{statement}
use Rattle.file_compare.proofs.same_forty.Tie as tie

returns : tie.Need-returns
returns c =
    let same-0 = c in
    let counted-8 = same-0 in
    let same-8 = counted-8 in
    let counted-16 = same-8 in
    let same-16 = counted-16 in
    let counted-24 = same-16 in
    let same-24 = counted-24 in
    let counted-32 = same-24 in
    let same-32 = counted-32 in
    let at-start = same-32 in
    let a = at-start.args.a.now in
    let b = at-start.args.b.now in
    let front-32 : FrontFrom a b 32 counted-32.eights-fifth.result =
    rw counted-32.eights-fifth.ensures.0
    (front-more a b 32 0 same-32.eight_same.result (omega arith)
    same-32.eight_same.ensures (front-none a b 40)) in
    let front-24 : FrontFrom a b 24 counted-24.eights-fourth.result =
    rw counted-24.eights-fourth.ensures.0
    (front-more a b 24 counted-32.eights-fifth.result same-24.eight_same-2.result (omega arith)
    same-24.eight_same-2.ensures front-32) in
    let front-16 : FrontFrom a b 16 counted-16.eights-third.result =
    rw counted-16.eights-third.ensures.0
    (front-more a b 16 counted-24.eights-fourth.result same-16.eight_same-3.result (omega arith)
    same-16.eight_same-3.ensures front-24) in
    let front-8 : FrontFrom a b 8 counted-8.eights-second.result =
    rw counted-8.eights-second.ensures.0
    (front-more a b 8 counted-16.eights-third.result same-8.eight_same-4.result (omega arith)
    same-8.eight_same-4.ensures front-16) in
    let front-0 : FrontFrom a b 0 c.eights.result =
    rw c.eights.ensures.0
    (front-more a b 0 counted-8.eights-second.result same-0.eight_same-5.result (omega arith)
    same-0.eight_same-5.ensures front-8) in
    record {
      in_a = omega (arith, front-0.at_most, at-start.requires.0);
      in_b = omega (arith, front-0.at_most, at-start.requires.1);
      decided = rw (zero-add c.eights.result) at front-0.decided;
    }

pub same_forty_spec : {M : Type 1} → statement M
same_forty_spec =
    tie.close
    (tie.spec (λ c κs. search rules) (λ c κs. search rules) (λ c κs. search rules) (λ c κs. search rules)
    (λ c κs. search rules) (λ c κs. search rules) (λ c κs. search rules) (λ c κs. search rules)
    (λ c κs. search rules) (λ c κs. search rules) returns)
