-- `field_inward::is_inward` meets its contract. Assumes nothing.
use borrow.Author.Rules.{rules}
use mathlib.Core.Path.{◌≡◌, refl}
use mathlib.Core.Bool.{Bool, true, false, cond, ◌&&◌}
use borrow.Author.Tests.{ne_eqb}
use lib.Dec.{eqb}
use lib.ListN.{get_or}
use Rattle.field.specs.Digits.{digit}
use Rattle.field_outward.specs.Inward.{inward_letter, inward_fault}
use Rattle.field_outward.proofs.Codes.{inward-bytes}
use Rattle.field_inward.proofs.is_inward.Statement.{statement}
use Rattle.field_inward.proofs.is_inward.Tie as tie

returns : tie.Need-returns-then-code-ne3
unfolding inward_fault
returns c = simp (ne_eqb _ 3 c.if-code-ne3.true)

three : (t u v : Bool) → t && (u && v) ≡ eqb (cond t (cond u (cond v 0 3) 2) 1) 0
three true true true = refl
three true true false = refl
three true false v = refl
three false u v = refl

returns-2 : tie.Need-returns
returns-2 c =
    let l = c in
    let d = l in
    let e = d in
    let code = e.args.code.now in
    rw (
      c.is_inward_letter-2.ensures,
      l.is_inward_letter.ensures,
      d.is_digit.ensures,
      inward-bytes code e.if-code-ne3.false,
    )
    (three (digit (get_or code 0 0)) (inward_letter (get_or code 1 0)) (inward_letter (get_or code 2 0)))

pub is_inward_spec : {M : Type 1} → statement M
is_inward_spec =
    tie.close
    (tie.spec returns (search rules) (search rules) (search rules) (search rules) (search rules) (search rules)
    returns-2)
