-- `field_inward::is_suffix` meets its contract. Assumes nothing.
use borrow.Author.Rules.{rules}
use mathlib.Core.Path.{◌≡◌, refl}
use mathlib.Core.Bool.{Bool, true, false, cond, ◌&&◌}
use borrow.Author.Tests.{ne_eqb}
use lib.Dec.{eqb}
use lib.ListN.{get_or}
use Rattle.field.specs.Digits.{digit}
use Rattle.field.specs.Text.{letter}
use Rattle.field_outward.specs.Inward.{suffix_fault}
use Rattle.field_outward.proofs.Codes.{suffix-bytes}
use Rattle.field_inward.proofs.is_suffix.Statement.{statement}
use Rattle.field_inward.proofs.is_suffix.Tie as tie

returns : tie.Need-returns-then-suffix-ne2
unfolding suffix_fault
returns c = simp (ne_eqb _ 2 c.if-suffix-ne2.true)

two : (t u : Bool) → t && u ≡ eqb (cond t (cond u 0 2) 1) 0
two true true = refl
two true false = refl
two false u = refl

returns-2 : tie.Need-returns
returns-2 c =
    let d = c in
    let e = d in
    let code = e.args.suffix.now in
    rw (c.is_letter.ensures, d.is_digit.ensures, suffix-bytes code e.if-suffix-ne2.false)
    (two (digit (get_or code 0 0)) (letter (get_or code 1 0)))

pub is_suffix_spec : {M : Type 1} → statement M
is_suffix_spec = tie.close (tie.spec returns (search rules) (search rules) (search rules) (search rules) returns-2)
