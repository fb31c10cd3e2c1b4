-- `csv_read::forms::organisation_formed` meets its contract. Assumes nothing.
use borrow.Author.Rules.{rules}
use Prim.Native.Nat.{ℕ}
use mathlib.Core.Path.{sym, ap, ◌∙◌}
use lib.Dec.{eqb}
use Rattle.csv_read.proofs.FormLaws.{organisation-alone, organisation-small, organisation-other}
use Rattle.csv_read.proofs.forms.organisation_formed.Statement.{statement}
use Rattle.csv_read.proofs.forms.organisation_formed.Tie as tie

returns : tie.Need-returns-then-alone
returns c department type b s =
    ap (λ (n : ℕ). eqb n 0) c.text_fault.ensures
    ∙ organisation-alone department type c.args.f.now (sym c.if-alone.true ∙ b)

returns-2 : tie.Need-returns-then-small_ahead
returns-2 c department type b s =
    ap (λ (n : ℕ). eqb n 0) c.filled_fault.ensures
    ∙ organisation-small department type c.args.f.now
    (sym c.if-alone.false ∙ b) (s ∙ (sym c.small_ahead.ensures ∙ c.if-small_ahead.true))

returns-3 : tie.Need-returns
returns-3 c department type b s =
    ap (λ (n : ℕ). eqb n 0) c.text_fault-2.ensures
    ∙ organisation-other department type c.args.f.now
    (sym c.if-alone.false ∙ b) (s ∙ (sym c.small_ahead.ensures ∙ c.if-small_ahead.false))

pub organisation_formed_spec : {M : Type 1} → statement M
organisation_formed_spec =
    tie.close
    (tie.spec (search rules) returns (search rules) (search rules) returns-2 (search rules) returns-3)
