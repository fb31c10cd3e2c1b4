-- `csv_spans::fields::inward_span` meets its contract. Assumes nothing.
use borrow.Author.Rules.{rules}
use Prim.Native.Nat.{◌+◌, ◌-◌}
use mathlib.Core.Path.{◌≡◌, ap}
use native.Mathlib.Omega.{arith}
use Rattle.field.specs.Text.{part}
use Rattle.csv_spans.proofs.fields.inward_span.Statement.{statement}
use Rattle.csv_spans.proofs.fields.inward_span.Tie as tie

returns : tie.Need-returns
returns c = λ a b. ap (part a (c.args.end - 3)) (let q : c.args.end - 3 + 3 ≡ c.args.end = omega (arith, c.requires) in q)

pub inward_span_spec : {M : Type 1} → statement M
inward_span_spec = tie.close (tie.spec (search rules) returns)
