-- `csv_spans::fields::outward_span` meets its contract. Assumes nothing.
use borrow.Author.Rules.{rules}
use Prim.Native.Nat.{◌+◌, ◌-◌}
use mathlib.Core.Path.{◌≡◌, ap}
use native.Mathlib.Omega.{arith}
use Rattle.field.specs.Text.{part}
use Rattle.csv_spans.proofs.fields.outward_span.Statement.{statement}
use Rattle.csv_spans.proofs.fields.outward_span.Tie as tie

returns : tie.Need-returns
returns c =
    let a = c.args in
    λ s t. ap (part s a.at) (let q : a.at + (a.end - a.at - 4) ≡ a.end - 4 = omega (arith, c.requires) in q)

pub outward_span_spec : {M : Type 1} → statement M
outward_span_spec = tie.close (tie.spec (search rules) (search rules) (search rules) returns)
