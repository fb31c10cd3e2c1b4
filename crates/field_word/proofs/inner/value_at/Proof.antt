-- `field_word::inner::value_at` meets its contract. Assumes nothing.
use Rattle.std.proofs.Common.{◌+◌, ◌≤◌, arith, rules}
use Rattle.field.specs.Text.{part}
use Rattle.field_word.proofs.Laws.{row, part-eight}
use Rattle.field_word.proofs.Digits.{eight-between, eight-value}
use Rattle.field_word.proofs.inner.value_at.Statement.{statement}
use Rattle.field_word.proofs.inner.value_at.Tie as tie

between : (c : tie.After-eight_at-digits) → (row 48 8 ≤ c.eight_at-digits.result) × (c.eight_at-digits.result ≤ row 57 8)
between c =
    let start = c in
    let s = start.args.s.now in
    let i = start.args.i in
    eight-between (part s i (i + 8)) _ (part-eight s i start.requires.0) start.requires.1 c.eight_at-digits.ensures

returns : tie.Need-returns
returns c =
    let start = c in
    let s = start.args.s.now in
    let i = start.args.i in
    eight-value (part s i (i + 8)) _ (part-eight s i start.requires.0) start.requires.1 c.eight_at-digits.ensures

pub value_at_spec : {M : Type 1} → statement M
value_at_spec =
    tie.close
    (tie.spec
    (search rules)
    (λ c. omega (arith, (between c).0))
    (λ c. omega (arith, (between c).0, (between c).1))
    (λ c. omega (arith, (between c).0, (between c).1))
    (search rules)
    (search rules)
    (search rules)
    (search rules)
    (search rules)
    (search rules)
    returns)
