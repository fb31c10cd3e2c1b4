-- `label_length::inner::number_len` meets its contract: as many bytes as the number has digits.
-- Assumes nothing.
use mathlib.Core.Path.{ap}
use native.Mathlib.Omega.{arith}
use lib.ListN.{length}
use Rattle.label.proofs.Table.{number-0, number-1, number-2, number-3, number-4}
use Rattle.label_length.proofs.inner.number_len.Statement.{statement}
use Rattle.label_length.proofs.inner.number_len.Tie as tie

returns : tie.Need-returns-then-n-eq0
returns c = (ap length (number-0 c.args.n c.if-n-eq0.true), omega arith)

returns-2 : tie.Need-returns-then-n-lt10
returns-2 c =
    (ap length (number-1 c.args.n c.if-n-eq0.false c.if-n-lt10.true), omega arith)

returns-3 : tie.Need-returns-then-n-lt100
returns-3 c =
    let one = c in
    (ap length (number-2 one.args.n one.if-n-eq0.false c.if-n-lt10.false c.if-n-lt100.true), omega arith)

returns-4 : tie.Need-returns-then-n-lt1000
returns-4 c =
    let two = c in
    let one = two in
    let is = number-3 one.args.n one.if-n-eq0.false two.if-n-lt10.false c.if-n-lt100.false c.if-n-lt1000.true in
    (ap length is, omega arith)

returns-5 : tie.Need-returns-else-n-lt1000
returns-5 c =
    let two = c in
    let one = two in
    let is = number-4 one.args.n one.if-n-eq0.false two.if-n-lt10.false c.if-n-lt100.false c.if-n-lt1000.false in
    (ap length is, omega arith)

pub number_len_spec : {M : Type 1} → statement M
number_len_spec = tie.close (tie.spec returns returns-2 returns-3 returns-4 returns-5)
