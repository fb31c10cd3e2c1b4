use mathlib.Core.Path.{sym}
use native.Mathlib.Omega.{arith}
use borrow.Author.Tests.{le-leb, lt-leb}
use Rattle.pack.specs.Points.{sector_answer}
use Rattle.pack_sector.proofs.inner.sector_of.Goals as goal

pub returns-then-digit-gt9 : goal.returns-then-digit-gt9
unfolding sector_answer
returns-then-digit-gt9 c = rw c.into.ensures (simp (lt-leb c.args.digit 9 (omega arith)))

pub returns : goal.returns
unfolding sector_answer
returns c = rw c.sector_count.ensures (sym (simp (le-leb c.args.digit 9 (omega arith))))
