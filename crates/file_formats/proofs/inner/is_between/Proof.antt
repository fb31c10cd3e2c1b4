-- `file_formats::inner::is_between` meets its contract. Assumes nothing.
use borrow.Author.Rules.{rules}
use Prim.Native.Nat.{◌-◌}
use mathlib.Core.Path.{sym}
use Rattle.file.specs.Check.{at}
use Rattle.file.specs.Mainfile.{main_format}
use Rattle.file.proofs.Laws.{main-between}
use Rattle.file_formats.proofs.inner.is_between.Statement.{statement}
use Rattle.file_formats.proofs.inner.is_between.Tie as tie

is-placed-requires : tie.Need-is_placed-requires
is-placed-requires c κs = rw c.in-Points.is at c.requires

returns-2 : tie.Need-returns-in-Points
returns-2 c = rw c.in-Points.is c.is_placed.ensures

returns-3 : tie.Need-returns-in-Main
returns-3 c =
    let start = c in
    rw c.in-Main.is (sym (main-between c.in-Main.main (at (main_format c.in-Main.main) start.args.file.now (start.args.i - 1)) _ _))

pub is_between_spec : {M : Type 1} → statement M
is_between_spec = tie.close (tie.spec (search rules) (search rules) is-placed-requires (search rules) (λ c. search rules) returns-2 returns-3)
