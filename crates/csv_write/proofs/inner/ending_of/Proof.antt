-- `csv_write::inner::ending_of` meets its contract. Assumes nothing.
use borrow.Author.Rules.{rules}
use mathlib.Core.Path.{refl}
use Rattle.csv_write.proofs.Written.{suffix-bytes}
use Rattle.csv_write.proofs.inner.ending_of.Statement.{statement}
use Rattle.csv_write.proofs.inner.ending_of.Tie as tie

returns : tie.Need-returns
returns c =
    let start = c in
    record {
      kind = refl;
      indicator = refl;
      suffix = suffix-bytes start.args.own.now start.args.p.suffix start.requires;
    }

pub ending_of_spec : {M : Type 1} → statement M
ending_of_spec = tie.close (tie.spec (search rules) (search rules) (search rules) returns)
