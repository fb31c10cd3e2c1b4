-- `mainfile_codes::walk::code_at` meets its contract. Assumes nothing.
use borrow.Author.Rules.{rules}
use mathlib.Core.Path.{ap, ◌∙◌}
use mathlib.Core.List.{List}
use Prim.Native.Nat.{ℕ}
use native.Mathlib.Omega.{arith}
use Rattle.file_record.proofs.Records.{record-length}
use Rattle.pack.specs.Numbers.{number_at}
use Rattle.mainfile_codes.proofs.walk.code_at.Statement.{statement}
use Rattle.mainfile_codes.proofs.walk.code_at.Tie as tie

number-within-requires : tie.Need-number_within-requires
number-within-requires c κs =
    let s = c.before.before in
    rw c.whole_record-rec.ensures
    (omega (arith, record-length 88 s.args.addresses.now s.args.i s.requires), omega arith)

returns : tie.Need-returns
returns c =
    c.number_within.ensures.0 ∙ ap (λ (rec : List ℕ). number_at rec 0 4) c.whole_record-rec.ensures

pub code_at_spec : {M : Type 1} → statement M
code_at_spec = tie.close (tie.spec (search rules) number-within-requires returns)
