-- Assumes nothing.
use Rattle.std.proofs.Common.{◌+◌, ◌*◌, not, ap, arith}
use Rattle.pack.specs.Names.{offsets_at}
use Rattle.pack_points.proofs.FieldLaws.{absent-back}
use Rattle.pack_points.proofs.points.is_given.Goals as goal

pub returns : goal.returns
returns c =
    let a = c.args in
    ap not (absent-back a.pack.now (a.rest + offsets_at + 4 * a.n) (omega arith) (λ i. omega (arith, c.type_inv.pack i)))
