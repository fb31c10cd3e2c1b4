use Rattle.std.proofs.Common.{refl, arith}
use Rattle.csv_read.specs.Cut.{field_end}
use Rattle.csv_read.proofs.Cut.{length-end}
use Rattle.csv_read.proofs.fields.field_end.Goals as goal

pub loop-i-init : goal.loop-i-init
unfolding field_end
loop-i-init c = refl

pub returns : goal.returns
unfolding field_end
returns c =
    let here = length-end c.args.csv.now c.args.at in
    let end = length-end c.args.csv.now c.loop-i.i in
    grind arith
