use Rattle.std.proofs.Common.{arith}
use Rattle.field.specs.Text.{part}
use Rattle.mainfile_formats.proofs.Sequence.{joined-above, alike}
use Rattle.mainfile_formats.proofs.rising.is_higher_address.Goals as goal

pub returns : goal.returns
returns c =
    let rec = c.args.rec.now in
    let before = c.args.before.now in
    rw (
      c.is_gt.ensures,
      c.then.ensures,
      c.order_of-front.ensures,
      c.order_of-key.ensures,
      c.part_of.ensures,
      c.part_of-2.ensures,
      c.part_of-3.ensures,
      c.part_of-4.ensures,
    )
    (joined-above (part rec 0 15) (part before 0 15) (part rec 69 77) (part before 69 77)
    (alike rec before 0 15 (omega arith) (omega arith) (omega arith)))
