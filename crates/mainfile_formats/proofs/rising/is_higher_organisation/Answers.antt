use Rattle.std.proofs.Common.{arith}
use Rattle.field.specs.Text.{part}
use Rattle.mainfile_formats.proofs.Sequence.{joined-above, alike}
use Rattle.mainfile_formats.proofs.rising.is_higher_organisation.Goals as goal

pub returns : goal.returns
returns c =
    let rec = c.args.rec.now in
    let before = c.args.before.now in
    rw (
      c.is_gt.ensures,
      c.then.ensures,
      c.order_of-kind.ensures,
      c.order_of-key.ensures,
      c.part_of.ensures,
      c.part_of-2.ensures,
      c.part_of-3.ensures,
      c.part_of-4.ensures,
    )
    (joined-above (part rec 8 9) (part before 8 9) (part rec 0 8) (part before 0 8)
    (alike rec before 8 9 (omega arith) (omega arith) (omega arith)))
