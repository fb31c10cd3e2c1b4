-- `field_read::padded_from` meets its contract: four, two and one of the bytes that are left are asked. Assumes nothing.
use Rattle.std.proofs.Common.{◌≡◌, ◌+◌, ◌-◌, sym, arith}
use Rattle.field_read.proofs.Padding.{one-blank, two-blank, padded-first, padded-half}
use Rattle.field_read.proofs.padded_from.Goals as goal

pub returns : goal.returns
returns c =
    let rec = c.args.rec.now in
    let end = c.args.end in
    let low = c.requires.0 in
    let whole : end - 4 + 4 ≡ end = omega arith in
    let four =
    padded-half rec end low 4 end c.four_blank.result c.less-four.result (padded-first rec end low c.requires.2)
    (sym (rw whole at c.four_blank.ensures)) c.less-four.ensures in
    let two =
    padded-half rec end low 2 c.less-four.result _ c.less-two.result four
    (two-blank rec c.less-four.result (omega (arith, four.room)) (omega (arith, four.before))) c.less-two.ensures in
    padded-half rec end low 1 c.less-two.result _ c.less.result two
    (one-blank rec c.less-two.result (omega (arith, two.room)) (omega (arith, two.before))) c.less.ensures
