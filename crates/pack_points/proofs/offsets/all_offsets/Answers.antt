-- Assumes nothing.
use Rattle.std.proofs.Common.{◌∙◌, sym, arith}
use Rattle.std.proofs.lemmas.Grind.{common_steps}
use Rattle.std.proofs.lemmas.Nat.{rows}
use Rattle.pack_points.specs.Ready.{offsets_fine}
use Rattle.pack_points.proofs.PointLaws.{each_step, each-stop}
use Rattle.pack_points.proofs.offsets.all_offsets.Goals as goal

pub returns-then-not-next_offsets : goal.returns-then-not-next_offsets
returns-then-not-next_offsets g c =
    sym
    (c.loop-i.invariant.0
    ∙ each-stop (offsets_fine c.args.pack.now) c.args.layout.point c.trailer_number-start.result c.trailer_number-count.result
    c.loop-i.i (omega arith)
    (sym (rw c.requires.laid.rest at c.next_offsets.ensures) ∙ c.if-not-next_offsets.true))

pub loop-i-preserved : goal.loop-i-preserved
loop-i-preserved g c = (
  c.loop-i.invariant.0
      ∙ each_step (offsets_fine c.args.pack.now) c.args.layout.point c.trailer_number-start.result
      c.trailer_number-count.result c.loop-i.i (omega arith)
      (sym (rw c.requires.laid.rest at c.next_offsets.ensures) ∙ c.if-not-next_offsets.false),
  (grind (arith, common_steps, rows), sym c.next_offsets.ensures ∙ c.if-not-next_offsets.false),
)
