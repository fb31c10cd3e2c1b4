use mathlib.Core.Path.{refl}
use mathlib.Core.List.{[], ◌∷◌}
use Rattle.label.specs.Label.{ended}
use Rattle.label.proofs.Walk.{Begun, begun, step, last}
use Rattle.van_fold.proofs.inner.row_at.Goals as goal

-- src/inner.rt:62:1
pub returns : goal.returns
returns c =
    let start : Begun (ended (c.args.row.now ∷ [])) (c.args.row.now ∷ (10 ∷ []) ∷ []) c.args.out.now c.args.at =
    begun (record { is = refl }) c.requires in
    last (step start c.bytes_at-i.ensures) c.byte_at.ensures
