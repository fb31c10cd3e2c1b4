use Rattle.std.proofs.lemmas.Cmp.{ranked, by_ranked}
use Rattle.file_compare.proofs.Words.{eight-below, eight-above, eight-even}
use Rattle.file_compare.proofs.eight_order.Goals as goal

pub returns : goal.returns
returns c =
    let a = c.args.a.now in
    let b = c.args.b.now in
    let i = c.args.i in
    let below = eight-below a b i c.requires.0 c.requires.1 _ _ c.weight_at.ensures c.weight_at-2.ensures in
    let above = eight-above a b i c.requires.0 c.requires.1 _ _ c.weight_at.ensures c.weight_at-2.ensures in
    let even = eight-even a b i c.requires.0 c.requires.1 _ _ c.weight_at.ensures c.weight_at-2.ensures in
    by_ranked _ _ _ c.cmp.result (ranked c.weight_at.result c.weight_at-2.result _ c.cmp.ensures)
    (λ e h. rw (e, below h))
    (λ e h. rw (e, even h))
    (λ e h. rw (e, above h))
