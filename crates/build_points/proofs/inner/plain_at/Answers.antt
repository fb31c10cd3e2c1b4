use Rattle.std.proofs.Common.{ℕ, [], ◌∷◌, ◌+◌, ap}
use Rattle.field.specs.Text.{part}
use Rattle.label.proofs.Puts.{put_as}
use Rattle.label.proofs.Going.{put_three}
use Rattle.pack.specs.Layout.{mark_of}
use Rattle.build_points.proofs.inner.plain_at.Goals as goal

pub returns : goal.returns
returns c =
    let a = c.args in
    let p = a.p in
    put_three (mark_of p.concatenation ∷ []) (part a.own.now p.po_box (p.po_box + 6)) c.requires.1 c.numbers_at-i.ensures
    (put_as (ap (λ (b : ℕ). b ∷ []) c.mark_of.ensures) c.byte_at-j.ensures) c.part_at.ensures
