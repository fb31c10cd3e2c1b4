use Rattle.field.specs.Text.{text_in}
use Rattle.label.proofs.Puts.{put_then, put_as}
use Rattle.build_bytes.proofs.Texts.{texts-last}
use Rattle.build_bytes.proofs.fields.two_texts_at.Goals as goal

pub returns : goal.returns
returns c =
    let a = c.args in
    put_then c.text_at-i.ensures (put_as (texts-last (text_in a.rec.now a.middle a.end)) c.text_at.ensures) c.requires.1
