-- `mainfile_texts::inner::text_into` meets its contract. Assumes nothing.
use borrow.Author.Rules.{rules}
use mathlib.Core.Path.{refl}
use lib.ListN.{length}
use Rattle.mainfile_texts.proofs.Kept.{put-kept}
use Rattle.mainfile_texts.proofs.inner.text_into.Statement.{statement}
use Rattle.mainfile_texts.proofs.inner.text_into.Tie as tie

returns : tie.Need-returns
returns c =
    let start = c in
    put-kept (length start.args.text.now) c.bytes_at.ensures start.requires.1 refl

pub text_into_spec : {M : Type 1} → statement M
text_into_spec = tie.close (tie.spec (λ c κs. search rules) (λ c. search rules) (λ c. search rules) returns)
