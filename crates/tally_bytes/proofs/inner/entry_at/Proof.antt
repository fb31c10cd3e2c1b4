-- `tally_bytes::inner::entry_at` meets its contract. Assumes nothing.
use borrow.Author.Rules.{rules}
use Rattle.label.proofs.Puts.{put_then}
use Rattle.tally_bytes.proofs.inner.entry_at.Statement.{statement}
use Rattle.tally_bytes.proofs.inner.entry_at.Tie as tie

returns : tie.Need-returns
returns c =
    let behind-count = c in
    let behind-code = behind-count in
    let s = behind-code in
    put_then behind-code.word_at-end.ensures behind-count.word_at.ensures s.requires

pub entry_at_spec : {M : Type 1} → statement M
entry_at_spec = tie.close (tie.spec (search rules) (search rules) (search rules) returns)
