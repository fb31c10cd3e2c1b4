-- `unspace_file::inner::rewrite` meets its contract. Assumes nothing.
use Rattle.std.proofs.Common.{◌≡◌, true, false, sym, ◌∙◌, arith, rules}
use Rattle.unspace_file.specs.Unspaced.{spaces_at}
use Rattle.unspace_file.proofs.Laws.{rewritten-spaces, rewritten-other, filled-part}
use Rattle.unspace_file.proofs.inner.rewrite.Goals as goal

pub returns-then-not-all_are-clause-content : goal.returns-then-not-all_are-clause-content
returns-then-not-all_are-clause-content c =
    let a = c.args in
    let other : spaces_at a.width a.at a.file.now ≡ false = search rules in
    sym (rewritten-other a.width a.at a.proper a.file.now other)

pub returns-clause-content : goal.returns-clause-content
returns-clause-content c =
    let a = c.args in
    let spaces : spaces_at a.width a.at a.file.now ≡ true = search rules in
    filled-part a.at a.proper a.file.now _ a.width c.fill.new.self c.requires (omega arith) (search rules)
    ∙ sym (rewritten-spaces a.width a.at a.proper a.file.now spaces)
