-- `unspace_file::unspace` meets its contract. Assumes nothing.
use Rattle.std.proofs.Common.{◌≡◌, true, arith}
use Rattle.std.proofs.lemmas.Bool.Decides.{nat_tests}
use Rattle.unspace_file.specs.Unspaced.{whole_records, unspaced, unspaced_count}
use Rattle.unspace_file.proofs.Laws.{counted-both, unspaced-both}
use Rattle.unspace_file.proofs.unspace.Goals as goal

pub returns-then-n-width-clause-count : goal.returns-then-n-width-clause-count
unfolding unspaced_count
returns-then-n-width-clause-count c = grind (arith, nat_tests)

pub returns-then-n-width-clause-content : goal.returns-then-n-width-clause-content
unfolding unspaced
returns-then-n-width-clause-content c = grind (arith, nat_tests)

pub returns-clause-count : goal.returns-clause-count
returns-clause-count c =
    let a = c.args in
    let whole : whole_records a.width a.identifier a.file.now ≡ true = grind (arith, nat_tests) in
    let head = c.rewrite-head in
    counted-both a.width a.identifier a.file.now c.requires.1 whole head.new.file head.ensures.content head.result
    c.rewrite-end.result head.ensures.count c.rewrite-end.ensures.count

pub returns-clause-content : goal.returns-clause-content
returns-clause-content c =
    let a = c.args in
    let whole : whole_records a.width a.identifier a.file.now ≡ true = grind (arith, nat_tests) in
    let head = c.rewrite-head in
    unspaced-both a.width a.identifier a.file.now c.requires.1 whole head.new.file head.ensures.content c.rewrite-end.new.file
    c.rewrite-end.ensures.content
