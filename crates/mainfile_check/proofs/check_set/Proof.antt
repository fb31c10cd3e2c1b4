-- `mainfile_check::check_set` meets its contract. Assumes nothing.
use borrow.Author.Rules.{rules}
use Rattle.mainfile_check.proofs.Laws.{set-in-turn}
use Rattle.mainfile_check.proofs.check_set.Statement.{statement}
use Rattle.mainfile_check.proofs.check_set.Tie as tie

returns : tie.Need-returns
returns c =
    let sixth = c in
    let fifth = sixth in
    let fourth = fifth in
    let third = fourth in
    let second = third in
    let first = second in
    let a = first.args in
    rw (
      c.then_file.ensures,
      sixth.then_file-sixth.ensures,
      fifth.then_file-fifth.ensures,
      fourth.then_file-fourth.ensures,
      third.then_file-third.ensures,
      second.then_file-second.ensures,
      first.check_main-first.ensures,
    )
    (set-in-turn a.localities.now a.thoroughfares.now a.descriptors.now a.buildings.now a.subs.now
    a.organisations.now a.addresses.now)

pub check_set_spec : {M : Type 1} → statement M
check_set_spec =
    tie.close
    (tie.spec
    (search rules)
    (search rules)
    (search rules)
    (search rules)
    (search rules)
    (search rules)
    (search rules)
    returns)
