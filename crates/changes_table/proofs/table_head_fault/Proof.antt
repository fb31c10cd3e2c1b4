-- `changes_table::table_head_fault` meets its contract. Assumes nothing.
use borrow.Author.Rules.{rules}
use lib.Dec.{lit≤}
use Rattle.file_fault.proofs.Laws.{digits-join}
use Rattle.changes_table.proofs.table_head_fault.Statement.{statement}
use Rattle.changes_table.proofs.table_head_fault.Tie as tie

returns : tie.Need-returns
returns c =
    let behind-type-at = c in
    let behind-first-of3 = behind-type-at in
    let behind-key-at = behind-first-of3 in
    let behind-first-of2 = behind-key-at in
    let behind-digits-at = behind-first-of2 in
    let behind-first-of = behind-digits-at in
    let behind-letter-at = behind-first-of in
    let at-start = behind-letter-at in
    rw (c.first_of.ensures, behind-type-at.type_at.ensures, behind-first-of3.first_of-key.ensures, behind-key-at.key_at.ensures, behind-first-of2.first_of-when.ensures, behind-digits-at.digits_at.ensures, behind-first-of.first_of-letter.ensures, behind-letter-at.letter_at.ensures)
    (rw (digits-join at-start.args.rec.now 9 17 23 (lit≤ tt) (lit≤ tt)))

pub table_head_fault_spec : {M : Type 1} → statement M
table_head_fault_spec =
    tie.close
    (tie.spec
    (λ c κs. search rules)
    (λ c κs. search rules)
    (λ c κs. search rules)
    (λ c κs. search rules)
    (λ c κs. search rules)
    (λ c κs. search rules)
    (λ c κs. search rules)
    (λ c κs. search rules)
    returns)
