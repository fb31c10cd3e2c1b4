-- `file_fault::at::key_at` meets its contract. Assumes nothing.
use borrow.Author.Rules.{rules}
use native.Mathlib.Omega.{arith}
use Rattle.file_fault.specs.Fields.{key_fault}
use Rattle.file_fault.proofs.Laws.{in-record, digits-bound}
use Rattle.file_fault.proofs.at.key_at.Statement.{statement}
use Rattle.file_fault.proofs.at.key_at.Tie as tie

placed-requires : tie.Need-placed-requires
placed-requires c κs = omega arith

placed-requires-2 : tie.Need-placed-requires-else-all_are
placed-requires-2 c κs =
    let p = c.before.before.before in
    let s = p.before.before in
    rw (c.digits_fault.ensures, p.part_of-key.ensures)
    (in-record s.args.rec.now s.args.start s.args.end s.requires.0 s.requires.1 _ (digits-bound _))

returns : tie.Need-returns-then-all_are
unfolding key_fault
returns c =
    let t = c in
    let p = t in
    rw c.placed.ensures (simp (rw (t.all_are.ensures, p.part_of-key.ensures) at t.if-all_are.true))

returns-2 : tie.Need-returns-else-all_are
unfolding key_fault
returns-2 c =
    let f = c in
    let t = f in
    let p = t in
    rw (c.placed-else-all_are.ensures, f.digits_fault.ensures, p.part_of-key.ensures)
    (simp (rw (t.all_are.ensures, p.part_of-key.ensures) at t.if-all_are.false))

pub key_at_spec : {M : Type 1} → statement M
key_at_spec =
    tie.close
    (tie.spec
    (λ c κs. search rules)
    (λ c κs. search rules)
    placed-requires
    (λ c κs. search rules)
    placed-requires-2
    returns
    returns-2)
