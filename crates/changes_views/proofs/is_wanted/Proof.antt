-- `changes_views::is_wanted` meets its contract. Assumes nothing.
use borrow.Author.Rules.{rules}
use mathlib.Core.Path.{sym}
use borrow.Author.Tests.{eq-eqb, ne_eqb}
use Rattle.changes_views.proofs.Laws.{wanted-other, wanted-any, wanted-live}
use Rattle.changes_views.proofs.is_wanted.Statement.{statement}
use Rattle.changes_views.proofs.is_wanted.Tie as tie

returns : tie.Need-returns-then-byte_of-ne49
returns c =
    let s = c in
    sym
    (wanted-other s.args.code.now s.args.rec.now
    (ne_eqb _ 49 (rw c.byte_of.ensures at c.if-byte_of-ne49.true)))

returns-2 : tie.Need-returns-then-code-eq0
returns-2 c =
    let t = c in
    let s = t in
    sym
    (wanted-any s.args.code.now s.args.rec.now
    (eq-eqb _ 49 (rw t.byte_of.ensures at t.if-byte_of-ne49.false)) c.if-code-eq0.true)

returns-3 : tie.Need-returns
returns-3 c =
    let b = c in
    let u = b in
    let t = u in
    let s = t in
    rw (c.same_bytes-same.ensures, c.part_of-outward.ensures, b.byte_of-letter.ensures)
    (sym
    (wanted-live s.args.code.now s.args.rec.now
    (eq-eqb _ 49 (rw t.byte_of.ensures at t.if-byte_of-ne49.false)) u.if-code-eq0.false))

pub is_wanted_spec : {M : Type 1} → statement M
is_wanted_spec =
    tie.close (tie.spec (search rules) returns returns-2 (search rules) (search rules) (search rules) returns-3)
