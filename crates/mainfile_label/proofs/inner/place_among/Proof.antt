-- `mainfile_label::inner::place_among` meets its contract. Assumes nothing.
use borrow.Author.Rules.{rules}
use mathlib.Core.Path.{refl}
use Rattle.mainfile_label.proofs.Laws.{among-some, among_none}
use Rattle.mainfile_label.proofs.inner.place_among.Statement.{statement}
use Rattle.mainfile_label.proofs.inner.place_among.Tie as tie

returns : tie.Need-returns-then-k-eq0
returns c = rw c.if-k-eq0.true refl

returns-2 : tie.Need-returns-then-before-s
returns-2 c =
    let inside = c in
    let there = inside in
    let a = there.args in
    among-some a.s.first a.s.many a.k there.if-k-eq0.false inside.if-before-s.true

returns-3 : tie.Need-returns-else-before-s
returns-3 c =
    let there = c in
    let a = there.args in
    among_none a.s.first a.s.many a.k there.if-k-eq0.false c.if-before-s.false

pub place_among_spec : {M : Type 1} → statement M
place_among_spec = tie.close (tie.spec returns (search rules) (search rules) returns-2 returns-3)
