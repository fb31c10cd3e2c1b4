-- `pack_label::inner::label_at` meets its contract. Assumes nothing.
use borrow.Author.Rules.{rules}
use mathlib.Core.Path.{sym, ap, ◌∙◌}
use mathlib.Core.Bool.{◌&&◌}
use borrow.Author.Tests.{leb-true}
use lib.Dec.{leb}
use Rattle.field.proofs.Tests.{and_left, and_right}
use Rattle.pack.specs.Opening.{point_count}
use Rattle.pack_label.proofs.Laws.{no-point, a_point}
use Rattle.pack_label.proofs.inner.label_at.Statement.{statement}
use Rattle.pack_label.proofs.inner.label_at.Tie as tie

returns : tie.Need-returns-then-not-there
returns c =
    let s = c in
    let a = s.args in
    let tested = ap (λ n. leb 1 a.k && leb a.k n) s.requires.1 in
    rw c.into.ensures (sym (no-point a.pack.now a.k a.out.now (sym tested ∙ c.if-not-there.true)))

point-label-requires : tie.Need-point_label-requires
point-label-requires c κs =
    let e = c in
    let s = e in
    let a = s.args in
    let tested = ap (λ n. leb 1 a.k && leb a.k n) s.requires.1 in
    let there = sym tested ∙ e.if-not-there.false in (
      s.requires.0,
      (
        leb-true 1 a.k (and_left (leb 1 a.k) _ there),
        leb-true a.k (point_count a.pack.now) (and_right (leb 1 a.k) _ there),
      ),
    )

returns-2 : tie.Need-returns
returns-2 c =
    let l = c in
    let e = l in
    let s = e in
    let a = s.args in
    let tested = ap (λ n. leb 1 a.k && leb a.k n) s.requires.1 in
    let there = sym tested ∙ e.if-not-there.false in
    l.point_label.ensures ∙ sym (a_point a.pack.now a.k a.out.now there)

pub label_at_spec : {M : Type 1} → statement M
label_at_spec = tie.close (tie.spec (search rules) returns point-label-requires (λ c. search rules) returns-2)
