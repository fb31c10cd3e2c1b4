-- `label_premises::inner::shape_by` meets its contract: the tests on the way to a row are those of the definition.
-- Assumes nothing.
use borrow.Author.Rules.{rules}
use mathlib.Core.Path.{◌≡◌, sym, ◌∙◌}
use mathlib.Core.Bool.{Bool, true, false, cond, ◌&&◌}
use Rattle.label.specs.declared.shape.Shape.TheVariants.{NameLine, NameFront, SubLine, SubFront, BothLine, BothFront, SubLineNameFront, TwoLines}
use Rattle.label.specs.Rows.{shape_of}
use Rattle.label.proofs.Texts.{empty-true, empty-false}
use Rattle.label_premises.proofs.inner.shape_by.Statement.{statement}
use Rattle.label_premises.proofs.inner.shape_by.Tie as tie

-- neither text
returns : tie.Need-returns-then-b-eq0
unfolding shape_of
returns c =
    let g = c.args in
    simp (empty-true g.s.now c.if-s-eq0.true, empty-true g.b.now c.if-b-eq0.true)

-- a building name alone
name-only : (c : tie.Else-b-eq0) (t : Bool) → let g = c.args in
    (c.is_numeric_like.result && g.z) ≡ t
    → cond t NameFront NameLine ≡ shape_of g.s.now g.b.now g.z g.y
unfolding shape_of
name-only c t e =
    let g = c.args in
    simp (
      empty-true g.s.now c.if-s-eq0.true,
      empty-false g.b.now c.if-b-eq0.false,
      rw c.is_numeric_like.ensures at e,
    )

returns-2 : tie.Need-returns-then-name
returns-2 c = name-only c.before true c.if-name.true

returns-3 : tie.Need-returns-then-s-eq0
returns-3 c = name-only c.before false c.if-name.false

-- a sub building alone
sub-only : (c : tie.Then-b-eq0-2) (t : Bool) → let g = c.args in
    g.y ≡ t → cond t SubFront SubLine ≡ shape_of g.s.now g.b.now g.z g.y
unfolding shape_of
sub-only c t e =
    let g = c.args in
    simp (empty-false g.s.now c.if-s-eq0.false, empty-true g.b.now c.if-b-eq0-2.true, e)

returns-4 : tie.Need-returns-then-y
returns-4 c = sub-only c.before true c.if-y.true

returns-5 : tie.Need-returns-then-b-eq0-2
returns-5 c = sub-only c.before false c.if-y.false

-- both
both : (c : tie.After-is_numeric_like-2) (t u : Bool) → let name = c in
    let g = name.args in
    c.is_numeric_like-2.result ≡ t → (name.is_numeric_like.result && g.z) ≡ u
    → cond t (cond u BothFront BothLine) (cond u SubLineNameFront TwoLines)
    ≡ shape_of g.s.now g.b.now g.z g.y
unfolding shape_of
both c t u p q =
    let name = c in
    let g = name.args in
    simp (
      empty-false g.s.now c.if-s-eq0.false,
      empty-false g.b.now c.if-b-eq0-2.false,
      sym c.is_numeric_like-2.ensures ∙ p,
      rw name.is_numeric_like.ensures at q,
    )

returns-6 : tie.Need-returns-then-name-2
returns-6 c = both c.before.before true true c.if-is_numeric_like.true c.if-name-2.true

returns-7 : tie.Need-returns-then-is_numeric_like
returns-7 c = both c.before.before true false c.if-is_numeric_like.true c.if-name-2.false

returns-8 : tie.Need-returns-then-name-3
returns-8 c = both c.before.before false true c.if-is_numeric_like.false c.if-name-3.true

returns-9 : tie.Need-returns-else-name-3
returns-9 c = both c.before.before false false c.if-is_numeric_like.false c.if-name-3.false

pub shape_by_spec : {M : Type 1} → statement M
shape_by_spec =
    tie.close
    (tie.spec (search rules) returns returns-2 returns-3 returns-4 returns-5 (search rules) returns-6 returns-7
    returns-8 returns-9)
