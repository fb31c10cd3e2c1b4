-- `pack_suffix::inner::suffix_at` meets its contract. Assumes nothing.
use borrow.Author.Rules.{rules}
use mathlib.Core.Path.{◌≡◌, sym, ap, ◌∙◌}
use mathlib.Core.Bool.{true, ◌&&◌}
use borrow.Author.Tests.{leb-true}
use lib.Dec.{leb}
use Rattle.field.proofs.Tests.{and_left, and_right}
use Rattle.pack.specs.Names.{has_suffix}
use Rattle.pack.specs.Opening.{edition, point_count}
use Rattle.pack.specs.Points.{is_point}
use Rattle.pack.proofs.Suffixes.{no-point, no_suffix, its-suffix}
use Rattle.pack_suffix.proofs.inner.suffix_at.Statement.{statement}
use Rattle.pack_suffix.proofs.inner.suffix_at.Tie as tie
use Rattle.std.specs.Prelude.{Ok}

-- whether the point is there, as the code asks and as is meant
module _ (s : tie.Start) where
  tested : (leb 1 s.args.k && leb s.args.k s.args.count) ≡ is_point s.args.pack.now s.args.k
  tested = ap (λ n. leb 1 s.args.k && leb s.args.k n) s.requires.1

-- and it is, where the first branch is left
module _ (c : tie.Else-not-there) where
  abbrev start : tie.Start
  start = c.before.before

  there : is_point start.args.pack.now start.args.k ≡ true
  there = sym (tested start) ∙ c.if-not-there.false

-- what the edition says
module _ (c : tie.After-has_suffix) where
  asked : c.has_suffix.result ≡ has_suffix (edition (start c.before.before).args.pack.now)
  asked = c.has_suffix.ensures ∙ ap has_suffix c.layout_in.ensures.edition

returns : tie.Need-returns-then-not-there
returns c =
    let s = c in
    c.refused.ensures
    ∙ sym (no-point s.args.pack.now s.args.k (sym (tested s.before.before.before) ∙ c.if-not-there.true))

returns-2 : tie.Need-returns-then-not-has_suffix
returns-2 c =
    let at-edition = c in
    let at-point = at-edition in
    let s = start at-point.before.before.before.before in
    c.refused-then-not-has_suffix.ensures
    ∙ sym
    (no_suffix s.args.pack.now s.args.k (there at-point.before.before.before.before)
    (sym (asked at-edition.before.before) ∙ c.if-not-has_suffix.true))

suffix-number-requires : tie.Need-suffix_number-requires
suffix-number-requires c κs =
    let at-point = c in
    let s = start at-point.before.before.before in
    let k = s.args.k in (
      s.requires.0,
      (
        leb-true 1 k (and_left (leb 1 k) _ (there at-point.before.before.before)),
        leb-true k (point_count s.args.pack.now) (and_right (leb 1 k) _ (there at-point.before.before.before)),
      ),
    )

returns-3 : tie.Need-returns
returns-3 c =
    let at-edition = c in
    let at-point = at-edition in
    let s = start at-point.before.before.before.before in
    ap Ok c.suffix_number.ensures
    ∙ sym
    (its-suffix s.args.pack.now s.args.k (there at-point.before.before.before.before)
    (sym (asked at-edition.before.before) ∙ c.if-not-has_suffix.false))

pub suffix_at_spec : {M : Type 1} → statement M
suffix_at_spec =
    tie.close
    (tie.spec
    (λ c κs. search rules)
    returns
    (λ c κs. search rules)
    (λ c κs. search rules)
    (λ c κs. search rules)
    returns-2
    suffix-number-requires
    returns-3)
