-- `pack_sector::inner::sector_count` meets its contract: a count of the trailer is that of the points, which opening checked.
-- Assumes nothing.
use borrow.Author.Rules.{rules}
use Prim.Native.Nat.{ℕ}
use mathlib.Core.Path.{◌≡◌, sym, ap, ◌∙◌}
use mathlib.Core.Bool.{true}
use mathlib.Core.List.{List}
use native.Mathlib.Omega.{arith}
use lib.ListN.{get_or}
use Rattle.pack.specs.Names.{has_counts}
use Rattle.pack.specs.Opening.{edition, point_digits}
use Rattle.pack.specs.Sectors.{sector_counts}
use Rattle.pack.proofs.Widths.{point-more}
use Rattle.pack.proofs.Sectors.{digits-as, counts-at}
use Rattle.pack_points.proofs.PointLaws.{trailed}
use Rattle.pack_counts.proofs.Laws.{points-inside, read-is-counted}
use Rattle.pack_sector.proofs.inner.sector_count.Statement.{statement}
use Rattle.pack_sector.proofs.inner.sector_count.Tie as tie

-- what the edition says
module _ (c : tie.After-has_counts) where
  abbrev start : tie.Start
  start = c.before.before.before

  abbrev pack : List ℕ
  pack = start.args.pack.now

  asked : c.has_counts.result ≡ has_counts (edition pack)
  asked = c.has_counts.ensures ∙ ap has_counts c.layout_in-layout.ensures.edition

some : (c : tie.Then-has_counts) → has_counts (edition (pack c.before)) ≡ true
some c = sym (asked c.before) ∙ c.if-has_counts.true

count-said-requires : tie.Need-count_said-requires
count-said-requires c κs =
    let s = start c.before in
    (trailed (pack c.before) s.requires.0.sized _ c.layout_in-layout.ensures, (some c, s.requires.1))

returns : tie.Need-returns-then-has_counts
returns c =
    let at-edition = c in
    let s = start at-edition.before.before in
    c.count_said.ensures ∙ read-is-counted (pack at-edition.before.before) s.requires.0.counts (some c.before) s.args.digit s.requires.1

count-digits-requires : tie.Need-count_digits-counts-requires
count-digits-requires c κs =
    let at-edition = c in
    let s = start at-edition.before.before in
    let laid = at-edition.layout_in-layout.ensures in (
      omega (arith, laid.point, point-more (edition (pack at-edition.before.before))),
      points-inside (pack at-edition.before.before) s.requires.0.sized c.trailer_number-start.ensures.0 laid.point s.requires.0.counted,
    )

returns-2 : tie.Need-returns
returns-2 c =
    let counted = c in
    let read = counted in
    let at-edition = read in
    let s = start at-edition.before.before.before.before in
    let p = pack at-edition.before.before.before.before in
    ap (λ l. get_or l s.args.digit 0)
    (counted.count_digits-counts.ensures
    ∙ ap sector_counts
    (digits-as p at-edition.layout_in-layout.ensures.point s.requires.0.counted read.trailer_number-start.ensures.0))
    ∙ counts-at (point_digits p) s.args.digit s.requires.1

pub sector_count_spec : {M : Type 1} → statement M
sector_count_spec =
    tie.close
    (tie.spec
    (λ c κs. search rules)
    (λ c κs. search rules)
    count-said-requires
    returns
    (λ c κs. search rules)
    count-digits-requires
    (λ c. search rules)
    (λ c. search rules)
    returns-2)
