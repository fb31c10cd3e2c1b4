-- `pack_open::all_points_good` meets its contract. Assumes nothing.
use borrow.Author.Rules.{rules}
use mathlib.Core.Path.{◌≡◌, sym, ◌∙◌}
use borrow.Author.Tests.{not-true, not-false, leb-true}
use Rattle.field.proofs.Tests.{and_left, and_right, and-true, and-false}
use Rattle.pack.specs.Opening.{row_count, all_points_good}
use Rattle.pack_points.specs.Ready.{all_points, offsets_fine}
use Rattle.pack_points.proofs.PointLaws.{all_split}
use Rattle.pack_open.proofs.Trailers.{fresh, told, covered}
use Rattle.pack_open.proofs.all_points_good.Statement.{statement}
use Rattle.pack_open.proofs.all_points_good.Tie as tie

-- the fields of all points were found good, so that their offsets decide
offsets-decide : (c : tie.Else-not-fields_good)
    → let pack = c.args.pack.now in
    all_points pack (offsets_fine pack) ≡ all_points_good pack
offsets-decide c =
    let f = c in
    let pack = f.args.pack.now in
    rw (all_split pack)
    (sym (simp (sym f.fields_good.ensures ∙ c.if-not-fields_good.false) (and-true (all_points pack (offsets_fine pack)))))

fields-good-requires : tie.Need-fields_good-requires
fields-good-requires c κs =
    let s = c.before.before.before in
    (s.requires.0, (s.requires.1.0, s.requires.1.1.area.area))

returns : tie.Need-returns-then-not-fields_good
returns c =
    let f = c in
    let pack = f.args.pack.now in
    rw (all_split pack)
    (sym (simp (sym f.fields_good.ensures ∙ c.if-not-fields_good.true) (and-false (all_points pack (offsets_fine pack)))))

offsets-marked-requires : tie.Need-offsets_marked-requires
offsets-marked-requires c κs =
    let i = c in
    let s = i in
    let a = s.args in
    let short = leb-true _ 524_288 (and_right a.fine _ i.if-fine-n.true) in
    (s.requires.0, (s.requires.1.0, covered a.pack.now a.rows.now a.fine a.kept.now s.requires.1.1 (and_left _ _ i.if-fine-n.true) short))

returns-2 : tie.Need-returns-then-fine-n
returns-2 c = c.offsets_marked.ensures ∙ offsets-decide c.before.before

keep-starts-requires : tie.Need-keep_starts-requires
keep-starts-requires c κs =
    let s = c.before.before.before.before.before.before.before in
    let a = s.args in
    fresh a.pack.now a.rows.now a.fine a.kept.now s.requires.1.1

offsets-told-requires : tie.Need-offsets_told-requires
offsets-told-requires c κs =
    let k = c in
    let s = k in
    let a = s.args in
    let pack = a.pack.now in
    (s.requires.0, (s.requires.1.0, told pack a.rows.now a.fine a.kept.now s.requires.1.1 _ k.keep_starts.auto.starts (k.keep_starts.ensures (row_count pack) s.requires.1.1.area.good)))

returns-3 : tie.Need-returns
returns-3 c =
    c.offsets_told.ensures ∙ offsets-decide c.before.before.before.before.before.before

pub all_points_good_spec : {M : Type 1} → statement M
all_points_good_spec =
    tie.close
    (tie.spec
    fields-good-requires
    returns
    (search rules)
    offsets-marked-requires
    (search rules)
    returns-2
    (search rules)
    keep-starts-requires
    offsets-told-requires
    (search rules)
    returns-3)
