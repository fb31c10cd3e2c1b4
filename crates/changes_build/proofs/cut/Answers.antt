use native.Mathlib.Omega.{arith}
use mathlib.Core.Path.{refl, sym, subst, ◌∙◌}
use Rattle.std.specs.Prelude.{Err}
use Rattle.refusal.specs.Verdict.{fine}
use Rattle.refusal.proofs.Passed.{said-passed}
use Rattle.shelf.specs.declared.Shelf.{Shelf}
use Rattle.shelf.specs.Search.{Filled}
use Rattle.changes_source.proofs.Table.{table_fits}
use Rattle.changes_whole.proofs.Rows.{fresh-long, fresh-marked}
use Rattle.changes_whole.proofs.Whole.{cut_as}
use Rattle.changes_build.proofs.Laws.{packable, marks-whole, marked-pair}
use Rattle.changes_build.proofs.cut.Goals as goal

pub fill_refs-requires : goal.fill_refs-requires
fill_refs-requires c =
    rw c.table_shelf.ensures (table_fits, fresh-long c.args.table.now c.requires.of_table 20000 (omega arith))

pub mark_views-requires : goal.mark_views-requires
mark_views-requires c = (
  record {
    of_table = c.requires.of_table;
    of_points = c.requires.of_points;
    filled = subst (λ (z : Shelf). Filled z c.args.table.now c.fill_refs.new.refs) c.table_shelf.ensures c.fill_refs.ensures;
  },
  fresh-long c.args.table.now c.requires.of_table 20000 (omega arith),
)

pub write_if_room-requires : goal.write_if_room-requires
write_if_room-requires c =
    record {
      known =
          record {
            of_table = c.requires.of_table;
            of_points = c.requires.of_points;
            filled = subst (λ (z : Shelf). Filled z c.args.table.now c.fill_refs.new.refs) c.table_shelf.ensures
                c.fill_refs.ensures;
          };
      marked = marked-pair c.requires (fresh-marked 20000 refl (marks-whole c.mark_views.ensures) c.in_ok-mark_views.was);
    }

pub returns : goal.returns
returns c =
    c.write_if_room.ensures
    ∙ sym
    (cut_as (packable c.args.table.now c.args.points.now c.args.code.now c.requires) c.args.out.now fine
    (sym c.mark_views.ensures.said ∙ c.in_ok-mark_views.was))

pub returns-in_err-mark_views : goal.returns-in_err-mark_views
returns-in_err-mark_views c =
    said-passed _ c.from_residual.ensures.1
    ∙ sym
    (cut_as (packable c.args.table.now c.args.points.now c.args.code.now c.requires) c.args.out.now
    (Err c.in_err-mark_views.field-0.0) (sym c.mark_views.ensures.said ∙ c.in_err-mark_views.was))
