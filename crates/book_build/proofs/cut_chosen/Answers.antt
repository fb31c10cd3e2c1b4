use native.Mathlib.Omega.{arith}
use mathlib.Core.Path.{refl, sym, subst, ◌∙◌}
use Rattle.std.specs.Prelude.{Err}
use Rattle.refusal.specs.Verdict.{fine}
use Rattle.refusal.proofs.Passed.{said-passed}
use Rattle.shelf.specs.declared.Shelf.{Shelf}
use Rattle.shelf.specs.Search.{Filled}
use Rattle.changes_source.proofs.Table.{table_fits}
use Rattle.changes_whole.proofs.Rows.{fresh-long, fresh-marked}
use Rattle.changes_whole.proofs.Whole.{cut_as}
use Rattle.book_build.proofs.cut_chosen.Goals as goal

pub fill_refs-requires : goal.fill_refs-requires
fill_refs-requires c =
    rw c.table_shelf.ensures
    (table_fits, fresh-long c.args.table.now c.requires.packable.of_table 20000 (omega arith))

pub mark_chosen-requires : goal.mark_chosen-requires
mark_chosen-requires c =
    record {
      known =
          record {
            of_table = c.requires.packable.of_table;
            filled = subst (λ (z : Shelf). Filled z c.args.table.now c.fill_refs.new.refs) c.table_shelf.ensures
                c.fill_refs.ensures;
            of_chosen = c.requires.of_chosen;
          };
      table_in_bounds = fresh-long c.args.table.now c.requires.packable.of_table 20000 (omega arith);
    }

pub write_if_room-requires : goal.write_if_room-requires
write_if_room-requires c =
    record {
      known =
          record {
            of_table = c.requires.packable.of_table;
            filled = subst (λ (z : Shelf). Filled z c.args.table.now c.fill_refs.new.refs) c.table_shelf.ensures
                c.fill_refs.ensures;
            of_chosen = c.requires.of_chosen;
          };
      may_pack = c.requires;
      marked = fresh-marked 20000 refl c.mark_chosen.ensures c.in_ok-mark_chosen.was;
    }

pub returns : goal.returns
returns c =
    c.write_if_room.ensures
    ∙ sym (cut_as c.requires.packable c.args.out.now fine (sym c.mark_chosen.ensures.said ∙ c.in_ok-mark_chosen.was))

pub returns-in_err-mark_chosen : goal.returns-in_err-mark_chosen
returns-in_err-mark_chosen c =
    said-passed _ c.from_residual.ensures.1
    ∙ sym
    (cut_as c.requires.packable c.args.out.now (Err c.in_err-mark_chosen.field-0.0)
    (sym c.mark_chosen.ensures.said ∙ c.in_err-mark_chosen.was))
