use Rattle.std.proofs.Common.{[], refl, sym, ap, ◌∙◌, length, arith}
use Rattle.refusal.proofs.Outcomes.{answer-of, memory-of}
use Rattle.changes_source.specs.Addresses.{address_at}
use Rattle.changes_source.specs.Rows.{table_lookup}
use Rattle.changes_label.proofs.Laws.{wanted-place}
use Rattle.changes_runs.proofs.Laws.{next_place, place-bound}
use Rattle.csv_write.proofs.Placed.{placed-there, placed-fits}
use Rattle.changes_csv.proofs.places.PlacesInTurn.ask_next.Goals as goal

pub row_at-requires : goal.row_at-requires
row_at-requires c =
    let s = c.args.self.now in
    rw c.requires.1.1 (wanted-place s.table.now s.points.now [] c.requires.0 c.requires.1.0)

pub place_behind-self-requires : goal.place_behind-self-requires
place_behind-self-requires c =
    let s = c.args.self.now in
    let v = wanted-place s.table.now s.points.now [] c.requires.0 c.requires.1.0 in
    rw c.requires.1.1 (place-bound s.table.now s.points.now _ v)

pub returns-clause-fits : goal.returns-clause-fits
returns-clause-fits c =
    let s = c.args.self.now in
    let e = c.row_at.ensures in
    let found = table_lookup s.table.now in
    let address = address_at s.points.now 0 s.place in
    omega (
      arith,
      placed-fits found address s.place _ _ (sym (answer-of e) ∙ c.in_ok-bytes.was),
      ap length (memory-of e),
      c.row_at.auto.out,
    )

pub returns-clause-goes_on : goal.returns-clause-goes_on
returns-clause-goes_on c k h =
    let s = c.args.self.now in
    let found = table_lookup s.table.now in
    let address = address_at s.points.now 0 s.place in
    let there = placed-there found address s.place _ _ (sym (answer-of c.row_at.ensures) ∙ c.in_ok-bytes.was) in
    let next = next_place [] s.points.now k (rw h.1 at there) in
    record {
      next = (h.0, rw h.1 at c.place_behind-self.ensures ∙ sym next);
      same = refl;
    }
