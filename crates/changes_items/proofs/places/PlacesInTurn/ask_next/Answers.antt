use Rattle.std.proofs.Common.{refl, sym, ap, ◌∙◌, length, arith}
use Rattle.refusal.proofs.Outcomes.{answer-of, memory-of}
use Rattle.changes_label.proofs.Laws.{wanted-place}
use Rattle.changes_runs.proofs.Laws.{next_place, place-bound}
use Rattle.changes_items.proofs.Laws.{item-some, item-fits, behind-place}
use Rattle.changes_items.proofs.places.PlacesInTurn.ask_next.Goals as goal

pub numbered_item-requires : goal.numbered_item-requires
numbered_item-requires c =
    let s = c.args.self.now in
    let is = c.requires.1 in
    (rw is.1 (wanted-place s.table.now s.points.now s.code.now c.requires.0 is.0), is.2)

pub place_behind-next-requires : goal.place_behind-next-requires
place_behind-next-requires c =
    let s = c.args.self.now in
    let is = c.requires.1 in
    let v = wanted-place s.table.now s.points.now s.code.now c.requires.0 is.0 in
    rw is.1 (place-bound s.table.now s.points.now _ v)

pub number_on-self-requires : goal.number_on-self-requires
number_on-self-requires c =
    c.requires.1.2 (item-some _ _ _ _ _ _ (sym (answer-of c.numbered_item.ensures) ∙ c.in_ok-bytes.was))

pub returns-clause-fits : goal.returns-clause-fits
returns-clause-fits c =
    let e = c.numbered_item.ensures in
    omega (
      arith,
      item-fits _ _ _ _ _ _ (sym (answer-of e) ∙ c.in_ok-bytes.was),
      ap length (memory-of e),
      c.numbered_item.auto.out,
    )

pub returns-clause-goes_on : goal.returns-clause-goes_on
returns-clause-goes_on c k h =
    let s = c.args.self.now in
    let there = item-some _ _ _ _ _ _ (sym (answer-of c.numbered_item.ensures) ∙ c.in_ok-bytes.was) in
    let next = next_place s.code.now s.points.now k (rw h.1 at there) in
    let is = c.place_behind-next.ensures in
    record {
      next = (
        h.0,
        rw h.1 at is ∙ sym next,
        λ some. c.number_on-self.ensures (rw is (behind-place s.code.now s.points.now s.place (λ z. some (is ∙ z)))),
      );
      same = refl;
    }
