use Rattle.std.proofs.Common.{◌≡◌, ◌+◌, ◌-◌, ◌<◌, suc, ◌∷◌, ◌++◌, length, get_or, take, set, refl, sym, ap, ◌∙◌, length-set, arith}
use mathlib.Core.List.{append-nil}
use native.Mathlib.Numerals.{add-one}
use Rattle.std.proofs.lemmas.List.{length-take-le}
use Rattle.changes_views.specs.Views.{wanted}
use Rattle.book.specs.Layout.{count_of}
use Rattle.book.proofs.Good.{book-facts}
use Rattle.book_source.specs.Starts.{wanted_from, starts_from, starts_in}
use Rattle.book_source.proofs.Walked.{place_inside, taken_is, starts-left, starts-taken, written}
use Rattle.book_source.proofs.inner.starts_in.Goals as goal
use Rattle.book_source.proofs.inner.starts_in.Goals.{then-is_wanted, else-is_wanted}

pub number_within-count-requires : goal.number_within-count-requires
number_within-count-requires c = (omega (arith, (book-facts c.args.book.now c.requires).long), omega arith)

pub slice_bounds-places-end : goal.slice_bounds-places-end
slice_bounds-places-end c = omega (arith, c.number_within-count.ensures.0, (book-facts c.args.book.now c.requires).few)

pub slice_bounds-place-items-end : goal.slice_bounds-place-items-end
slice_bounds-place-items-end c =
    sym (length-take-le c.number_within-count.result c.by_place-places.result
    (omega (arith, c.number_within-count.ensures.0, (book-facts c.args.book.now c.requires).few)))

pub loop-place-init : goal.loop-place-init
unfolding starts_in
loop-place-init c =
    let all : c.number_within-count.result - 0 ≡ count_of c.args.book.now = omega (arith, c.number_within-count.ensures.0) in
    record { long = refl; few = omega arith; found = ap (λ n. starts_from c.args.code.now c.args.book.now n 1) all }

pub slice_bounds-records-end : goal.slice_bounds-records-end
slice_bounds-records-end c =
    let facts = book-facts c.args.book.now c.requires in
    let n = c.number_within-count.result in
    let i = c.loop-place.place-index in
    let e = c.number_within-count.ensures.0 in
    let all = length-take-le n c.by_place-places.result (omega (arith, e, facts.few)) in
    let high : i < n = omega (arith, all) in
    let place = taken_is c.args.book.now facts c.by_place-places.result c.by_place-places.ensures n i e high in
    let inside = place_inside c.args.book.now facts (suc i) (omega arith) (omega (arith, e)) in
    omega (arith, place, inside.high)

pub loop-place-preserved : goal.loop-place-preserved
loop-place-preserved c =
    let book = c.args.book.now in
    let code = c.args.code.now in
    let facts = book-facts book c.requires in
    let l = c.loop-place in
    let n = c.number_within-count.result in
    let i = l.place-index in
    let e = c.number_within-count.ensures.0 in
    let all = length-take-le n c.by_place-places.result (omega (arith, e, facts.few)) in
    let high : i < n = omega (arith, all) in
    let place = taken_is book facts c.by_place-places.result c.by_place-places.ensures n i e high in
    let tested = ap (wanted_from code book) (sym place) ∙ (ap (wanted code) (sym c.point_record.ensures) ∙ sym c.is_wanted.ensures) in
    elim c.if-is_wanted.branch [
      | then-is_wanted w ↦
          let start = get_or (take n c.by_place-places.result) i 0 in
          let rest = starts_from code book (n - (i + 1)) (suc (i + 1)) in
          let room : l.many < length l.at = omega (arith, e, facts.few, l.invariant.long, l.invariant.few) in
          rw (w.many-is, w.at-is)
          (record {
            long = length-set l.at l.many start ∙ l.invariant.long;
            few = omega arith;
            found =
                ap (λ m. take m (set l.at l.many start) ++ rest) (add-one l.many)
                ∙ (written l.at l.many start rest room
                ∙ (ap (λ x. take l.many l.at ++ (x ∷ rest)) place
                ∙ (ap (take l.many l.at ++◌) (sym (starts-taken code book n i high (tested ∙ w.if-is_wanted.true))) ∙ l.invariant.found)));
          })
      | else-is_wanted w ↦
          rw (w.many-is, w.at-is)
          (record {
            long = l.invariant.long;
            few = omega arith;
            found = ap (take l.many l.at ++◌) (sym (starts-left code book n i high (tested ∙ w.if-is_wanted.false))) ∙ l.invariant.found;
          })
    ]

pub returns : goal.returns
returns c =
    let l = c.loop-place in
    let n = c.number_within-count.result in
    let e = c.number_within-count.ensures.0 in
    let facts = book-facts c.args.book.now c.requires in
    let all = length-take-le n c.by_place-places.result (omega (arith, e, facts.few)) in
    let none : n - l.place-index ≡ 0 = omega (arith, all) in
    record {
      few = omega (arith, e, facts.few, all, l.invariant.few);
      long = l.invariant.long;
      are =
          sym (append-nil (take l.many l.at))
          ∙ (ap (λ n. take l.many l.at ++ starts_from c.args.code.now c.args.book.now n (suc l.place-index)) (sym none) ∙ l.invariant.found);
    }
