use Rattle.std.proofs.Common.{◌≡◌, ◌-◌, ◌<◌, suc, sym, subst, ◌∙◌, length, length-set, arith}
use Rattle.book.specs.Layout.{slot_at, place_of}
use Rattle.book.specs.Book.{holder}
use Rattle.book.proofs.Good.{book-facts}
use Rattle.book_source.proofs.Places.{TakenFrom, take_none, take-one}
use Rattle.book_source.proofs.inner.by_place.Goals as goal

pub place_in-place-requires : goal.place_in-place-requires
place_in-place-requires c = ((book-facts c.args.book.now c.requires).long, omega arith)

pub bounds-starts-place : goal.bounds-starts-place
bounds-starts-place c =
    let facts = book-facts c.args.book.now c.requires in
    omega (arith, c.place_in-place.ensures.0, facts.good.placed (c.loop-s.s - 1) (omega arith), facts.few)

pub loop-s-preserved-then-place-ne0 : goal.loop-s-preserved-then-place-ne0
loop-s-preserved-then-place-ne0 c =
    let slot = slot_at c.args.book.now in
    let facts = book-facts c.args.book.now c.requires in
    let s = c.loop-s.s - 1 in
    let same : c.loop-s.s ≡ suc s = omega arith in
    let q = c.place_in-place.result - 1 in
    let place : place_of (slot s) ≡ suc q = sym c.place_in-place.ensures.0 ∙ omega arith in
    let fits : q < length c.loop-s.starts = omega (arith, c.loop-s.invariant.long, c.place_in-place.ensures.0, facts.good.placed s (omega arith), facts.few) in
    record {
      long = length-set c.loop-s.starts q _ ∙ c.loop-s.invariant.long;
      taken = take-one slot s (omega arith) c.loop-s.starts q fits place (subst (λ n. TakenFrom slot n c.loop-s.starts) same c.loop-s.invariant.taken);
    }

pub loop-s-preserved : goal.loop-s-preserved
loop-s-preserved c =
    let slot = slot_at c.args.book.now in
    let s = c.loop-s.s - 1 in
    let same : c.loop-s.s ≡ suc s = omega arith in
    record {
      long = c.loop-s.invariant.long;
      taken =
          take_none slot s (omega arith) c.loop-s.starts (λ p h e. omega (arith, c.place_in-place.ensures.0, e))
          (subst (λ n. TakenFrom slot n c.loop-s.starts) same c.loop-s.invariant.taken);
    }

pub returns : goal.returns
unfolding holder
returns c p h k =
    let none : c.loop-s.s ≡ 0 = omega arith in
    subst (λ n. TakenFrom (slot_at c.args.book.now) n c.loop-s.starts) none c.loop-s.invariant.taken p h k
