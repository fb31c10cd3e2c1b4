-- Good slots that are laid out are a book, which means who is present in them; and what a book means, by its slots.
-- Assumes nothing.
use Prim.Native.Nat.{ℕ, ◌≤◌, ◌<◌}
use mathlib.Core.Path.{◌≡◌, sym, ap, subst, ◌∙◌}
use mathlib.Core.Bool.{true}
use mathlib.Core.List.{List}
use native.Mathlib.Omega.{arith}
use lib.ListN.{length}
use Rattle.book.specs.Layout.{slots, slot_width, slot_at, count_of, laid}
use Rattle.book.specs.Book.{keeper, is_book}
use Rattle.book.specs.Meaning.{present_from, means}
use Rattle.book.specs.Event.{place_from, place_kept}
use Rattle.book.proofs.Laid.{laid-long, laid-slot, laid-count}
use Rattle.book.proofs.Good.{Good, BookFacts, good-same, present-same, facts-book}
use Rattle.book.proofs.Listed.{present-long, place-kept, place-unkept}

module _ (f : ℕ → List ℕ) (n : ℕ) (wide : (s : ℕ) → s < slots → length (f s) ≡ slot_width) (few : n ≤ slots)
    (good : Good f n) where
  slot_same : (s : ℕ) → s < slots → f s ≡ slot_at (laid f n) s
  slot_same s h = sym (laid-slot f n wide s h)

  count_same : n ≡ count_of (laid f n)
  count_same = sym (laid-count f n wide (omega arith))

  pub laid-book : is_book (laid f n) ≡ true
  laid-book =
      facts-book (laid f n)
      (record {
        long = laid-long f n wide;
        few = subst (λ k. k ≤ slots) count_same few;
        good = subst (Good (slot_at (laid f n))) count_same (good-same f (slot_at (laid f n)) n slot_same good);
      })

  pub laid-means : means (laid f n) ≡ present_from f n 1
  unfolding means
  laid-means =
      ap (λ k. present_from (slot_at (laid f n)) k 1) (sym count_same)
      ∙ sym (present-same f (slot_at (laid f n)) n slot_same good)

module _ (book : List ℕ) (facts : BookFacts book) where
  pub means-long : length (means book) ≡ count_of book
  unfolding means
  means-long = present-long (slot_at book) (count_of book) 1

  module _ (id : List ℕ) where
    pub means-kept : keeper (slot_at book) id < slots → place_from id 1 (means book) ≡ place_kept book id
    unfolding means
    means-kept h = place-kept (slot_at book) id (count_of book) facts.good h

    pub means-unkept : slots ≤ keeper (slot_at book) id → place_from id 1 (means book) ≡ 0
    unfolding means
    means-unkept h = place-unkept (slot_at book) id (count_of book) facts.good h
