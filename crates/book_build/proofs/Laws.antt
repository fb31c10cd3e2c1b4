-- Laws of building from a book: the delivery points of a code may be packed, and what is cut from them is the code's pack.
-- Assumes nothing.
use Prim.Native.Nat.{ℕ, zero, suc, ◌+◌, ◌≤◌, ◌<◌}
use mathlib.Core.Path.{◌≡◌, refl, sym, ap, subst, ◌∙◌}
use mathlib.Core.Bool.{Bool, true, false, cond}
use mathlib.Core.List.{List, ◌∷◌}
use native.Mathlib.Omega.{arith}
use lib.ListN.{length}
use Rattle.field_outward.specs.Outward.{outward_fault}
use Rattle.refusal.specs.declared.Reason.TheVariants.{Later}
use Rattle.refusal.specs.declared.LaterReason.TheVariants.{NotABook}
use Rattle.refusal.proofs.Answers.{refused-value}
use Rattle.refusal.proofs.Outcomes.{Both, both_values}
use Rattle.file.specs.Check.{checked}
use Rattle.file.specs.Formats.{table_format}
use Rattle.file.proofs.Accepted.{accepted}
use Rattle.source.specs.Address.{Address}
use Rattle.ask.specs.Source.{in_code}
use Rattle.pack.specs.Layout.{pack_of}
use Rattle.pack.specs.Cutting.{cut_outcome}
use Rattle.changes_source.specs.Rows.{table_lookup}
use Rattle.build_exact.specs.Started.{Rising}
use Rattle.changes_whole.specs.Marked.{Packable}
use Rattle.book.specs.Layout.{slots, slot_at, count_of}
use Rattle.book.specs.Book.{is_book, holder, book_judged}
use Rattle.book.proofs.Good.{BookFacts, book-facts, holder-of}
use Rattle.book_source.specs.Source.{addresses_of, book_of}
use Rattle.book_source.specs.Starts.{place_before, start_of_place, addresses_at, wanted_from, starts_from, starts_in}
use Rattle.book_source.proofs.Records.{slot-place}
use Rattle.book_source.proofs.Walked.{held, code-starts, starts-inside}
use Rattle.book_sound.proofs.Size.{pack-small}
use Rattle.book_build.specs.Chosen.{packed_all}
use Rattle.book_build.specs.Ready.{Judged, MayPack}
use Rattle.book_build.proofs.Packed.{all_say, all-within}
use Rattle.std.specs.Prelude.{Ok}
use Rattle.refusal.specs.Answer.{refusal}

-- ---- the delivery points of a code, in order of place

module _ (book : List ℕ) (facts : BookFacts book) (code : List ℕ) where
  place_at : (p : ℕ) → 1 ≤ p → p ≤ count_of book → place_before book (start_of_place book p) ≡ p
  place_at p h k =
      let low = held book facts p h k in
      sym (slot-place book facts.long (holder (slot_at book) p) low) ∙ holder-of (slot_at book) p low

  rising-from : (n p low : ℕ) → 1 ≤ p → p + n ≤ suc (count_of book) → low < p
      → Rising low (packed_all book (starts_from code book n p))
  rising-from zero p low h k l = tt
  rising-from (suc n) p low h k l =
      by-test (wanted_from code book (start_of_place book p)) (rising-from n (suc p) p (omega arith) (omega arith) (omega arith))
      (rising-from n (suc p) low (omega arith) (omega arith) (omega arith))
    where
      place : place_before book (start_of_place book p) ≡ p
      place = place_at p h (omega arith)

      by-test : (t : Bool) → Rising p (packed_all book (starts_from code book n (suc p)))
          → Rising low (packed_all book (starts_from code book n (suc p)))
          → Rising low
          (packed_all book (cond t (start_of_place book p ∷ starts_from code book n (suc p)) (starts_from code book n (suc p))))
      by-test true here later = (
        omega (arith, place),
        (
          omega (arith, place, facts.few),
          subst (λ q. Rising q (packed_all book (starts_from code book n (suc p)))) (sym place) here,
        ),
      )
      by-test false here later = later

  few-from : (n p : ℕ) → length (starts_from code book n p) ≤ n
  few-from zero p = omega arith
  few-from (suc n) p = by-test (wanted_from code book (start_of_place book p)) (few-from n (suc p))
    where
      by-test : (t : Bool) → length (starts_from code book n (suc p)) ≤ n
          → length (cond t (start_of_place book p ∷ starts_from code book n (suc p)) (starts_from code book n (suc p))) ≤ suc n
      by-test true h = omega arith
      by-test false h = omega arith

  places-rise : Rising 0 (packed_all book (starts_in code book))
  unfolding starts_in
  places-rise = rising-from (count_of book) 1 0 (omega arith) (omega arith) (omega arith)

  few-starts : length (starts_in code book) ≤ slots
  unfolding starts_in
  few-starts = omega (arith, few-from (count_of book) 1, facts.few)

module _ (book table code : List ℕ) (j : Judged book table code) where
  facts : BookFacts book
  facts = book-facts book j.of_book

  addresses-are : in_code code (addresses_of book) ≡ addresses_at book (starts_in code book)
  addresses-are = code-starts book facts code j.of_code

  chosen-packable : Packable table book (packed_all book (starts_in code book)) (addresses_at book (starts_in code book)) code
  chosen-packable =
      let inside = starts-inside book facts code in
      record {
        of_table = j.of_table;
        of_code = j.of_code;
        said = all_say book (starts_in code book) inside;
        within = all-within book (starts_in code book) inside;
        rising = places-rise book facts code;
        small =
            subst (λ (as' : List Address). length (pack_of (table_lookup table) as' code) < 4_294_967_295) addresses-are
            (pack-small table book code facts j.of_code);
      }

  -- those of the code may be packed
  pub chosen-ready : (chosen : List ℕ) → chosen ≡ starts_in code book → MayPack table book chosen code
  chosen-ready chosen e =
      subst (λ (l : List ℕ). MayPack table book l code) (sym e)
      (record {
        of_chosen = record { inside = starts-inside book facts code; few = few-starts book facts code };
        packable = chosen-packable;
      })

  -- and what is cut from them is cut from the book
  pub chosen-cut : (chosen out : List ℕ) → chosen ≡ starts_in code book
      → cut_outcome (table_lookup table) (addresses_at book chosen) code out
      ≡ cut_outcome (table_lookup table) (in_code code (addresses_of book)) code out
  chosen-cut chosen out e =
      ap (λ (as' : List Address). cut_outcome (table_lookup table) as' code out)
      (ap (addresses_at book) e ∙ sym addresses-are)

-- ---- book and table file together

is-book : (book : List ℕ) (n : ℕ) → book_judged book ≡ Ok n → is_book book ≡ true
unfolding book_judged
is-book book n e = by-test (is_book book) e
  where
    by-test : (t : Bool) → cond t (Ok (count_of book)) (refusal 0 (Later NotABook)) ≡ Ok n → t ≡ true
    by-test true q = refl
    by-test false q = absurd (refused-value 0 n (Later NotABook) q)

pub judged : (book table code : List ℕ) {n : ℕ} → (book_of book table).judged ≡ Ok n → outward_fault code ≡ 0
    → Judged book table code
judged book table code taken clean =
    let both : Both (book_judged book) (checked table_format table) =
    both_values (book_judged book) (checked table_format table) taken in
    record {
      of_book = is-book book both.first-number both.first_is;
      of_table = accepted table_format table both.second-number both.second_is;
      of_code = clean;
    }
