-- What is shown by where records start is what is asked of the source that a book and a table file are.
-- Assumes nothing.
use Prim.Native.Nat.{ℕ, zero, suc}
use mathlib.Core.Path.{◌≡◌, refl, sym, ap, ◌∙◌}
use mathlib.Core.Bool.{Bool, true, false, cond}
use mathlib.Core.List.{List, [], ◌∷◌, ◌++◌}
use mathlib.Core.Option.{Option, none, some}
use native.Mathlib.Omega.{arith}
use Rattle.field_outward.specs.Outward.{outward_fault}
use Rattle.refusal.specs.declared.Reason.TheVariants.{Later}
use Rattle.refusal.specs.declared.LaterReason.TheVariants.{NotABook}
use Rattle.refusal.specs.Outcome.{Outcome}
use Rattle.refusal.proofs.Answers.{refused-value}
use Rattle.refusal.proofs.Outcomes.{afterwards-value, Both, both_values}
use Rattle.file.specs.Check.{checked}
use Rattle.file.specs.Formats.{table_format}
use Rattle.file.specs.Accepted.{Accepted}
use Rattle.file.proofs.Accepted.{accepted}
use Rattle.source.specs.Address.{Lookup, Address}
use Rattle.source.specs.Resolve.{Resolved, resolve}
use Rattle.label.specs.Label.{room_outcome, resolved_outcome}
use Rattle.item.specs.Item.{resolved_text, item_outcome}
use Rattle.ask.specs.Source.{in_code}
use Rattle.ask.specs.Labels.{kth, label_outcome, kth_label, view_label, code_label}
use Rattle.ask.specs.Lists.{resolved_of, kth_item, view_item, code_item, heading_or, headings}
use Rattle.ask.proofs.Laws.{by-good-code}
use Rattle.ask.proofs.Shown.{AsksViews, AsksCode}
use Rattle.changes_source.specs.Rows.{table_lookup}
use Rattle.changes_source.specs.Addresses.{address_of}
use Rattle.changes_pair.proofs.Live.{resolve-number}
use Rattle.book.specs.Book.{is_book, book_judged}
use Rattle.book.specs.Layout.{count_of}
use Rattle.book.proofs.Search.{equal-or}
use Rattle.book.proofs.Good.{BookFacts, book-facts}
use Rattle.book_source.specs.Source.{place_line, addresses_of, book_of}
use Rattle.book_source.specs.Starts.{records_at, place_before, address_from, addresses_at, starts_in, start_among, AllInside}
use Rattle.book_source.proofs.Walked.{all-starts, code-starts, starts-inside}
use Rattle.book_label.specs.Shown.{shown_among}
use Rattle.book_label.proofs.Laws.{shown-none, shown-some}
use Rattle.std.specs.Prelude.{Ok}
use Rattle.refusal.specs.Answer.{Answer, refusal}

-- the k-th of some that start where they are said to
pub kth-start : (book starts : List ℕ) → AllInside book starts → (k : ℕ)
    → (start_among starts k ≡ 0 → kth (addresses_at book starts) k ≡ none)
    × ((start_among starts k ≡ 0 → ⊥) → kth (addresses_at book starts) k ≡ some (address_from book (start_among starts k)))
kth-start book [] all zero = (λ e. refl, λ n. absurd (n refl))
kth-start book [] all (suc k) = (λ e. refl, λ n. absurd (n refl))
kth-start book (at ∷ more) all zero = (λ e. refl, λ n. absurd (n refl))
kth-start book (at ∷ more) all (suc zero) = (λ e. absurd (omega (arith, all.0.low, e)), λ n. refl)
kth-start book (at ∷ more) all (suc (suc k)) = kth-start book more all.1 (suc k)

module _ (table book starts : List ℕ) (all : AllInside book starts) where
  abbrev look : Lookup
  look = table_lookup table

  abbrev line : Address → List ℕ
  line = (book_of book table).heading

  -- the item of an address that may be there
  item_of : Option Address → List ℕ → Outcome Answer
  item_of o out = item_outcome (heading_or line o) (resolved_of look o) out

  -- the number of an address is its place
  line-is : (at : ℕ) → line (address_from book at) ≡ place_line (place_before book at)
  unfolding address_of
  line-is at = refl

  pub label-is-kth : (k : ℕ) (out : List ℕ)
      → shown_among false table book starts k out ≡ kth_label look (addresses_at book starts) k out
  unfolding kth_label
  label-is-kth k out =
      equal-or (start_among starts k) 0
      (λ e. shown-none false table book (start_among starts k) out e
      ∙ sym (ap (λ o. label_outcome look o out) ((kth-start book starts all k).0 e)))
      (λ n.
      let at = start_among starts k in
      shown-some false table book at out n
      ∙ (ap (λ (r : Resolved). resolved_outcome r out) (resolve-number look (records_at book at) 0 (place_before book at) 0)
      ∙ sym (ap (λ o. label_outcome look o out) ((kth-start book starts all k).1 n))))

  pub item-is-kth : (k : ℕ) (out : List ℕ)
      → shown_among true table book starts k out
      ≡ kth_item (headings line (addresses_at book starts)) look (addresses_at book starts) k out
  unfolding kth_item item_of
  item-is-kth k out =
      equal-or (start_among starts k) 0
      (λ e. shown-none true table book (start_among starts k) out e ∙ sym (ap (λ o. item_of o out) ((kth-start book starts all k).0 e)))
      (λ n.
      let at = start_among starts k in
      shown-some true table book at out n
      ∙ (ap (λ (r : Resolved). room_outcome (place_line (place_before book at) ++ resolved_text r) out)
      (resolve-number look (records_at book at) 0 (place_before book at) 0)
      ∙ (ap (λ (l : List ℕ). room_outcome (l ++ resolved_text (resolve look (address_from book at))) out) (sym (line-is at))
      ∙ sym (ap (λ o. item_of o out) ((kth-start book starts all k).1 n)))))

-- ---- where the book and the table file are accepted

pub is-book : (book : List ℕ) {n : ℕ} → book_judged book ≡ Ok n → is_book book ≡ true
unfolding book_judged
is-book book {n} = by-test (is_book book)
  where
    by-test : (t : Bool) → cond t (Ok (count_of book)) (refusal 0 (Later NotABook)) ≡ Ok n → t ≡ true
    by-test true e = refl
    by-test false e = absurd (refused-value 0 n (Later NotABook) e)

module _ (book table : List ℕ) {n : ℕ} (taken : (book_of book table).judged ≡ Ok n) where
  both : Both (book_judged book) (checked table_format table)
  both = both_values (book_judged book) (checked table_format table) taken

  pub book-good : is_book book ≡ true
  book-good = is-book book both.first_is

  pub table-accepted : Accepted table_format table
  table-accepted = accepted table_format table both.second-number both.second_is

  facts : BookFacts book
  facts = book-facts book book-good

  pub view-label : (k : ℕ) (out : List ℕ)
      → shown_among false table book (starts_in [] book) k out ≡ view_label (book_of book table) k out
  unfolding view_label
  view-label k out =
      label-is-kth table book (starts_in [] book) (starts-inside book facts []) k out
      ∙ (ap (λ (views : List Address). kth_label (table_lookup table) views k out) (sym (all-starts book facts))
      ∙ sym (afterwards-value refusal out _ taken))

  view-item : (k : ℕ) (out : List ℕ)
      → shown_among true table book (starts_in [] book) k out
      ≡ view_item (headings (book_of book table).heading (book_of book table).views) (book_of book table) k out
  unfolding view_item
  view-item k out =
      item-is-kth table book (starts_in [] book) (starts-inside book facts []) k out
      ∙ (ap
      (λ (views : List Address). kth_item (headings (book_of book table).heading views) (table_lookup table) views k out)
      (sym (all-starts book facts))
      ∙ sym (afterwards-value refusal out _ taken))

  pub asks-views : AsksViews (book_of book table) (λ listed. shown_among listed table book (starts_in [] book))
  asks-views = record { items = view-item; labels = view-label }

  module _ (code : List ℕ) (clean : outward_fault code ≡ 0) where
    in-code : in_code code (addresses_of book) ≡ addresses_at book (starts_in code book)
    in-code = code-starts book facts code clean

    pub code-label : (k : ℕ) (out : List ℕ)
        → shown_among false table book (starts_in code book) k out ≡ code_label (book_of book table) code k out
    unfolding code_label
    code-label k out =
        label-is-kth table book (starts_in code book) (starts-inside book facts code) k out
        ∙ (ap (λ (views : List Address). kth_label (table_lookup table) views k out) (sym in-code)
        ∙ sym (by-good-code refusal code out _ (book_of book table) taken clean))

    code-item : (k : ℕ) (out : List ℕ)
        → shown_among true table book (starts_in code book) k out
        ≡ code_item (headings (book_of book table).heading (in_code code (addresses_of book))) (book_of book table) code k out
    unfolding code_item
    code-item k out =
        item-is-kth table book (starts_in code book) (starts-inside book facts code) k out
        ∙ (ap
        (λ (views : List Address). kth_item (headings (book_of book table).heading views) (table_lookup table) views k out)
        (sym in-code)
        ∙ sym (by-good-code refusal code out _ (book_of book table) taken clean))

    pub asks-code : AsksCode (book_of book table) code (λ listed. shown_among listed table book (starts_in code book))
    asks-code = record { items = code-item; labels = code-label }
