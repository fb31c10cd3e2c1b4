-- How long a pack of a book may be.
-- Assumes nothing.
use Prim.Native.Nat.{ℕ, zero, suc, ◌≤◌, ◌<◌}
use mathlib.Core.Path.{◌≡◌, refl, ap, ◌∙◌}
use mathlib.Core.Bool.{Bool, true, false, cond}
use mathlib.Core.List.{List, [], ◌∷◌}
use native.Mathlib.Omega.{arith}
use lib.ListN.{length}
use Rattle.field_outward.specs.Outward.{outward_fault}
use Rattle.file_compare.specs.Order.{same}
use Rattle.source.specs.Address.{Address}
use Rattle.ask.specs.Source.{in_code}
use Rattle.ask.proofs.Laws.{in-code-all}
use Rattle.changes_source.specs.Rows.{table_shelf, table_stock, table_lookup}
use Rattle.pack.specs.Layout.{pack_of}
use Rattle.pack_sound.proofs.Fields.{FieldsSound}
use Rattle.pack_sound.proofs.Size.{shelf-short, pack-small as few-small}
use Rattle.book.specs.Layout.{slot_at, count_of}
use Rattle.book.specs.Meaning.{Present, present_from, means}
use Rattle.book.proofs.Good.{BookFacts}
use Rattle.book_source.specs.Source.{addresses_from, addresses_of}
use Rattle.book_sound.proofs.Addresses.{book-fields}

-- no more are in a code than there are
in-code-few : (code : List ℕ) (views : List Address) → length (in_code code views) ≤ length views
in-code-few code [] = omega arith
in-code-few code (a ∷ more) = by-test (same a.outward code) (in-code-few code more)
  where
    by-test : (t : Bool) → length (in_code code more) ≤ length more
        → length (cond t (a ∷ in_code code more) (in_code code more)) ≤ suc (length more)
    by-test true h = omega arith
    by-test false h = omega arith

addresses-count : (p : ℕ) (present : List Present) → length (addresses_from p present) ≡ length present
addresses-count p [] = refl
addresses-count p (e ∷ more) = ap suc (addresses-count (suc p) more)

present-count : (slot : ℕ → List ℕ) (n p : ℕ) → length (present_from slot n p) ≡ n
present-count slot zero p = refl
present-count slot (suc n) p = ap suc (present-count slot n (suc p))

-- as many as the book counts
pub book-count : (book : List ℕ) → length (addresses_of book) ≡ count_of book
unfolding addresses_of means
book-count book = addresses-count 1 (means book) ∙ present-count (slot_at book) (count_of book) 1

-- an offset in a pack of a book is told from an absent one
pub pack-small : (table book code : List ℕ) → BookFacts book → outward_fault code ≡ 0
    → length (pack_of (table_lookup table) (in_code code (addresses_of book)) code) < 4_294_967_295
pack-small table book code facts e =
    few-small (table_stock table) (shelf-short table_shelf table) (in_code code (addresses_of book))
    (in-code-all FieldsSound code (addresses_of book) (book-fields book facts)) code e
    (omega (arith, in-code-few code (addresses_of book), book-count book, facts.few))
