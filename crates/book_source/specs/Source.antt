-- The source that a book and a table file are: "Labels may be asked and packs built from a book and an accepted table file, in
-- the book's order, a place standing for the view number" (document 02, No. 10).
-- Assumes nothing.
use Rattle.std.specs.Prelude.{ℕ, suc, cond, List, [], ◌∷◌, eqb, length}
use Rattle.refusal.specs.declared.Reason.TheVariants.{BadCode}
use Rattle.refusal.specs.Outcome.{after}
use Rattle.field_outward.specs.Outward.{outward_fault}
use Rattle.file.specs.Check.{checked}
use Rattle.file.specs.Formats.{table_format}
use Rattle.source.specs.Address.{Address}
use Rattle.changes_source.specs.Rows.{table_lookup}
use Rattle.changes_source.specs.Addresses.{address_of}
use Rattle.item.specs.Lines.{worded}
use Rattle.ask.specs.Source.{Source, in_code}
use Rattle.book.specs.Book.{book_judged}
use Rattle.book.specs.Meaning.{Present, means}
use Rattle.std.specs.Prelude.{Ok}
use Rattle.refusal.specs.Answer.{Answer, refusal}

-- those that are present, numbered on from place p
abbrev pub addresses_from : (p : ℕ) → List Present → List Address
addresses_from p [] = []
addresses_from p (e ∷ more) = address_of p e.view e.follower ∷ addresses_from (suc p) more

unfoldable pub addresses_of : (book : List ℕ) → List Address
addresses_of book = addresses_from 1 (means book)

-- `place`
abbrev pub place_word : List ℕ
place_word = 112 ∷ 108 ∷ 97 ∷ 99 ∷ 101 ∷ []

-- "`place N` heads a listing"
abbrev pub place_line : ℕ → List ℕ
place_line place = worded place_word place

-- "28, the table file's"; 'demand 3 then reads "live view" as "present in the book"'
abbrev pub book_of : (book table : List ℕ) → Source
book_of book table =
    record {
      judged = after (book_judged book) (checked table_format table);
      look = table_lookup table;
      views = addresses_of book;
      live = addresses_of book;
      heading = λ a. place_line a.view;
    }

-- "present in a code. 28, 12."
unfoldable pub book_live : (book code : List ℕ) → Answer
book_live book code =
    after (book_judged book)
    (cond (eqb (outward_fault code) 0) (Ok (length (in_code code (addresses_of book)))) (refusal 0 BadCode))
