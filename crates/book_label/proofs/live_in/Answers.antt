use Rattle.std.proofs.Common.{◌≡◌, ℕ}
use mathlib.Core.Path.{sym, ap, ◌∙◌}
use mathlib.Core.Bool.{cond}
use mathlib.Core.List.{List}
use borrow.Author.Tests.{eq-eqb, ne_eqb}
use native.Mathlib.Omega.{arith}
use lib.Dec.{eqb}
use lib.ListN.{length}
use lib.Seq.{length-take-le}
use Rattle.field_outward.specs.Outward.{outward_fault}
use Rattle.refusal.specs.declared.Reason.TheVariants.{BadCode}
use Rattle.refusal.proofs.Outcomes.{after-value, after-refused}
use Rattle.ask.specs.Source.{in_code}
use Rattle.book.proofs.Good.{book-facts}
use Rattle.book_source.specs.Source.{addresses_of, book_live}
use Rattle.book_source.specs.Starts.{starts_in}
use Rattle.book_source.proofs.Walked.{code-starts, addresses-many}
use Rattle.book_label.proofs.Meant.{is-book}
use Rattle.std.specs.Prelude.{Ok}
use Rattle.refusal.specs.Answer.{Answer, refusal}
use Rattle.refusal.proofs.Passed.{passed-on}
use Rattle.book_label.proofs.live_in.Goals as goal

-- what is said of a code
abbrev said_of : (book code : List ℕ) → Answer
said_of book code =
    cond (eqb (outward_fault code) 0) (Ok (length (in_code code (addresses_of book)))) (refusal 0 BadCode)

pub returns-then-outward_fault-ne0 : goal.returns-then-outward_fault-ne0
unfolding book_live
returns-then-outward_fault-ne0 c =
    let a = c.args in
    rw c.into.ensures
    (let bad : said_of a.book.now a.code.now ≡ refusal 0 BadCode =
    rw (ne_eqb (outward_fault a.code.now) 0 (rw c.outward_fault.ensures at c.if-outward_fault-ne0.true)) in
    sym bad ∙ after-value _ _ _ c.check_book.ensures _ c.in_ok-check_book.was)

pub starts_in-requires : goal.starts_in-requires
starts_in-requires c =
    is-book c.args.book.now (sym c.check_book.ensures ∙ c.in_ok-check_book.was)

pub returns : goal.returns
unfolding book_live
returns c =
    let a = c.args in
    let taken = sym c.check_book.ensures ∙ c.in_ok-check_book.was in
    let clean = rw c.outward_fault.ensures at c.if-outward_fault-ne0.false in
    let facts = book-facts a.book.now (is-book a.book.now taken) in
    let h = c.starts_in.ensures in
    let many : c.starts_in.result.many ≡ length (in_code a.code.now (addresses_of a.book.now)) =
    sym (length-take-le _ _ (omega (arith, h.few, h.long)))
    ∙ (ap length h.are
    ∙ (sym (addresses-many a.book.now (starts_in a.code.now a.book.now)) ∙ ap length (sym (code-starts a.book.now facts a.code.now clean)))) in
    let said : said_of a.book.now a.code.now ≡ Ok (length (in_code a.code.now (addresses_of a.book.now))) =
    rw (eq-eqb (outward_fault a.code.now) 0 clean) in
    ap Ok many ∙ (sym said ∙ after-value _ _ _ c.check_book.ensures _ c.in_ok-check_book.was)

pub returns-in_err-check_book : goal.returns-in_err-check_book
unfolding book_live
returns-in_err-check_book c =
    passed-on _ _ c.from_residual.ensures.1
    ∙ (after-refused _ _ _ c.check_book.ensures _ _ c.in_err-check_book.was)
