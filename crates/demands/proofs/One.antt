-- Demand 1: every call's contract allows one answer and one content of lent memory, and a refused call writes nothing.
-- Assumes nothing.
use Prim.Native.Nat.{ℕ}
use mathlib.Core.Path.{◌≡◌, refl, sym, ap, ◌∙◌}
use mathlib.Core.Bool.{Bool, true, false, cond}
use mathlib.Core.List.{List, [], ◌++◌}
use mathlib.Core.Option.{Option, none, some}
use lib.Dec.{eqb, leb, ltb}
use lib.ListN.{length, drop}
use Rattle.field_outward.specs.Outward.{outward_fault}
use Rattle.refusal.specs.declared.Reason.{Reason}
use Rattle.refusal.specs.declared.Reason.TheVariants.{NoSuchNumber, Room, BadCode, Uncarried, Later}
use Rattle.refusal.specs.declared.LaterReason.TheVariants.{InsertedTwice, NotPresent, NoFreeSlot}
use Rattle.refusal.specs.Outcome.{Outcome, said, afterwards}
use Rattle.source.specs.Address.{Lookup, Address}
use Rattle.source.specs.Resolve.{Resolved, elements, refused, resolve}
use Rattle.label.specs.Label.{label_of, room_outcome, resolved_outcome}
use Rattle.label.proofs.Room.{Fitting, fits, short, fitting}
use Rattle.run.specs.Series.{Asking, run_from}
use Rattle.run.proofs.Going.{never-unasked}
use Rattle.ask.specs.Source.{Source, in_code}
use Rattle.ask.specs.Labels.{kth, label_outcome, kth_label, code_first, view_label, code_label}
use Rattle.ask.specs.Runs.{views_run, code_run}
use Rattle.ask.specs.Lists.{views_listed, code_listed, views_list, code_list}
use Rattle.pack.specs.Layout.{pack_of}
use Rattle.pack.specs.Cutting.{first_bad, cut_with, cut_outcome, pack_built}
use Rattle.csv_paf.specs.Row.{row_of, carried, written_outcome, row_outcome, row_or, kth_row, view_row, view_rows}
use Rattle.csv_paf.specs.File.{rows_of, csv_judged}
use Rattle.csv_paf.specs.Ask.{kth_of, resolved_of, label_or, row_label, csv_label, csv_labels, csv_list}
use Rattle.pack.specs.Opening.{opened}
use Rattle.pack.specs.Points.{elements_at, point_place, is_point, point_label, pack_label}
use Rattle.pack_runs.specs.Runs.{pack_run}
use Rattle.pack_items.specs.Lists.{pack_listed, pack_list}
use Rattle.file.specs.Check.{checked}
use Rattle.file.specs.Formats.{point_format}
use Rattle.file.specs.Mainfile.{addresses}
use Rattle.tally_bytes.specs.Entries.{roomed}
use Rattle.changes_codes.specs.Codes.{codes_outcome}
use Rattle.mainfile_codes.specs.Codes as MainCodes
use Rattle.changes_views.specs.Views.{wanted_at}
use Rattle.book.specs.Layout.{slots, slot_at}
use Rattle.book.specs.Book.{identity, book_judged}
use Rattle.book.specs.Event.{Event, insert, remove, replace, event_at, free_in, is_kept, insertion, removal, replacement, event_done, event_outcome, tidy_outcome}
use Rattle.call.specs.Call.{source_of, lent_of, Call, of_table, of_points, of_views, of_letter, of_live, of_codes, of_main, of_main_live, of_main_codes, of_label, of_code_label, of_labels, of_code_labels, of_list, of_code_list, of_build, of_pack, of_pack_label, of_pack_labels, of_pack_list, of_pack_suffix, of_sector, of_unspace_table, of_unspace_points, of_csv_row, of_csv_rows, of_csv, of_csv_label, of_csv_labels, of_csv_list, of_book, of_book_live, of_book_event, of_book_tidy, Saying, one, run, Called, outcome_of, bytes_of, comes_to}
use Rattle.demands.specs.One.{Allows, IsRefused, IsUnasked, RefusedWhole}
use Rattle.std.specs.Prelude.{Ok, Err}
use Rattle.refusal.specs.Answer.{Answer, refusal}
use Rattle.refusal.specs.Verdict.{Verdict}
use Rattle.run.specs.Series.{Series}
use Rattle.run.specs.declared.Run.TheVariants.{Stopped, Done}

-- "for every input, refusals too, it allows one answer and one content of lent memory"
pub one_answer : (call : Call) (out : List ℕ) (before : ℕ) {r s : ℕ} {x y : List ℕ} {m n : ℕ}
    → Allows call out before r x m
    → Allows call out before s y n
    → (r ≡ s) × ((x ≡ y) × (m ≡ n))
one_answer call out before p q =
    let same = p ∙ sym q in (
      ap (λ (c : Called). c.number) same,
      (ap (λ (c : Called). c.memory) same, ap (λ (c : Called). c.bytes) same),
    )

-- what is refused leaves the buffer as it was
abbrev Kept : {A : Type 0} → (A → Type 0) → Outcome A → List ℕ → Type 0
Kept Refusing o out = Refusing o.answer → o.memory ≡ out

module _ {A : Type 0} (Refusing : A → Type 0) (whole : ℕ → Reason → A) (out : List ℕ) (next : Outcome A)
    (kept : Kept Refusing next out) where
  after_kept : (judged : Answer) → Kept Refusing (afterwards whole judged out next) out
  after_kept (Ok n) = kept
  after_kept (Err refused-by) = λ r. refl

  code-kept : (code : List ℕ) → Kept Refusing (code_first whole code out next) out
  code-kept code = by-test (eqb (outward_fault code) 0)
    where
      by-test : (t : Bool) → Kept Refusing (cond t next (said (whole 0 BadCode) out)) out
      by-test true = kept
      by-test false = λ r. refl

room-kept : (text out : List ℕ) → Kept IsRefused (room_outcome text out) out
room-kept text out = by-case (fitting text out)
  where
    by-case : Fitting text out → Kept IsRefused (room_outcome text out) out
    by-case (fits h is) = λ r. absurd (rw is at r)
    by-case (short h is) = λ r. ap (λ (o : Outcome Answer). o.memory) is

resolved-kept : (r : Resolved) (out : List ℕ) → Kept IsRefused (resolved_outcome r out) out
resolved-kept (elements e) out = room-kept (label_of e) out
resolved-kept (refused why) out = λ r. refl

kth-kept : (look : Lookup) (views : List Address) (k : ℕ) (out : List ℕ) → Kept IsRefused (kth_label look views k out) out
unfolding kth_label
kth-kept look views k out = by-case (kth views k)
  where
    by-case : (found : Option Address) → Kept IsRefused (label_outcome look found out) out
    by-case none = λ r. refl
    by-case (some a) = resolved-kept (resolve look a) out

roomed-kept : (n : ℕ) (bytes out : List ℕ) → Kept IsRefused (roomed n bytes out) out
unfolding roomed
roomed-kept n bytes out = by-test (leb (length bytes) (length out))
  where
    by-test : (t : Bool)
        → Kept IsRefused
        (cond t (said (Ok n) (bytes ++ drop (length bytes) out)) (said (refusal 0 (Room (length bytes))) out))
        out
    by-test true = λ r. absurd r
    by-test false = λ r. refl

codes-kept : (points out : List ℕ) → Kept IsRefused (codes_outcome points out) out
unfolding codes_outcome
codes-kept points out = after_kept IsRefused refusal out _ (roomed-kept _ _ out) (checked point_format points)

main-codes-kept : (file out : List ℕ) → Kept IsRefused (MainCodes.codes_outcome file out) out
unfolding MainCodes.codes_outcome
main-codes-kept file out = after_kept IsRefused refusal out _ (roomed-kept _ _ out) (checked addresses file)

cut-kept : (v : Verdict) (pack out : List ℕ) → Kept IsRefused (cut_with v pack out) out
cut-kept (Ok _) pack out = room-kept pack out
cut-kept (Err why) pack out = λ r. refl

point-kept : (pack : List ℕ) (k : ℕ) (out : List ℕ) → Kept IsRefused (point_label pack k out) out
unfolding point_label
point-kept pack k out = by-test (is_point pack k)
  where
    by-test : (t : Bool)
        → Kept IsRefused
        (cond t (room_outcome (label_of (elements_at pack (point_place pack k))) out) (said (refusal 0 NoSuchNumber) out))
        out
    by-test true = room-kept (label_of (elements_at pack (point_place pack k))) out
    by-test false = λ r. refl

run-kept : (ask : Asking) (first count : ℕ) (out : List ℕ) → Kept IsUnasked (run_from ask first count out) out
run-kept ask first count out = by-case (run_from ask first count out).answer refl
  where
    by-case : (s : Series) → (run_from ask first count out).answer ≡ s → IsUnasked s
        → (run_from ask first count out).memory ≡ out
    by-case (Err refused-by) e r = absurd (never-unasked ask count first out refused-by.file refused-by.reason e)
    by-case (Ok (Stopped labels bytes why)) e r = absurd r
    by-case (Ok (Done labels bytes)) e r = absurd r

-- of a source
module _ (s : Source) (out : List ℕ) where
  view-kept : (view : ℕ) → Kept IsRefused (view_label s view out) out
  unfolding view_label
  view-kept view = after_kept IsRefused refusal out _ (kth-kept s.look s.views view out) s.judged

  views-kept : (first count : ℕ) → Kept IsUnasked (views_run s first count out) out
  unfolding views_run
  views-kept first count = after_kept IsUnasked refusal out _ (run-kept (view_label s) first count out) s.judged

  list-kept : (first count : ℕ) → Kept IsUnasked (views_list s first count out) out
  unfolding views_list views_listed
  list-kept first count = after_kept IsUnasked refusal out _ (run-kept _ first count out) s.judged

  module _ (code : List ℕ) where
    code-label-kept : (k : ℕ) → Kept IsRefused (code_label s code k out) out
    unfolding code_label
    code-label-kept k =
        after_kept IsRefused refusal out _ (code-kept IsRefused refusal out _ (kth-kept s.look _ k out) code) s.judged

    code-list-kept : (first count : ℕ) → Kept IsUnasked (code_list s code first count out) out
    unfolding code_list code_listed
    code-list-kept first count =
        after_kept IsUnasked refusal out _ (code-kept IsUnasked refusal out _ (run-kept _ first count out) code) s.judged

    code-run-kept : (first count : ℕ) → Kept IsUnasked (code_run s code first count out) out
    unfolding code_run
    code-run-kept first count =
        after_kept IsUnasked refusal out _
        (code-kept IsUnasked refusal out _ (run-kept (code_label s code) first count out) code) s.judged

    build-kept : Kept IsRefused (pack_built s code out) out
    unfolding pack_built cut_outcome
    build-kept =
        after_kept IsRefused refusal out _
        (code-kept IsRefused refusal out _
        (cut-kept (first_bad s.look (in_code code s.live)) (pack_of s.look (in_code code s.live) code) out) code)
        s.judged

  -- rows
  row_kept : (view : ℕ) → Kept IsRefused (view_row s view out) out
  unfolding view_row kth_row written_outcome
  row_kept view = after_kept IsRefused refusal out _ (by-found (kth s.views view)) s.judged
    where
      by-test : (row : List ℕ) (t : Bool) → Kept IsRefused (cond t (room_outcome row out) (said (refusal 0 Uncarried) out)) out
      by-test row true = room-kept row out
      by-test row false = λ r. refl

      by-resolved : (a : Address) (r : Resolved) → Kept IsRefused (row_outcome a r out) out
      by-resolved a (elements e) = by-test (row_of a e) (carried e)
      by-resolved a (refused why) = λ r. refl

      by-found : (found : Option Address) → Kept IsRefused (row_or s.look found out) out
      by-found none = λ r. refl
      by-found (some a) = by-resolved a (resolve s.look a)

  rows-kept : (first count : ℕ) → Kept IsUnasked (view_rows s first count out) out
  unfolding view_rows
  rows-kept first count = after_kept IsUnasked refusal out _ (run-kept (view_row s) first count out) s.judged

-- of a file of rows
csv-label-kept : (csv : List ℕ) (row : ℕ) (out : List ℕ) → Kept IsRefused (csv_label csv row out) out
unfolding csv_label row_label
csv-label-kept csv row out =
    after_kept IsRefused refusal out _ (by-found (resolved_of (kth_of (rows_of csv) row))) (csv_judged csv)
  where
    by-found : (found : Option Resolved) → Kept IsRefused (label_or found out) out
    by-found none = λ r. refl
    by-found (some r) = resolved-kept r out

csv-labels-kept : (csv : List ℕ) (first count : ℕ) (out : List ℕ) → Kept IsUnasked (csv_labels csv first count out) out
unfolding csv_labels
csv-labels-kept csv first count out =
    after_kept IsUnasked refusal out _ (run-kept (csv_label csv) first count out) (csv_judged csv)

csv-list-kept : (csv : List ℕ) (first count : ℕ) (out : List ℕ) → Kept IsUnasked (csv_list csv first count out) out
unfolding csv_list
csv-list-kept csv first count out =
    after_kept IsUnasked refusal out _ (run-kept _ first count out) (csv_judged csv)

-- of a pack
pack-label-kept : (pack : List ℕ) (k : ℕ) (out : List ℕ) → Kept IsRefused (pack_label pack k out) out
unfolding pack_label
pack-label-kept pack k out = after_kept IsRefused refusal out _ (point-kept pack k out) (opened pack)

pack-run-kept : (pack : List ℕ) (first count : ℕ) (out : List ℕ) → Kept IsUnasked (pack_run pack first count out) out
unfolding pack_run
pack-run-kept pack first count out =
    after_kept IsUnasked refusal out _ (run-kept (pack_label pack) first count out) (opened pack)

pack-list-kept : (pack : List ℕ) (first count : ℕ) (out : List ℕ) → Kept IsUnasked (pack_list pack first count out) out
unfolding pack_list pack_listed
pack-list-kept pack first count out = after_kept IsUnasked refusal out _ (run-kept _ first count out) (opened pack)

-- an event of a delivery point that is not present leaves the book, and so does any that is refused
absent-kept : (t : Bool) (book : List ℕ) (value : ℕ) (after : List ℕ)
    → Kept IsRefused (cond t (said (Ok value) after) (said (refusal 0 (Later NotPresent)) book)) book
absent-kept true book value after = λ r. absurd r
absent-kept false book value after = λ r. refl

done-kept : (book : List ℕ) (e : Option Event) → Kept IsRefused (event_done book e) book
unfolding insertion removal replacement
done-kept book none = λ r. refl
done-kept book (some (insert e)) = by_tests (is_kept book (identity e.view)) (ltb (free_in (slot_at book)) slots) _ _
  where
    by_tests : (t u : Bool) (value : ℕ) (after : List ℕ)
        → Kept IsRefused
        (cond t (said (refusal 0 (Later InsertedTwice)) book)
        (cond u (said (Ok value) after) (said (refusal 0 (Later NoFreeSlot)) book)))
        book
    by_tests true u value after = λ r. refl
    by_tests false true value after = λ r. absurd r
    by_tests false false value after = λ r. refl
done-kept book (some (remove id)) = absent-kept (is_kept book id) book _ _
done-kept book (some (replace e)) = absent-kept (is_kept book (identity e.view)) book _ _

event-kept : (points : List ℕ) (view : ℕ) (book : List ℕ) → Kept IsRefused (event_outcome book points view) book
unfolding event_outcome
event-kept points view book =
    after_kept IsRefused refusal book _
    (after_kept IsRefused refusal book _ (by-test (eqb (wanted_at [] points view) 0)) (checked point_format points))
    (book_judged book)
  where
    by-test : (t : Bool)
        → Kept IsRefused
        (cond t (said (refusal 0 NoSuchNumber) book) (event_done book (event_at points (wanted_at [] points view)))) book
    by-test true = λ r. refl
    by-test false = done-kept book (event_at points (wanted_at [] points view))

tidy-kept : (book : List ℕ) → Kept IsRefused (tidy_outcome book) book
unfolding tidy_outcome
tidy-kept book = after_kept IsRefused refusal book _ (λ r. absurd r) (book_judged book)

kept : (call : Call) (out : List ℕ) → Kept RefusedWhole (outcome_of call out) out
kept (of_table table) out = λ r. refl
kept (of_points points) out = λ r. refl
kept (of_views points) out = λ r. refl
kept (of_letter points view) out = λ r. refl
kept (of_live points code) out = λ r. refl
kept (of_codes points) out = codes-kept points out
kept (of_main s) out = λ r. refl
kept (of_main_live file code) out = λ r. refl
kept (of_main_codes file) out = main-codes-kept file out
kept (of_label lent view) out = view-kept (source_of lent) out view
kept (of_code_label lent code k) out = code-label-kept (source_of lent) out code k
kept (of_labels lent first count) out = views-kept (source_of lent) out first count
kept (of_code_labels lent code first count) out = code-run-kept (source_of lent) out code first count
kept (of_list lent first count) out = list-kept (source_of lent) out first count
kept (of_code_list lent code first count) out = code-list-kept (source_of lent) out code first count
kept (of_build lent code) out = build-kept (source_of lent) out code
kept (of_pack pack) out = λ r. refl
kept (of_pack_label pack k) out = pack-label-kept pack k out
kept (of_pack_labels pack first count) out = pack-run-kept pack first count out
kept (of_pack_list pack first count) out = pack-list-kept pack first count out
kept (of_pack_suffix pack k) out = λ r. refl
kept (of_sector pack digit) out = λ r. refl
kept of_unspace_table out = λ r. absurd r
kept of_unspace_points out = λ r. absurd r
kept (of_csv_row files view) out = row_kept (source_of (lent_of files)) out view
kept (of_csv_rows files first count) out = rows-kept (source_of (lent_of files)) out first count
kept (of_csv csv) out = λ r. refl
kept (of_csv_label csv row) out = csv-label-kept csv row out
kept (of_csv_labels csv first count) out = csv-labels-kept csv first count out
kept (of_csv_list csv first count) out = csv-list-kept csv first count out
kept (of_book book) out = λ r. refl
kept (of_book_live book code) out = λ r. refl
kept (of_book_event points view) out = event-kept points view out
kept of_book_tidy out = tidy-kept out

-- "a refused call writes nothing into lent memory": neither the buffer nor the bytes of a run or a listing
pub refused-writes-nothing : (call : Call) (out : List ℕ) (before : ℕ) → RefusedWhole (outcome_of call out).answer
    → ((comes_to call out before).memory ≡ out) × ((comes_to call out before).bytes ≡ before)
refused-writes-nothing call out before r = (kept call out r, by-saying (outcome_of call out).answer r)
  where
    by-saying : (s : Saying) → RefusedWhole s → bytes_of s before ≡ before
    by-saying (one answer) r = refl
    by-saying (run (Err q)) r = refl
    by-saying (run (Ok (Stopped labels bytes why))) r = absurd r
    by-saying (run (Ok (Done labels bytes))) r = absurd r
