-- What every exported call says fits the bits of its number; but for one exception, of which as much is told as fits.
-- Assumes nothing.
use Prim.Native.Nat.{ℕ, zero, suc, ◌+◌, ◌*◌, ◌≤◌, ◌<◌}
use mathlib.Core.Path.{◌≡◌, refl, sym, ap, ◌∙◌}
use mathlib.Core.Bool.{Bool, true, false, cond, ◌||◌, true≢false}
use mathlib.Core.List.{List, [], ◌∷◌, ◌++◌}
use mathlib.Core.Option.{some}
use native.Mathlib.Omega.{arith}
use native.Mathlib.Nat.{mod-eq_of_lt, mod-mod}
use borrow.Author.Tests.{eqb-true, eqb-false, ltb-true, ltb-false}
use lib.Dec.{eqb, leb, ltb, lit≤, lit<}
use lib.ListN.{length, drop, get_or, length-append}
use Rattle.field.specs.Test.{elem}
use Rattle.field_outward.specs.Outward.{outward_fault}
use Rattle.refusal.specs.Refusal.{detail, second, with_view}
use Rattle.refusal.specs.Packed.{word, FitsRefusal, Fits}
use Rattle.refusal.specs.declared.Reason.{Reason}
use Rattle.refusal.specs.declared.Reason.TheVariants.{NoSuchNumber, Combination, MissingKey, Room, BadCode}
use Rattle.refusal.specs.Outcome.{said, after, afterwards}
use Rattle.refusal.proofs.Answers.{same-value}
use Rattle.refusal.proofs.Outcomes.{afterwards-refused}
use Rattle.source.specs.Address.{Lookup, Address}
use Rattle.source.specs.Resolve.{elements, refused, forbidden, missing, elements_of, resolve}
use Rattle.source.specs.Same.{AllOf}
use Rattle.source.proofs.Cases.{Resolving, mixed, lacking, fine, resolving, three-rules, eight-fields}
use Rattle.file_record.specs.Parts.{record_at}
use Rattle.file_fault.proofs.Passing.{point-passes, one_passes}
use Rattle.file.specs.Check.{Format, records, checked}
use Rattle.file.specs.Formats.{table_format, point_format}
use Rattle.file.specs.Mainfile.{addresses}
use Rattle.file.specs.Accepted.{Accepted}
use Rattle.file.proofs.Accepted.{accepted, accepts}
use Rattle.file.proofs.Laws.{within-limit}
use Rattle.changes_views.specs.Views.{wanted_in, wanted_count, wanted_at}
use Rattle.changes_views.proofs.Laws.{count-bound}
use Rattle.label.specs.Label.{label_of}
use Rattle.item.specs.Lines.{point_line}
use Rattle.item.specs.Item.{resolved_text}
use Rattle.item.proofs.Lines.{worded-short, point-short, refused-short}
use Rattle.ask.specs.Source.{Source}
use Rattle.ask.specs.Labels.{kth, view_label, code_label}
use Rattle.ask.specs.Runs.{views_run, code_run}
use Rattle.ask.specs.Lists.{headings}
use Rattle.ask.proofs.Kth.{kth-all}
use Rattle.pack.specs.Opening.{point_count, opened}
use Rattle.pack.specs.Points.{pack_label, pack_suffix, pack_sector}
use Rattle.pack.specs.Cutting.{pack_built}
use Rattle.pack_runs.specs.Runs.{pack_run}
use Rattle.pack_open.proofs.Opened.{opened-all}
use Rattle.pack_open.proofs.Fits.{points_few}
use Rattle.changes_list.specs.Listing.{views_answer, letter_at, letter_answer, live_at, live_answer}
use Rattle.tally.specs.Tally.{Entry}
use Rattle.tally_bytes.specs.Entries.{entry_bytes, roomed, entries_outcome}
use Rattle.tally_bytes.proofs.Entries.{entries-long}
use Rattle.changes_codes.specs.Codes.{codes_in, codes_outcome}
use Rattle.changes_codes.proofs.Answered.{entries-few}
use Rattle.mainfile_codes.specs.Codes as MainCodes
use Rattle.changes_pair.specs.Live.{WantedPlace, WantedPlaces}
use Rattle.changes_pair.proofs.Live.{all_wanted}
use Rattle.mainfile.specs.Set.{Set, set_of, set_judged}
use Rattle.mainfile_check.proofs.Laws.{set-accepted}
use Rattle.mainfile_views.specs.Range.{views_in, many_in}
use Rattle.mainfile_views.specs.Range as Main
use Rattle.mainfile_list.specs.Listing as MainList
use Rattle.mainfile_views.proofs.Together.{range-high}
use Rattle.call.specs.Call.{Lent, source_of, Files, lent_of, Call, of_table, of_points, of_views, of_letter, of_live, of_codes, of_main, of_main_live, of_main_codes, of_label, of_code_label, of_labels, of_code_labels, of_list, of_code_list, of_build, of_pack, of_pack_label, of_pack_labels, of_pack_list, of_pack_suffix, of_sector, of_unspace_table, of_unspace_points, of_csv_row, of_csv_rows, of_csv, of_csv_label, of_csv_labels, of_csv_list, of_book, of_book_live, of_book_event, of_book_tidy, one, run}
use Rattle.demands.specs.Two.{ViewAsked, CodeAsked, files_refused, code_refused, taken, label_at, suffix_at, SuffixAsked, pack_refused, no_number, no_suffix, told, SectorAsked, no_digit, counted, Bounded}
use Rattle.demands.specs.Three.{AllPrinted, FirstRefused, here, later, packed, whole, Building, files_refused, code_refused, view_refused, too_short, built}
use Rattle.demands.specs.Apt.{WholeBy, WholeSays, Judging, Numbered, AptViews, AptBy}
use Rattle.demands.specs.Fits.{Exception, large_pack, large_list, large_file, large_rows, to_check, to_label, to_labels, to_items, to_open, to_run, to_list, to_sector, Typed, Tells, TellsAll}
use Rattle.demands.proofs.Two.{view-asked, code-asked, points-bounded}
use Rattle.demands.proofs.Suffixes.{suffix-small, suffix-asked}
use Rattle.demands.proofs.Sectors.{sector-few, sector-asked}
use Rattle.demands.proofs.Three.{building, all-fine}
use Rattle.demands.proofs.Says.{StopOf, StopSays, OneOf, SeriesOf, SeriesBy, SeriesSays, code-apt, table-says, points-says, code-says, opened-says, point-says, source-refused, view-says, code-label-says, views-say, codes-say, packs-say, list-says, code-list-says, pack-list-says}
use Rattle.file_record.specs.Names.Table
use Rattle.file_record.specs.Names.Point
use Rattle.unspace_file.specs.Unspaced.{spaces_at, whole_records, last_start, unspaced_count}
use Rattle.csv_paf.specs.Row.{view_row, view_rows}
use Rattle.csv_paf.specs.File.{rows_of, csv_judged}
use Rattle.csv_paf.specs.Ask.{row_word, forbidden_in, row_resolved, kth_of, csv_label, csv_labels, row_line}
use Rattle.csv_label.proofs.RowLaws.{number-few, rows-within}
use Rattle.demands.specs.Apart.{OfLabel, OfWhole, WholeFor}
use Rattle.demands.specs.Csv.{OfRow, OfCsvLabel, elements_for, CsvSays}
use Rattle.demands.proofs.Csv.{row-says, rows-say, lent_rows, csv-fits, csv-says, csv-bounded, csv-label-says, csv-labels-say, csv-list-says, rule-few}
use Rattle.demands.proofs.Book.{book-fits, present-fits, event-fits, tidy-fits}
use Rattle.demands.proofs.Lent.{set_says, addresses-says, lent-apt, code-whole}
use Rattle.std.specs.Prelude.{Ok, Err}
use Rattle.refusal.specs.Answer.{Answer, refusal}
use Rattle.run.specs.Series.{Series}
use Rattle.run.specs.declared.Run.TheVariants.{Stopped, Done}
use Rattle.mainfile_codes.proofs.Stretches.{entries-few as main-entries-few}

-- ---- files and what a point file lists

checked-fits : (f : Format) (file : List ℕ) → f.limit ≤ 1_000_000 → Judging (checked f file) → Fits (checked f file)
checked-fits f file few says = by_answer (checked f file) refl says
  where
    by_answer : (r : Answer) → checked f file ≡ r → Judging r → Fits r
    by_answer (Ok n) e h =
        let a = accepted f file n e in
        omega (arith, same-value n (records f file) (sym e ∙ accepts f file a), within-limit f file a.is_whole)
    by_answer (Err r) e h = h.fits

-- the file's own refusal first
listed-fits : (f : Format) (file : List ℕ) → Judging (checked f file) → (next : Answer) → (Accepted f file → Fits next)
    → Fits (after (checked f file) next)
listed-fits f file says next fits = by_first (checked f file) refl says
  where
    by_first : (first : Answer) → checked f file ≡ first → Judging first → Fits (after first next)
    by_first (Ok n) e h = fits (accepted f file n e)
    by_first (Err r) e h = h.fits

no-such-number : Fits (refusal 0 NoSuchNumber)
no-such-number = record { file_fits = lit< tt; second_fits = lit< tt; detail_fits = lit< tt }

-- one of these bytes is below what all of them are below
abbrev AllBelow : ℕ → List ℕ → Type 0
AllBelow limit [] = Unit {0}
AllBelow limit (x ∷ xs) = (x < limit) × AllBelow limit xs

elem_below : (b limit : ℕ) (bytes : List ℕ) → AllBelow limit bytes → elem b bytes ≡ true → b < limit
elem_below b limit [] h e = absurd (true≢false (sym e))
elem_below b limit (x ∷ xs) h e = by-test (eqb b x) refl e (elem_below b limit xs h.1)
  where
    by-test : (t : Bool) → eqb b x ≡ t → t || elem b xs ≡ true → (elem b xs ≡ true → b < limit) → b < limit
    by-test true q e more = omega (arith, eqb-true b x q, h.0)
    by-test false q e more = more e

-- the k-th of wanted places is one, where it is not 0
place-wanted : (code points places : List ℕ) → WantedPlaces code points places → (k : ℕ) → (get_or places k 0 ≡ 0 → ⊥)
    → WantedPlace code points (get_or places k 0)
place-wanted code points [] h k there = absurd (there refl)
place-wanted code points (place ∷ places) h zero there = h.0
place-wanted code points (place ∷ places) h (suc k) there = place-wanted code points places h.1 k there

module _ (points : List ℕ) (p : Accepted point_format points) where
  records-few : records point_format points ≤ 20_000
  records-few = within-limit point_format points p.is_whole

  counted-few : (code : List ℕ) → wanted_count code points ≤ 20_000
  counted-few code = omega (arith, count-bound code points, records-few)

  -- "Letter: B, C, D, I"
  letter_small : (place : ℕ) → WantedPlace [] points place → get_or (record_at 168 points place) 40 0 < 256
  letter_small place w =
      let rec = record_at 168 points place in
      let head = (point-passes rec (p.each place w.low w.high).well_formed).0 in
      elem_below (get_or rec 40 0) 256 (66 ∷ 67 ∷ 68 ∷ 73 ∷ []) (lit< tt, (lit< tt, (lit< tt, (lit< tt, tt))))
      (one_passes (66 ∷ 67 ∷ 68 ∷ 73 ∷ []) rec 40 head.1.1.1.1.1.1.1.1.0)

  letter-fits : (view : ℕ) → Fits (letter_at points (wanted_at [] points view))
  unfolding letter_at wanted_at
  letter-fits zero = no-such-number
  letter-fits (suc k) = by-test (eqb place 0) refl
    where
      place : ℕ
      place = get_or (wanted_in [] points) k 0

      by-test : (t : Bool) → eqb place 0 ≡ t
          → Fits (cond t (refusal 0 NoSuchNumber) (Ok (get_or (record_at 168 points place) 40 0)))
      by-test true e = no-such-number
      by-test false e =
          omega (
            arith,
            letter_small place
                (place-wanted [] points (wanted_in [] points) (all_wanted [] points) k (eqb-false place 0 e)),
          )

  live-fits : (code : List ℕ) → Fits (live_at points code)
  unfolding live_at
  live-fits code = by-test (eqb (outward_fault code) 0)
    where
      by-test : (t : Bool) → Fits (cond t (Ok (wanted_count code points)) (refusal 0 BadCode))
      by-test true = omega (arith, counted-few code)
      by-test false = code-says.fits

-- ---- what a set lists

main-fits : (s : Set) → Fits (MainList.views_answer s)
main-fits s = by-judged (set_judged s) refl (set_says s)
  where
    by-judged : (j : Answer) → set_judged s ≡ j → Judging j → Fits (after j (Ok (views_in s.addresses)))
    by-judged (Ok n) e h =
        omega (arith, within-limit addresses s.addresses (set-accepted s e).addresses.is_whole)
    by-judged (Err r) e h = h.fits

main-live-fits : (file code : List ℕ) → Accepted addresses file → Fits (Main.live_at file code)
unfolding Main.live_at
main-live-fits file code a = by-test (eqb (outward_fault code) 0)
  where
    by-test : (t : Bool) → Fits (cond t (Ok (many_in file code)) (refusal 0 BadCode))
    by-test true =
        omega (
          arith,
          range-high (set_of [] [] [] [] [] [] file) code a,
          within-limit addresses file a.is_whole,
        )
    by-test false = code-says.fits

-- ---- the codes of a point file or an address file

room_fits : (n : ℕ) (bytes out : List ℕ) → n ≤ 1_000_000 → length bytes ≡ 8 * n → Fits (roomed n bytes out).answer
unfolding roomed
room_fits n bytes out few long = by-test (leb (length bytes) (length out))
  where
    by-test : (t : Bool)
        → Fits
        (cond t (said (Ok n) (bytes ++ drop (length bytes) out)) (said (refusal 0 (Room (length bytes))) out)).answer
    by-test true = omega arith
    by-test false = record { file_fits = lit< tt; second_fits = lit< tt; detail_fits = omega arith }

codes-fit : (f : Format) (file : List ℕ) (es : List Entry) (out : List ℕ) → Judging (checked f file)
    → (Accepted f file → length es ≤ 1_000_000)
    → Fits (afterwards refusal (checked f file) out (entries_outcome es out)).answer
codes-fit f file es out says few = by_first (checked f file) refl says
  where
    by_first : (first : Answer) → checked f file ≡ first → Judging first
        → Fits (afterwards refusal first out (entries_outcome es out)).answer
    by_first (Ok n) e h = room_fits (length es) (entry_bytes es) out (few (accepted f file n e)) (entries-long es)
    by_first (Err r) e h = h.fits

-- ---- labels

one-fits : (Kind : Reason → Type 0) (limit k : ℕ) (r : Answer) → OneOf Kind limit k r → Fits r
one-fits Kind limit k (Ok b) h = omega (arith, h.0)
one-fits Kind limit k (Err r) h =
    record {
      file_fits = rw h.0 (lit< tt);
      second_fits = rw h.1.no-view (lit< tt);
      detail_fits = omega (arith, h.1.small);
    }

module _ (Whole : Reason → Type 0) (s : Source) (says : AptBy Whole s) (out : List ℕ) where
  view-fits : (view : ℕ) → Fits (view_label s view out).answer
  view-fits view = by-case (view-asked s out view)
    where
      by-case : ViewAsked s view out → Fits (view_label s view out).answer
      by-case (files_refused e is) = rw is (source-refused Whole s says e).fits
      by-case (taken e p) = one-fits OfLabel _ view (view_label s view out).answer (view-says Whole s says e view out)

  code_fits : (code : List ℕ) (k : ℕ) → Fits (code_label s code k out).answer
  code_fits code k = by-case (code-asked s out code k)
    where
      by-case : CodeAsked s code k out → Fits (code_label s code k out).answer
      by-case (files_refused e is) = rw is (source-refused Whole s says e).fits
      by-case (code_refused e fault is) = rw is code-says.fits
      by-case (taken e clean p) =
          one-fits OfLabel _ k (code_label s code k out).answer (code-label-says Whole s says e k out code clean)

point-fits : (pack : List ℕ) (k : ℕ) (out : List ℕ) → Fits (pack_label pack k out).answer
unfolding pack_label
point-fits pack k out = by-opened (opened pack) refl
  where
    by-opened : (r : Answer) → opened pack ≡ r → Fits (pack_label pack k out).answer
    by-opened (Ok n) e = one-fits OfLabel n k (pack_label pack k out).answer (point-says pack n e k out)
    by-opened (Err r) e =
        rw (afterwards-refused refusal out _ e) (rw e at (opened-says pack)).fits

suffix-fits : (pack : List ℕ) (k : ℕ) → Fits (pack_suffix pack k)
suffix-fits pack k = by-case (suffix-asked pack k)
  where
    by-case : SuffixAsked pack k → Fits (pack_suffix pack k)
    by-case (pack_refused e is) = rw is (rw e at (opened-says pack)).fits
    by-case (no_number e h is) = rw is (record { file_fits = lit< tt; second_fits = lit< tt; detail_fits = lit< tt })
    by-case (no_suffix e low high first is) =
        rw is (record { file_fits = lit< tt; second_fits = lit< tt; detail_fits = lit< tt })
    by-case (told e low high not_first good is) = rw is (omega (arith, suffix-small (suffix_at pack k) good))

sector-fits : (pack : List ℕ) (digit : ℕ) → ((i : ℕ) → get_or pack i 0 < 256) → Fits (pack_sector pack digit)
sector-fits pack digit bytes = by-case (sector-asked pack digit)
  where
    by-case : SectorAsked pack digit → Fits (pack_sector pack digit)
    by-case (pack_refused e is) = rw is (rw e at (opened-says pack)).fits
    by-case (no_digit e h is) = rw is (record { file_fits = lit< tt; second_fits = lit< tt; detail_fits = lit< tt })
    by-case (counted e h same is) = rw is (omega (arith, sector-few pack digit, points_few pack bytes))

opened-fits : (pack : List ℕ) → ((i : ℕ) → get_or pack i 0 < 256) → Fits (opened pack)
opened-fits pack bytes = by-opened (opened pack) refl (opened-says pack)
  where
    by-opened : (r : Answer) → opened pack ≡ r → Judging r → Fits r
    by-opened (Ok n) e h = omega (arith, (opened-all pack n e).counted, points_few pack bytes)
    by-opened (Err r) e h = h.fits

-- ---- packs that are built

-- "the label's 8 or 9 of the first live view .., together with its view number"
first_fits : (look : Lookup) (views : List Address) (why : Reason) → AllOf Numbered views
    → FirstRefused look views why
    → FitsRefusal 0 why
first_fits look views why h (here {a = a} {why = w} e) = by-case (resolving look a)
  where
    by-case : Resolving look a → FitsRefusal 0 (with_view a.view w)
    by-case (mixed n is) =
        let same : w ≡ Combination (forbidden a) 0 = cc in
        rw same (record { file_fits = lit< tt; second_fits = h.0; detail_fits = omega (arith, three-rules a) })
    by-case (lacking m n is) =
        let same : w ≡ MissingKey (missing look a) 0 = cc in
        rw same (record { file_fits = lit< tt; second_fits = h.0; detail_fits = omega (arith, eight-fields look a) })
    by-case (fine m n is) = let z : ◌≡◌ {A = ℕ} 0 1 = cc in absurd (omega arith)
first_fits look views why h (later {more = more} p r) = first_fits look more why h.1 r

module _ (Whole : Reason → Type 0) (s : Source) (apt : AptBy Whole s) (code out : List ℕ) where
  build-fits : Fits (pack_built s code out).answer
  build-fits = by-case (building s code out)
    where
      small : {n : ℕ} → s.judged ≡ Ok n → outward_fault code ≡ 0 → AllPrinted s.look (packed s code)
          → length (whole s code) < 4_294_967_296
      small e clean ps = omega (arith, (apt.packable.sound e code clean (all-fine s.look (packed s code) ps)).small)

      by-case : Building s code out → Fits (pack_built s code out).answer
      by-case (files_refused e is) = rw is (source-refused Whole s apt e).fits
      by-case (code_refused e fault is) = rw is code-says.fits
      by-case (view_refused e clean r is) =
          rw is (first_fits _ _ _ (code-apt s.look code s.live (apt.live e)).numbered r)
      by-case (too_short e clean ps h is) =
          rw is (record { file_fits = lit< tt; second_fits = lit< tt; detail_fits = small e clean ps })
      by-case (built e clean ps h is) = rw is (omega (arith, small e clean ps))

-- ---- what is told

answer-tells : (call : Call) (a : Answer) → Fits a → Tells call (one a)
answer-tells call a fits = record { fits = fits; number = refl; all = λ none. refl }

-- a stop that fits: it names no view
record SmallStop (why : Reason) : Type 0 where
  no-view : second why ≡ 0
  small : detail why < 4_294_967_296

small-room : (n : ℕ) → n < 4_294_967_296 → SmallStop (Room n)
small-room n h = record { no-view = refl; small = h }

none-small : SmallStop NoSuchNumber
none-small = record { no-view = refl; small = lit< tt }

small_by : (Whole : ℕ → Reason → Type 0) (Kind : Reason → Type 0) → ((why : Reason) → Kind why → SmallStop why)
    → (limit : ℕ) (s : Series)
    → SeriesOf Whole Kind limit s
    → SeriesOf Whole SmallStop limit s
small_by Whole Kind smaller limit (Err r) h = h
small_by Whole Kind smaller limit (Ok (Stopped labels bytes why)) h = (h.0, smaller why h.1)
small_by Whole Kind smaller limit (Ok (Done labels bytes)) h = h

stop-small : (Kind : Reason → Type 0) (why : Reason) → StopOf Kind why → SmallStop why
stop-small Kind why h = record { no-view = h.no-view; small = omega (arith, h.small) }

run_small : (Whole : Reason → Type 0) (limit : ℕ) (s : Series) → SeriesBy Whole StopSays limit s → SeriesBy Whole SmallStop limit s
run_small Whole = small_by (WholeBy Whole) StopSays (stop-small OfLabel)

series-tells : (Whole : ℕ → Reason → Type 0) → ((file : ℕ) (why : Reason) → Whole file why → FitsRefusal file why)
    → (call : Call) (limit : ℕ) (s : Series)
    → SeriesOf Whole SmallStop limit s
    → limit < 72_057_594_037_927_936
    → ((Exception call → ⊥) → limit < 1_048_576)
    → Tells call (run s)
unfolding word
series-tells Whole whole call limit (Err r) h below few =
    record { fits = whole r.file r.reason h; number = refl; all = λ none. refl }
series-tells Whole whole call limit (Ok (Stopped labels bytes why)) h below few =
    record {
      fits = (omega arith, (h.1.no-view, h.1.small));
      number = rw (mod-mod labels 1_048_576);
      all = λ none.
          ap (λ (n : ℕ). run (Ok (Stopped n bytes why)))
          (mod-eq_of_lt (omega (arith, h.0, few none)));
    }
series-tells Whole whole call limit (Ok (Done labels bytes)) h below few =
    record { fits = omega (arith, h); number = refl; all = λ none. refl }

-- over a source that has no more than fit
few-tells : (Whole : Reason → Type 0) (call : Call) (s : Series) → SeriesBy Whole SmallStop 1_048_575 s → Tells call (run s)
few-tells Whole call s says =
    series-tells (WholeBy Whole) (λ file why h. h.fits) call 1_048_575 s says (lit< tt) (λ none. lit< tt)

-- over a pack: where that is no exception, no more either
pack-tells : (call : Call) (pack : List ℕ) → (1_048_575 < point_count pack → Exception call) → (s : Series)
    → ((i : ℕ) → get_or pack i 0 < 256)
    → SeriesSays SmallStop (point_count pack) s
    → Tells call (run s)
pack-tells call pack large s bytes says =
    series-tells WholeSays (λ file why h. h.fits) call (point_count pack) s says (omega (arith, points_few pack bytes))
    (λ none. by-test (ltb 1_048_575 (point_count pack)) refl none)
  where
    by-test : (t : Bool) → ltb 1_048_575 (point_count pack) ≡ t → (Exception call → ⊥) → point_count pack < 1_048_576
    by-test true e none = absurd (none (large (ltb-true 1_048_575 (point_count pack) e)))
    by-test false e none = omega (arith, ltb-false 1_048_575 (point_count pack) e)

-- ---- listings

-- a label, or the line of its refusal
resolved-short : (look : Lookup) (a : Address) → Bounded (elements_of look a) → length (resolved_text (resolve look a)) ≤ 499
resolved-short look a bounded = by-case (resolving look a)
  where
    by-case : Resolving look a → length (resolved_text (resolve look a)) ≤ 499
    by-case (mixed n is) =
        rw is (omega (arith, refused-short 8 (forbidden a) 0 (lit< tt) (omega (arith, three-rules a)) (lit< tt)))
    by-case (lacking m n is) =
        rw is (omega (arith, refused-short 9 (missing look a) 0 (lit< tt) (omega (arith, eight-fields look a)) (lit< tt)))
    by-case (fine m n is) = rw is bounded.bytes

-- apt views under the source's own headings
module _ (Whole : Reason → Type 0) (s : Source) (apt : AptBy Whole s) (views : List Address) (good : AptViews s.look views) (k : ℕ) (a : Address)
    (e : kth views k ≡ some a) where
  item-small : SmallStop (Room (length (headings s.heading views k ++ resolved_text (resolve s.look a))))
  item-small =
      let line : length (headings s.heading views k) ≤ 80
      = rw e (apt.headed a (kth-all Numbered views k a good.numbered e)) in
      let bounded = kth-all (λ a. Bounded (elements_of s.look a)) views k a good.bounded e in
      let text = resolved-short s.look a bounded in
      small-room _ (simp length-append (omega (arith, line, text)))

point-small : (pack : List ℕ) → ((i : ℕ) → get_or pack i 0 < 256) → (n : ℕ) → opened pack ≡ Ok n → (k : ℕ) → 1 ≤ k
    → k ≤ point_count pack
    → SmallStop (Room (length (point_line k ++ label_at pack k)))
point-small pack bytes n e k low high =
    let line = point-short k (omega (arith, points_few pack bytes)) in
    let text = (points-bounded pack n k e low (omega (arith, (opened-all pack n e).counted))).bytes in
    small-room _ (simp length-append (omega (arith, line, text)))

-- ---- archived files

two-at-most : (width identifier : ℕ) (file : List ℕ) → unspaced_count width identifier file < 72_057_594_037_927_936
unfolding unspaced_count
two-at-most width identifier file =
    by_tests (whole_records width identifier file) (spaces_at identifier 0 file)
    (spaces_at identifier (last_start width identifier file) file)
  where
    by_tests : (t u v : Bool) → cond t (cond u 1 0 + cond v 1 0) 0 < 72_057_594_037_927_936
    by_tests true true true = lit< tt
    by_tests true true false = lit< tt
    by_tests true false true = lit< tt
    by_tests true false false = lit< tt
    by_tests false u v = lit< tt

-- ---- CSV PAF

row_fits : (files : Files) (view : ℕ) (out : List ℕ) → Fits (view_row (source_of (lent_of files)) view out).answer
unfolding view_row
row_fits files view out = by-judged (source_of lent).judged refl
  where
    lent : Lent
    lent = lent_of files

    by-judged : (j : Answer) → (source_of lent).judged ≡ j → Fits (view_row (source_of lent) view out).answer
    by-judged (Ok n) e =
        one-fits OfRow (length (source_of lent).views) view (view_row (source_of lent) view out).answer
        (row-says (source_of lent) (lent_rows files) e view out)
    by-judged (Err r) e =
        rw (afterwards-refused refusal out _ e) (source-refused (WholeFor lent) (source_of lent) (lent-apt lent) e).fits

csv-label-fits : (csv : List ℕ) → length csv < 4_294_967_296 → (row : ℕ) (out : List ℕ) → Fits (csv_label csv row out).answer
unfolding csv_label
csv-label-fits csv h row out = by-judged (csv_judged csv) refl
  where
    by-judged : (j : Answer) → csv_judged csv ≡ j → Fits (csv_label csv row out).answer
    by-judged (Ok n) e =
        one-fits OfCsvLabel (length (rows_of csv)) row (csv_label csv row out).answer (csv-label-says csv n e row out)
    by-judged (Err r) e = rw (afterwards-refused refusal out _ e) (rw e at (csv-fits csv h))

csv-tells : (call : Call) (csv : List ℕ) → (1_048_575 < length (rows_of csv) → Exception call) → length csv < 4_294_967_296
    → (s : Series)
    → SeriesOf CsvSays SmallStop (length (rows_of csv)) s
    → Tells call (run s)
csv-tells call csv large h s says =
    series-tells CsvSays (λ file why h. h.fits) call (length (rows_of csv)) s says (omega (arith, rows-within csv, h))
    (λ none. by-test (ltb 1_048_575 (length (rows_of csv))) refl none)
  where
    by-test : (t : Bool) → ltb 1_048_575 (length (rows_of csv)) ≡ t → (Exception call → ⊥) → length (rows_of csv) < 1_048_576
    by-test true e none = absurd (none (large (ltb-true 1_048_575 (length (rows_of csv)) e)))
    by-test false e none = omega (arith, ltb-false 1_048_575 (length (rows_of csv)) e)

row-text-short : (row : List ℕ) → length (label_of (elements_for row)) ≤ 499 → length (resolved_text (row_resolved row)) ≤ 499
unfolding row_resolved
row-text-short row h = by-test (eqb (forbidden_in (elements_for row)) 0)
  where
    by-test : (t : Bool)
        → length
        (resolved_text (cond t (elements (elements_for row)) (refused (Combination (forbidden_in (elements_for row)) 0))))
        ≤ 499
    by-test true = h
    by-test false =
        omega (
          arith,
          refused-short 8 (forbidden_in (elements_for row)) 0 (lit< tt) (omega (arith, rule-few (elements_for row))) (lit< tt),
        )

row-item-small : (csv : List ℕ) → length csv < 4_294_967_296 → (n : ℕ) → csv_judged csv ≡ Ok n → (k : ℕ) (row : List ℕ)
    → kth_of (rows_of csv) k ≡ some row
    → SmallStop (Room (length (row_line k ++ resolved_text (row_resolved row))))
unfolding row_line
row-item-small csv h n e k row q =
    let line = worded-short row_word k (lit≤ tt) (omega (arith, h, rows-within csv, number-few (rows_of csv) k row q)) in
    let text = row-text-short row (csv-bounded csv n k row e q).bytes in
    small-room _ (simp length-append (omega (arith, simp length-append at line, text)))

-- of every call, whatever is lent
pub tells : (call : Call) → Typed call → TellsAll call
unfolding views_answer letter_answer live_answer codes_outcome Main.live_answer MainCodes.codes_outcome
tells (of_table table) typed out = answer-tells _ _ (checked-fits table_format table (lit≤ tt) (table-says table))
tells (of_points points) typed out = answer-tells _ _ (checked-fits point_format points (lit≤ tt) (points-says points))
tells (of_views points) typed out =
    answer-tells _ _
    (listed-fits point_format points (points-says points) (Ok (wanted_count [] points))
    (λ p. omega (arith, counted-few points p [])))
tells (of_letter points view) typed out =
    answer-tells _ _
    (listed-fits point_format points (points-says points) (letter_at points (wanted_at [] points view))
    (λ p. letter-fits points p view))
tells (of_live points code) typed out =
    answer-tells _ _
    (listed-fits point_format points (points-says points) (live_at points code) (λ p. live-fits points p code))
tells (of_codes points) typed out =
    answer-tells _ _
    (codes-fit point_format points (codes_in points) out (points-says points) (λ p. omega (arith, entries-few points p)))
tells (of_main s) typed out = answer-tells _ _ (main-fits s)
tells (of_main_live file code) typed out =
    answer-tells _ _
    (listed-fits addresses file (addresses-says file) (Main.live_at file code) (main-live-fits file code))
tells (of_main_codes file) typed out =
    answer-tells _ _
    (codes-fit addresses file (MainCodes.codes_in file) out (addresses-says file) (main-entries-few file))
tells (of_label lent view) typed out =
    answer-tells _ _ (view-fits (WholeFor lent) (source_of lent) (lent-apt lent) out view)
tells (of_code_label lent code k) typed out =
    answer-tells _ _ (code_fits (WholeFor lent) (source_of lent) (lent-apt lent) out code k)
tells (of_labels lent first count) typed out =
    few-tells (WholeFor lent) _ _
    (run_small (WholeFor lent) 1_048_575 (views_run (source_of lent) first count out).answer
    (views-say (WholeFor lent) (source_of lent) (lent-apt lent) first count out))
tells (of_code_labels lent code first count) typed out =
    few-tells (WholeFor lent) _ _
    (run_small (WholeFor lent) 1_048_575 (code_run (source_of lent) code first count out).answer
    (codes-say (WholeFor lent) (source_of lent) (lent-apt lent) first count out (code-whole lent) code))
tells (of_list lent first count) typed out =
    let s = source_of lent in
    let apt = lent-apt lent in
    few-tells (WholeFor lent) _ _
    (list-says SmallStop none-small (WholeFor lent) s apt (λ n e. item-small (WholeFor lent) s apt s.views (apt.views e)) first
    count out)
tells (of_code_list lent code first count) typed out =
    let s = source_of lent in
    let apt = lent-apt lent in
    few-tells (WholeFor lent) _ _
    (code-list-says SmallStop none-small (WholeFor lent) s apt (code-whole lent) code
    (λ n e. item-small (WholeFor lent) s apt (packed s code) (code-apt s.look code s.live (apt.live e))) first count out)
tells (of_build lent code) typed out = answer-tells _ _ (build-fits (WholeFor lent) (source_of lent) (lent-apt lent) code out)
tells (of_pack pack) typed out = answer-tells _ _ (opened-fits pack (typed.pack_bytes pack to_open))
tells (of_pack_label pack k) typed out = answer-tells _ _ (point-fits pack k out)
tells (of_pack_labels pack first count) typed out =
    pack-tells _ pack large_pack _ (typed.pack_bytes pack to_run)
    (run_small OfWhole (point_count pack) (pack_run pack first count out).answer (packs-say pack first count out))
tells (of_pack_list pack first count) typed out =
    pack-tells _ pack large_list _ (typed.pack_bytes pack to_list)
    (pack-list-says SmallStop none-small pack (point-small pack (typed.pack_bytes pack to_list)) first count out)
tells (of_pack_suffix pack k) typed out = answer-tells _ _ (suffix-fits pack k)
tells (of_sector pack digit) typed out = answer-tells _ _ (sector-fits pack digit (typed.pack_bytes pack to_sector))
tells (of_book book) typed out = answer-tells _ _ (book-fits book)
tells (of_book_live book code) typed out = answer-tells _ _ (present-fits book code)
tells (of_book_event points view) typed out =
    answer-tells _ _ (event-fits out points view (checked-fits point_format points (lit≤ tt) (points-says points)))
tells of_book_tidy typed out = answer-tells _ _ (tidy-fits out)
tells of_unspace_table typed out = answer-tells _ _ (two-at-most Table.width Table.identifier out)
tells of_unspace_points typed out = answer-tells _ _ (two-at-most Point.width Point.identifier out)
tells (of_csv_row files view) typed out = answer-tells _ _ (row_fits files view out)
tells (of_csv_rows files first count) typed out =
    few-tells (WholeFor (lent_of files)) _ _
    (small_by (WholeBy (WholeFor (lent_of files))) (StopOf OfRow) (stop-small OfRow) 1_048_575
    (view_rows (source_of (lent_of files)) first count out).answer
    (rows-say (WholeFor (lent_of files)) (source_of (lent_of files)) (lent-apt (lent_of files)) (lent_rows files) first count
    out))
tells (of_csv csv) typed out = answer-tells _ _ (csv-fits csv (typed.csv_short csv to_check))
tells (of_csv_label csv row) typed out = answer-tells _ _ (csv-label-fits csv (typed.csv_short csv to_label) row out)
tells (of_csv_labels csv first count) typed out =
    let h = typed.csv_short csv to_labels in
    csv-tells _ csv large_file h _
    (small_by CsvSays (StopOf OfCsvLabel) (stop-small OfCsvLabel) (length (rows_of csv)) (csv_labels csv first count out).answer
    (csv-labels-say CsvSays csv (csv-says csv h) first count out))
tells (of_csv_list csv first count) typed out =
    let h = typed.csv_short csv to_items in
    csv-tells _ csv large_rows h _
    (csv-list-says CsvSays SmallStop none-small csv (csv-says csv h) (row-item-small csv h) first count out)
