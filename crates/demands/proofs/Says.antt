-- What an exported call can say: a refusal of the whole, one of a label, a value; and how large the numbers in it are.
-- Assumes nothing.
use Prim.Native.Nat.{ℕ, zero, suc, ◌+◌, ◌-◌, ◌≤◌, ◌<◌}
use mathlib.Core.Path.{◌≡◌, refl, sym, ◌∙◌}
use mathlib.Core.Bool.{Bool, true, false, cond}
use mathlib.Core.List.{List, [], ◌∷◌, ◌++◌}
use mathlib.Core.Option.{Option, none, some}
use mathlib.Core.Logic.{inl, inr}
use native.Mathlib.Omega.{arith}
use borrow.Author.Tests.{eqb-true, eqb-false, leb-true}
use lib.Dec.{eqb, leb, lit≤, lit<}
use lib.ListN.{length}
use Rattle.field.proofs.Tests.{and_left, and_right}
use Rattle.field_outward.specs.Outward.{outward_fault}
use Rattle.refusal.specs.Refusal.{number, detail, second, malformed_at}
use Rattle.refusal.specs.declared.Reason.{Reason}
use Rattle.refusal.specs.declared.Reason.TheVariants.{Length, Header, Trailer, NotAbove, Follower, NoSuchNumber, Room, BadPack, BadCode}
use Rattle.refusal.specs.Verdict.{or_else}
use Rattle.refusal.specs.Outcome.{Outcome, after, afterwards}
use Rattle.refusal.proofs.Answers.{refused-value, same-value}
use Rattle.refusal.proofs.Outcomes.{afterwards-value, afterwards-refused}
use Rattle.source.specs.Address.{Lookup, Address}
use Rattle.source.specs.Resolve.{Resolved, elements_of, elements, resolve}
use Rattle.source.proofs.Cases.{three-rules, eight-fields}
use Rattle.file.specs.Check.{Format, records, whole, at, rises, in_place, judged, scan, verdict, answered, checked}
use Rattle.file.specs.Formats.{table_format, point_format}
use Rattle.file.proofs.Laws.{at-least-two, within-limit}
use Rattle.file_fault.proofs.Bounds.{table-bound, point-bound}
use Rattle.file_compare.specs.Order.{same}
use Rattle.label.specs.Lines.{lines_of}
use Rattle.label.specs.Label.{room_outcome}
use Rattle.label.proofs.Room.{Fitting, fits, short, fitting}
use Rattle.item.specs.Lines.{point_line}
use Rattle.item.specs.Item.{Heading, resolved_text, item_outcome}
use Rattle.run.specs.Series.{Asking, run_from}
use Rattle.run.proofs.Count.{LabelSays, RunSays, run-says}
use Rattle.ask.specs.Source.{Source, in_code}
use Rattle.ask.specs.Labels.{kth, kth_label, by_code, view_label, code_label}
use Rattle.ask.specs.Runs.{views_run, code_run}
use Rattle.ask.specs.Lists.{resolved_of, kth_item, view_item, code_item, views_listed, code_listed, headings, views_list, code_list}
use Rattle.ask.proofs.Kth.{kth-within, kth-all}
use Rattle.ask.proofs.Laws.{in-code-all, by-good-code, by-bad-code, by-refused}
use Rattle.pack.specs.Opening.{trailer_good, all_rows_good, all_points_good, all_counts_good, point_count, opened}
use Rattle.pack.specs.Points.{elements_at, point_place, is_point, pack_label, point_item, pack_item}
use Rattle.pack_runs.specs.Runs.{pack_run}
use Rattle.pack_items.specs.Lists.{pack_listed, pack_list}
use Rattle.pack_open.proofs.Opened.{opened-all}
use Rattle.demands.specs.Apart.{OfLabel, OfWhole, AnswerIs}
use Rattle.demands.specs.Two.{Printing, no_number, forbidden_mix, key_missing, no_room, printed, label_at, PointAsked, pack_refused, Bounded, AllBounded, NoneSmall}
use Rattle.demands.specs.Apt.{WholeBy, WholeSays, Judging, Numbered, AptViews, AptBy}
use Rattle.demands.proofs.Two.{printing, point-asked, points-bounded}
use Rattle.std.specs.Prelude.{Ok, Err}
use Rattle.refusal.specs.Answer.{Answer, refusal}
use Rattle.refusal.specs.Verdict.{Verdict, fine}
use Rattle.run.specs.Series.{Series}
use Rattle.run.specs.declared.Run.TheVariants.{Stopped, Done}

-- ---- refusals

-- of a kind: of a label, of a row
pub record StopOf (Kind : Reason → Type 0) (why : Reason) : Type 0 where
  pub apart : Kind why
  pub no-view : second why ≡ 0
  pub small : detail why ≤ 499

-- a label or a row says one of these and blames no file, or its bytes; and then it is one of so many
abbrev pub OneOf : (Kind : Reason → Type 0) → (limit k : ℕ) → Answer → Type 0
OneOf Kind limit k (Ok b) = (b ≤ 499) × ((1 ≤ k) × (k ≤ limit))
OneOf Kind limit k (Err r) = (r.file ≡ 0) × StopOf Kind r.reason

abbrev pub StopSays : Reason → Type 0
StopSays = StopOf OfLabel

abbrev pub OneLabel : (limit k : ℕ) → Answer → Type 0
OneLabel = OneOf OfLabel

-- a run or a listing, whose stops are of a kind; what refuses the whole is of another
abbrev pub SeriesOf : (Whole : ℕ → Reason → Type 0) → (Kind : Reason → Type 0) → (limit : ℕ) → Series → Type 0
SeriesOf Whole Kind limit (Err r) = Whole r.file r.reason
SeriesOf Whole Kind limit (Ok (Stopped labels bytes why)) = (labels ≤ limit) × Kind why
SeriesOf Whole Kind limit (Ok (Done labels bytes)) = labels ≤ limit

abbrev pub SeriesBy : (Whole Kind : Reason → Type 0) → (limit : ℕ) → Series → Type 0
SeriesBy Whole = SeriesOf (WholeBy Whole)

abbrev pub SeriesSays : (Kind : Reason → Type 0) → (limit : ℕ) → Series → Type 0
SeriesSays = SeriesBy OfWhole

-- ---- files

-- each refusal that the check of a file can give is of a kind
pub record Refusals (f : Format) (file : List ℕ) (Kind : Reason → Type 0) : Type 0 where
  pub short : Kind Length
  pub header : Kind Header
  pub trailer : (last : ℕ) → last ≤ f.limit → Kind (Trailer last)
  pub malformed : (i : ℕ) → i < f.limit → Kind (malformed_at (i + 1) (f.fault (at f file i)))
  pub not-above : (i : ℕ) → i < f.limit → Kind (NotAbove (i + 1))
  pub misplaced : (i : ℕ) → i < f.limit → in_place f file i ≡ false → Kind (Follower (i + 1))

-- so the one that it gives is
module _ (Kind : ℕ → Reason → Type 0) (f : Format) (file : List ℕ) (refusals : Refusals f file (Kind f.file)) where
  abbrev BadIs : Verdict → Type 0
  BadIs (Ok _) = Unit {0}
  BadIs (Err why) = Kind f.file why

  judged-is : (i : ℕ) → i < f.limit → BadIs (judged f file i)
  unfolding judged
  judged-is i h = by_tests (eqb (f.fault (at f file i)) 0) (rises f file i) (in_place f file i) refl
    where
      by_tests : (t u v : Bool) → in_place f file i ≡ v
          → BadIs
          (cond t (cond u (cond v fine (Err (Follower (i + 1)))) (Err (NotAbove (i + 1))))
          (Err (malformed_at (i + 1) (f.fault (at f file i)))))
      by_tests true true true e = tt
      by_tests true true false e = refusals.misplaced i h e
      by_tests true false v e = refusals.not-above i h
      by_tests false u v e = refusals.malformed i h

  scan-is : (k i : ℕ) → i + k ≤ f.limit → BadIs (scan (judged f file) k i)
  scan-is zero i h = tt
  scan-is (suc k) i h = by-record (judged f file i) (judged-is i (omega arith)) (scan-is k (suc i) (omega arith))
    where
      by-record : (v : Verdict) → BadIs v → BadIs (scan (judged f file) k (suc i))
          → BadIs (or_else v (scan (judged f file) k (suc i)))
      by-record (Ok _) here rest = rest
      by-record (Err why) here rest = here

  pub checked-is : AnswerIs Kind (checked f file)
  unfolding checked verdict
  checked-is =
      by-verdict (verdict f file)
      (by_tests (whole f file) (f.headed (at f file 0)) (f.ended (records f file) (at f file (records f file - 1))) refl)
    where
      by_tests : (t u v : Bool) → whole f file ≡ t
          → BadIs
          (cond t
          (cond u
          (cond v (scan (judged f file) (records f file - 2) 1) (Err (Trailer (records f file))))
          (Err Header))
          (Err Length))
      by_tests true true true e =
          scan-is (records f file - 2) 1 (omega (arith, at-least-two f file e, within-limit f file e))
      by_tests true true false e = refusals.trailer (records f file) (within-limit f file e)
      by_tests true false v e = refusals.header
      by_tests false u v e = refusals.short

      by-verdict : (v : Verdict) → BadIs v → AnswerIs Kind (answered f file v)
      by-verdict (Ok _) h = tt
      by-verdict (Err why) h = h

-- files that are tried one after another
pub then_is : (Kind : ℕ → Reason → Type 0) (first next : Answer) → AnswerIs Kind first → AnswerIs Kind next
    → AnswerIs Kind (after first next)
then_is Kind (Ok n) next h k = k
then_is Kind (Err r) next h k = h

-- a file whose number, records and faults are small
module _ (f : Format) (blamed : f.file < 16) (few : f.limit ≤ 1_000_000) (near : (rec : List ℕ) → f.fault rec ≤ 170)
    (file : List ℕ) where
  bad : (why : Reason) → number why ≤ 6 → second why < 1_048_576 → detail why < 4_294_967_296 → WholeSays f.file why
  bad why n s d = record { apart = inl n; fits = record { file_fits = blamed; second_fits = s; detail_fits = d } }

  pub checked-says : Judging (checked f file)
  checked-says =
      checked-is WholeSays f file
      (record {
        short = bad Length (lit≤ tt) (lit< tt) (lit< tt);
        header = bad Header (lit≤ tt) (lit< tt) (lit< tt);
        trailer = λ last h. bad (Trailer last) (lit≤ tt) (lit< tt) (omega (arith, h, few));
        malformed = λ i h.
            bad (malformed_at (i + 1) (f.fault (at f file i))) (lit≤ tt) (omega (arith, near (at f file i)))
            (omega (arith, h, few));
        not-above = λ i h. bad (NotAbove (i + 1)) (lit≤ tt) (lit< tt) (omega (arith, h, few));
        misplaced = λ i h e. bad (Follower (i + 1)) (lit≤ tt) (lit< tt) (omega (arith, h, few));
      })

pub table-says : (table : List ℕ) → Judging (checked table_format table)
table-says table = checked-says table_format (lit< tt) (lit≤ tt) table-bound table

pub points-says : (points : List ℕ) → Judging (checked point_format points)
points-says points = checked-says point_format (lit< tt) (lit≤ tt) point-bound points

-- "12: outward code malformed"
pub code-by : (Whole : Reason → Type 0) → Whole BadCode → WholeBy Whole 0 BadCode
code-by Whole malformed =
    record { apart = malformed; fits = record { file_fits = lit< tt; second_fits = lit< tt; detail_fits = lit< tt } }

pub code-says : WholeSays 0 BadCode
code-says = code-by OfWhole (inr (lit≤ tt, lit≤ tt))

-- ---- packs

pub opened-says : (pack : List ℕ) → Judging (opened pack)
unfolding opened
opened-says pack = by_tests (trailer_good pack) (all_rows_good pack) (all_points_good pack) (all_counts_good pack)
  where
    step : (n : ℕ) → n ≤ 4 → WholeSays 0 (BadPack n)
    step n h =
        record {
          apart = inr (lit≤ tt, lit≤ tt);
          fits = record { file_fits = lit< tt; second_fits = lit< tt; detail_fits = omega arith };
        }

    by_tests : (t u v w : Bool)
        → Judging
        (cond t
        (cond u (cond v (cond w (Ok (point_count pack)) (refusal 0 (BadPack 4))) (refusal 0 (BadPack 3))) (refusal 0 (BadPack 2)))
        (refusal 0 (BadPack 1)))
    by_tests true true true true = tt
    by_tests true true true false = step 4 (lit≤ tt)
    by_tests true true false w = step 3 (lit≤ tt)
    by_tests true false v w = step 2 (lit≤ tt)
    by_tests false u v w = step 1 (lit≤ tt)

-- ---- labels

module _ (look : Lookup) (views : List Address) (bounded : AllBounded look views) (k : ℕ) (out : List ℕ) (o : Outcome Answer) where
  -- a label that is found is bounded
  pub printing-says : Printing look views k out o → OneLabel (length views) k o.answer
  printing-says (no_number e is) =
      rw is (refl, record { apart = (lit≤ tt, lit≤ tt); no-view = refl; small = lit≤ tt })
  printing-says (forbidden_mix a e p is) =
      rw is (refl, record { apart = (lit≤ tt, lit≤ tt); no-view = refl; small = omega (arith, three-rules a) })
  printing-says (key_missing a e p q is) =
      rw is (refl, record { apart = (lit≤ tt, lit≤ tt); no-view = refl; small = omega (arith, eight-fields look a) })
  printing-says (no_room a e p h is) =
      rw is (
        refl,
        record {
          apart = (lit≤ tt, lit≤ tt);
          no-view = refl;
          small = (kth-all (λ a. Bounded (elements_of look a)) views k a bounded e).bytes;
        },
      )
  printing-says (printed a e p h is) =
      rw is ((kth-all (λ a. Bounded (elements_of look a)) views k a bounded e).bytes, kth-within views k a e)

module _ (pack : List ℕ) (n : ℕ) (taken : opened pack ≡ Ok n) (k : ℕ) (out : List ℕ) where
  pub point-says : OneLabel n k (pack_label pack k out).answer
  point-says = by-case (point-asked pack k out)
    where
      small : {m : ℕ} → opened pack ≡ Ok m → 1 ≤ k → k ≤ m → length (label_at pack k) ≤ 499
      small {m} e low high = (points-bounded pack m k e low high).bytes

      by-case : PointAsked pack k out → OneLabel n k (pack_label pack k out).answer
      by-case (pack_refused {file} {why} e is) = absurd (refused-value file n why (sym e ∙ taken))
      by-case (no_number e h is) =
          rw is (refl, record { apart = (lit≤ tt, lit≤ tt); no-view = refl; small = lit≤ tt })
      by-case (no_room e low high h is) =
          rw is (refl, record { apart = (lit≤ tt, lit≤ tt); no-view = refl; small = small e low high })
      by-case (printed {n = m} e low high h is) =
          rw is (small e low high, (low, omega (arith, same-value m n (sym e ∙ taken))))

-- what is said of one label, without its bytes
pub one_says : (Kind : Reason → Type 0) (limit k : ℕ) (r : Answer) → OneOf Kind limit k r
    → LabelSays (StopOf Kind) limit k r
one_says Kind limit k (Ok b) h = h.1
one_says Kind limit k (Err r) h = h.1

-- ---- items

-- an item that is there: where a kind has 10 with its bytes, its refusal is of that kind
module _ (Kind : Reason → Type 0) (limit k : ℕ) (heading out : List ℕ) where
  pub an-item-says : (r : Resolved) → (1 ≤ k) × (k ≤ limit) → Kind (Room (length (heading ++ resolved_text r)))
      → LabelSays Kind limit k (item_outcome heading (some r) out).answer
  an-item-says r within room = by-case (fitting (heading ++ resolved_text r) out)
    where
      by-case : Fitting (heading ++ resolved_text r) out
          → LabelSays Kind limit k (room_outcome (heading ++ resolved_text r) out).answer
      by-case (fits h is) = rw is within
      by-case (short h is) = rw is room

-- the same of the k-th of some delivery points
module _ (Kind : Reason → Type 0) (none_left : Kind NoSuchNumber) (heading : Heading) (look : Lookup)
    (views : List Address)
    (room : (k : ℕ) (a : Address) → kth views k ≡ some a → Kind (Room (length (heading k ++ resolved_text (resolve look a)))))
    (k : ℕ) (out : List ℕ) where
  kth-item-says : LabelSays Kind (length views) k (kth_item heading look views k out).answer
  unfolding kth_item
  kth-item-says = by-found (kth views k) refl
    where
      by-found : (found : Option Address) → kth views k ≡ found
          → LabelSays Kind (length views) k (item_outcome (heading k) (resolved_of look found) out).answer
      by-found none e = none_left
      by-found (some a) e =
          an-item-says Kind (length views) k (heading k) out (resolve look a) (kth-within views k a e) (room k a e)

-- ---- runs and listings

-- asked in turn, each of them one of so many
pub series-of : (Whole : ℕ → Reason → Type 0) (Kind : Reason → Type 0) (a : Asking) (limit : ℕ)
    → ((k : ℕ) (out : List ℕ) → LabelSays Kind limit k (a k out).answer)
    → (first count : ℕ) (out : List ℕ)
    → SeriesOf Whole Kind limit (run_from a first count out).answer
series-of Whole Kind a limit says first count out =
    by-series (run_from a first count out).answer (run-says Kind a limit says count first out)
  where
    by-series : (s : Series) → RunSays Kind (limit - (first - 1)) s → SeriesOf Whole Kind limit s
    by-series (Err r) h = absurd h
    by-series (Ok (Stopped labels bytes why)) h = (omega (arith, h.0), h.1)
    by-series (Ok (Done labels bytes)) h = omega arith

-- those in a code are no more
pub code-few : (code : List ℕ) (views : List Address) → length (in_code code views) ≤ length views
code-few code [] = omega arith
code-few code (a ∷ more) = by-test (same a.outward code) (code-few code more)
  where
    by-test : (t : Bool) → length (in_code code more) ≤ length more
        → length (cond t (a ∷ in_code code more) (in_code code more)) ≤ suc (length more)
    by-test true h = omega arith
    by-test false h = omega arith

more-say : (Whole Kind : Reason → Type 0) (m limit : ℕ) (s : Series) → m ≤ limit → SeriesBy Whole Kind m s
    → SeriesBy Whole Kind limit s
more-say Whole Kind m limit (Err r) l h = h
more-say Whole Kind m limit (Ok (Stopped labels bytes why)) l h = (omega (arith, h.0), h.1)
more-say Whole Kind m limit (Ok (Done labels bytes)) l h = omega arith

-- of apt views those in a code are apt
pub code-apt : (look : Lookup) (code : List ℕ) (views : List Address) → AptViews look views → AptViews look (in_code code views)
code-apt look code views h =
    record {
      bounded = in-code-all (λ a. Bounded (elements_of look a)) code views h.bounded;
      capital = in-code-all (λ a. NoneSmall (lines_of (elements_of look a))) code views h.capital;
      numbered = in-code-all Numbered code views h.numbered;
      few = omega (arith, code-few code views, h.few);
    }

module _ (Whole : Reason → Type 0) (s : Source) (says : AptBy Whole s) where
  pub source-refused : {file : ℕ} {why : Reason} → s.judged ≡ refusal file why → WholeBy Whole file why
  source-refused e = rw e at says.judges

  module _ {n : ℕ} (taken : s.judged ≡ Ok n) (k : ℕ) (out : List ℕ) where
    pub view-says : OneLabel (length s.views) k (view_label s k out).answer
    unfolding view_label
    view-says =
        rw (afterwards-value refusal out (kth_label s.look s.views k out) taken)
        (printing-says s.look s.views (says.views taken).bounded k out _ (printing s.look s.views k out))

    module _ (code : List ℕ) (clean : outward_fault code ≡ 0) where
      abbrev views : List Address
      views = in_code code s.live

      pub code-label-says : OneLabel (length views) k (code_label s code k out).answer
      unfolding code_label
      code-label-says =
          rw (by-good-code refusal code out (kth_label s.look views k out) s taken clean)
          (printing-says s.look views (code-apt s.look code s.live (says.live taken)).bounded k out _
          (printing s.look views k out))

  -- asked in turn behind the files, and behind files and code
  module _ (Kind : Reason → Type 0) (ask : Asking) (first count : ℕ) (out : List ℕ) where
    abbrev next : Outcome Series
    next = run_from ask first count out

    pub files-first : ((n : ℕ) → s.judged ≡ Ok n → (k : ℕ) (o : List ℕ) → LabelSays Kind (length s.views) k (ask k o).answer)
        → SeriesBy Whole Kind 1_048_575 (afterwards refusal s.judged out next).answer
    files-first each = by-judged s.judged refl
      where
        by-judged : (j : Answer) → s.judged ≡ j → SeriesBy Whole Kind 1_048_575 (afterwards refusal s.judged out next).answer
        by-judged (Ok n) e =
            rw (afterwards-value refusal out next e)
            (more-say Whole Kind (length s.views) 1_048_575 next.answer (says.views e).few
            (series-of (WholeBy Whole) Kind ask (length s.views) (each n e) first count out))
        by-judged (Err r) e = rw (afterwards-refused refusal out next e) (source-refused e)

    module _ (malformed : Whole BadCode) (code : List ℕ) where
      abbrev coded : List Address
      coded = in_code code s.live

      code-next : ((n : ℕ) → s.judged ≡ Ok n → outward_fault code ≡ 0 → (k : ℕ) (o : List ℕ)
          → LabelSays Kind (length coded) k (ask k o).answer)
          → SeriesBy Whole Kind 1_048_575 (by_code refusal s code out next).answer
      code-next each = by-judged s.judged refl
        where
          by-code : (n : ℕ) → s.judged ≡ Ok n → (t : Bool) → eqb (outward_fault code) 0 ≡ t
              → SeriesBy Whole Kind 1_048_575 (by_code refusal s code out next).answer
          by-code n e true c =
              let clean = eqb-true (outward_fault code) 0 c in
              rw (by-good-code refusal code out next s e clean)
              (more-say Whole Kind (length coded) 1_048_575 next.answer
              (code-apt s.look code s.live (says.live e)).few
              (series-of (WholeBy Whole) Kind ask (length coded) (each n e clean) first count out))
          by-code n e false c =
              rw (by-bad-code refusal code out next s e (eqb-false (outward_fault code) 0 c)) (code-by Whole malformed)

          by-judged : (j : Answer) → s.judged ≡ j → SeriesBy Whole Kind 1_048_575 (by_code refusal s code out next).answer
          by-judged (Ok n) e = by-code n e (eqb (outward_fault code) 0) refl
          by-judged (Err r) e = rw (by-refused refusal code out next s e) (source-refused e)

  module _ (first count : ℕ) (out : List ℕ) where
    pub views-say : SeriesBy Whole StopSays 1_048_575 (views_run s first count out).answer
    unfolding views_run
    views-say =
        files-first StopSays (view_label s) first count out
        (λ n e k o. one_says OfLabel (length s.views) k (view_label s k o).answer (view-says e k o))

    pub codes-say : Whole BadCode → (code : List ℕ) → SeriesBy Whole StopSays 1_048_575 (code_run s code first count out).answer
    unfolding code_run
    codes-say malformed code =
        code-next StopSays (code_label s code) first count out malformed code
        (λ n e clean k o.
        one_says OfLabel (length (in_code code s.live)) k (code_label s code k o).answer (code-label-says e k o code clean))

-- under the source's own headings, where a kind has 7, and 10 with the bytes of an item
module _ (Kind : Reason → Type 0) (none_left : Kind NoSuchNumber) (Whole : Reason → Type 0) (s : Source) (says : AptBy Whole s) where
  abbrev Roomy : List Address → Type 0
  Roomy views =
      (k : ℕ) (a : Address) → kth views k ≡ some a
      → Kind (Room (length (headings s.heading views k ++ resolved_text (resolve s.look a))))

  pub list-says : ((n : ℕ) → s.judged ≡ Ok n → Roomy s.views) → (first count : ℕ) (out : List ℕ)
      → SeriesBy Whole Kind 1_048_575 (views_list s first count out).answer
  unfolding views_list views_listed view_item
  list-says room first count out =
      let heading = headings s.heading s.views in
      files-first Whole s says Kind (view_item heading s) first count out
      (λ n e k o.
      rw (afterwards-value refusal o (kth_item heading s.look s.views k o) e)
      (kth-item-says Kind none_left heading s.look s.views (room n e) k o))

  module _ (malformed : Whole BadCode) (code : List ℕ) where
    abbrev listed : List Address
    listed = in_code code s.live

    pub code-list-says : ((n : ℕ) → s.judged ≡ Ok n → Roomy listed) → (first count : ℕ) (out : List ℕ)
        → SeriesBy Whole Kind 1_048_575 (code_list s code first count out).answer
    unfolding code_list code_listed code_item
    code-list-says room first count out =
        let heading = headings s.heading listed in
        code-next Whole s says Kind (code_item heading s code) first count out malformed code
        (λ n e clean k o.
        rw (by-good-code refusal code o (kth_item heading s.look listed k o) s e clean)
        (kth-item-says Kind none_left heading s.look listed (room n e) k o))

-- ---- of a pack

module _ (Kind : Reason → Type 0) (ask : Asking) (pack : List ℕ)
    (each : (n : ℕ) → opened pack ≡ Ok n → (k : ℕ) (o : List ℕ) → LabelSays Kind (point_count pack) k (ask k o).answer)
    (first count : ℕ) (out : List ℕ) where
  pack-next : SeriesSays Kind (point_count pack) (afterwards refusal (opened pack) out (run_from ask first count out)).answer
  pack-next = by-opened (opened pack) refl
    where
      by-opened : (r : Answer) → opened pack ≡ r
          → SeriesSays Kind (point_count pack) (afterwards refusal (opened pack) out (run_from ask first count out)).answer
      by-opened (Ok n) e =
          rw (afterwards-value refusal out (run_from ask first count out) e)
          (series-of WholeSays Kind ask (point_count pack) (each n e) first count out)
      by-opened (Err r) e =
          rw (afterwards-refused refusal out (run_from ask first count out) e) (rw e at (opened-says pack))

pub packs-say : (pack : List ℕ) (first count : ℕ) (out : List ℕ)
    → SeriesSays StopSays (point_count pack) (pack_run pack first count out).answer
unfolding pack_run
packs-say pack =
    pack-next StopSays (pack_label pack) pack
    (λ n e k o.
    one_says OfLabel (point_count pack) k (pack_label pack k o).answer (rw (opened-all pack n e).counted at (point-says pack n e k o)))

point-there : (pack : List ℕ) (k : ℕ) → is_point pack k ≡ true → (1 ≤ k) × (k ≤ point_count pack)
point-there pack k e =
    (leb-true 1 k (and_left (leb 1 k) (leb k (point_count pack)) e), leb-true k (point_count pack) (and_right (leb 1 k) (leb k (point_count pack)) e))

module _ (Kind : Reason → Type 0) (none_left : Kind NoSuchNumber) (pack : List ℕ)
    (room : (n : ℕ) → opened pack ≡ Ok n → (k : ℕ) → 1 ≤ k → k ≤ point_count pack
    → Kind (Room (length (point_line k ++ label_at pack k)))) where
  point-item-says : (n : ℕ) → opened pack ≡ Ok n → (k : ℕ) (out : List ℕ)
      → LabelSays Kind (point_count pack) k (pack_item point_line pack k out).answer
  unfolding pack_item point_item
  point-item-says n e k out =
      rw (afterwards-value refusal out (point_item point_line pack k out) e) (by-test (is_point pack k) refl)
    where
      by-test : (t : Bool) → is_point pack k ≡ t
          → LabelSays Kind (point_count pack) k
          (item_outcome (point_line k) (cond t (some (elements (elements_at pack (point_place pack k)))) none) out).answer
      by-test true p =
          let there = point-there pack k p in
          an-item-says Kind (point_count pack) k (point_line k) out (elements (elements_at pack (point_place pack k))) there
          (room n e k there.0 there.1)
      by-test false p = none_left

  pub pack-list-says : (first count : ℕ) (out : List ℕ)
      → SeriesSays Kind (point_count pack) (pack_list pack first count out).answer
  unfolding pack_list pack_listed
  pack-list-says = pack-next Kind (pack_item point_line pack) pack point-item-says
