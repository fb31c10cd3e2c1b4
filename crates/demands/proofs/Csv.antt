-- CSV PAF: what a row and the label of a row come to, what runs of them say, and the way back of whatever is lent.
-- Assumes nothing.
use Prim.Native.Nat.{ℕ, suc, ◌+◌, ◌≤◌, ◌<◌}
use mathlib.Core.Path.{◌≡◌, refl, sym, ap, subst, ◌∙◌}
use mathlib.Core.Bool.{Bool, true, false, cond, not, ◌&&◌, ◌||◌}
use mathlib.Core.List.{List, [], ◌∷◌, ◌++◌, append_assoc}
use mathlib.Core.Logic.{◌⊎◌, inl, inr}
use mathlib.Core.Option.{Option, none, some}
use native.Mathlib.Omega.{arith}
use borrow.Author.Tests.{eqb-true, eqb-false}
use lib.Dec.{eqb, lit≤, lit<}
use lib.ListN.{length}
use Rattle.field.specs.Test.{every}
use Rattle.field.specs.Text.{text_byte}
use Rattle.field.proofs.Tests.{and_left}
use Rattle.field.proofs.Parts.{every_append}
use Rattle.field_outward.proofs.Long.{outward-long, inward-long, suffix-long}
use Rattle.refusal.specs.Refusal.{detail, second}
use Rattle.refusal.specs.Packed.{Fits}
use Rattle.refusal.specs.declared.Reason.{Reason}
use Rattle.refusal.specs.declared.Reason.TheVariants.{NoSuchNumber, Combination, Room, BadRow, Uncarried}
use Rattle.refusal.specs.Verdict.{or_else}
use Rattle.refusal.specs.Outcome.{said, afterwards}
use Rattle.refusal.proofs.Answers.{refused-value, same-reason}
use Rattle.refusal.proofs.Outcomes.{afterwards-value, afterwards-refused}
use Rattle.source.specs.Address.{Address, Elements, present}
use Rattle.source.specs.Resolve.{Resolved, elements, refused, elements_of, resolve}
use Rattle.source.proofs.Cases.{Resolving, mixed, lacking, fine, resolving, three-rules, eight-fields}
use Rattle.label.specs.Label.{label_of, room_outcome}
use Rattle.label.proofs.Room.{Fitting, fits, short, fitting}
use Rattle.label.proofs.Bounds.{at-most-11-lines, slim-499, slim-lines}
use Rattle.item.specs.Item.{resolved_text, item_outcome}
use Rattle.run.specs.Series.{Asking, run_from}
use Rattle.run.proofs.Count.{LabelSays}
use Rattle.ask.specs.Source.{Source}
use Rattle.ask.specs.Labels.{kth}
use Rattle.ask.proofs.Kth.{kth-within, kth-all}
use Rattle.csv_paf.specs.Row.{row_fields, joined, row_text, plain_byte, carried, written_outcome, row_outcome, row_or, kth_row, view_row, view_rows}
use Rattle.csv_paf.specs.File.{fields_of, is_ended, rows_of, forms_for, field_fault, row_fault, first_bad_row, all_fit, judged_as, csv_judged}
use Rattle.csv_paf.specs.Ask.{filled, forbidden_in, row_resolved, kth_of, resolved_of, label_or, row_label, csv_label, csv_labels, row_line, row_item, csv_item, csv_list}
use Rattle.csv_label.proofs.RowLaws.{accepted-row, number-few, rows-within}
use Rattle.csv_label.proofs.ShownLaws.{row-slim}
use Rattle.csv_write.proofs.Sizes.{row-at-most-499}
use Rattle.csv_back.specs.Back.{Entry, EntrySound, entry_of, ViewSound, ViewsSound}
use Rattle.csv_back.proofs.Texts.{row_byte, every-then}
use Rattle.csv_back.proofs.Entries.{RowBytes, entry-bytes}
use Rattle.csv_back.proofs.Sources.{pair-views, pair-row-back, pair-rows-back, set-views, set-row-back, set-rows-back}
use Rattle.pack.specs.Opening.{slot, text_good}
use Rattle.pack_sound.proofs.Texts.{good-text, trim-long}
use Rattle.changes_pair.specs.Pair.{pair_of}
use Rattle.mainfile.specs.Main.{main_of}
use Rattle.call.specs.Call.{Files, pair_files, set_files, lent_of, source_of}
use Rattle.demands.specs.Two.{Printed, refused_as, InTurn}
use Rattle.demands.specs.Apart.{OfLabel}
use Rattle.demands.specs.Apt.{AptBy}
use Rattle.demands.specs.Csv.{
  row_for,
  RowAsked,
  files_refused,
  no_number,
  forbidden_mix,
  key_missing,
  not_carried,
  no_room,
  row_written,
  RowsBounded,
  TextRow,
  RowsText,
  FirstBad,
  here,
  later,
  AllFormed,
  CsvAsked,
  row_malformed,
  accepted,
  elements_for,
  CsvLabelAsked,
  file_refused,
  printed,
  CsvBounded,
  UnderRow,
  a_label,
  a_rule,
  RowListed,
  listed,
  OfRow,
  OfCsvLabel,
  OfCsv,
  CsvSays,
  WayBack,
}
use Rattle.demands.proofs.Two.{rule-line}
use Rattle.demands.proofs.Says.{StopOf, OneOf, one_says, SeriesOf, SeriesBy, an-item-says, files-first, series-of}
use Rattle.std.specs.Prelude.{Ok, Err}
use Rattle.refusal.specs.Answer.{Answer, refusal}
use Rattle.refusal.specs.Verdict.{Verdict, fine as unrefused}
use Rattle.label.specs.Widths.{Fits as TextsFit}

-- ---- a row is written

module _ (s : Source) (view : ℕ) (out : List ℕ) where
  module _ {n : ℕ} (taken : s.judged ≡ Ok n) where
    asked : view_row s view out ≡ row_or s.look (kth s.views view) out
    unfolding view_row kth_row
    asked = afterwards-value refusal out _ taken

    module _ (a : Address) (there : kth s.views view ≡ some a) where
      as_row : view_row s view out ≡ row_outcome a (resolve s.look a) out
      as_row = asked ∙ ap (λ (o : Option Address). row_or s.look o out) there

      abbrev e : Elements
      e = elements_of s.look a

      printed-row : Printed s.look a → resolve s.look a ≡ elements e → RowAsked s view out
      unfolding written_outcome
      printed-row p is = by-carried (carried e) refl
        where
          of : view_row s view out ≡ cond (carried e) (room_outcome (row_for s.look a) out) (said (refusal 0 Uncarried) out)
          of = as_row ∙ ap (λ (r : Resolved). row_outcome a r out) is

          by-room : carried e ≡ true → view_row s view out ≡ room_outcome (row_for s.look a) out
              → Fitting (row_for s.look a) out
              → RowAsked s view out
          by-room q r (fits h k) = row_written taken a there p q h (r ∙ k)
          by-room q r (short h k) = no_room taken a there p q h (r ∙ k)

          by-carried : (t : Bool) → carried e ≡ t → RowAsked s view out
          by-carried true q =
              by-room q
              (of ∙ ap (λ (t : Bool). cond t (room_outcome (row_for s.look a) out) (said (refusal 0 Uncarried) out)) q)
              (fitting (row_for s.look a) out)
          by-carried false q =
              not_carried taken a there p q
              (of ∙ ap (λ (t : Bool). cond t (room_outcome (row_for s.look a) out) (said (refusal 0 Uncarried) out)) q)

      found-row : RowAsked s view out
      found-row = by-case (resolving s.look a)
        where
          by-case : Resolving s.look a → RowAsked s view out
          by-case (mixed m is) = forbidden_mix taken a there m (as_row ∙ ap (λ (r : Resolved). row_outcome a r out) is)
          by-case (lacking p m is) = key_missing taken a there p m (as_row ∙ ap (λ (r : Resolved). row_outcome a r out) is)
          by-case (fine p q is) = printed-row (p, q) is

    taken-row : RowAsked s view out
    taken-row = by-found (kth s.views view) refl
      where
        by-found : (o : Option Address) → kth s.views view ≡ o → RowAsked s view out
        by-found none q = no_number taken q (asked ∙ ap (λ (o : Option Address). row_or s.look o out) q)
        by-found (some a) q = found-row a q

  pub row-asked : RowAsked s view out
  unfolding view_row
  row-asked = by-judged s.judged refl
    where
      by-judged : (j : Answer) → s.judged ≡ j → RowAsked s view out
      by-judged (Ok n) q = taken-row q
      by-judged (Err r) q = files_refused q (afterwards-refused refusal out _ q)

-- ---- how long a row is

text-fits : (width : ℕ) (blank : Bool) (text : List ℕ) → text_good (slot width blank) text ≡ true → length text ≤ width
text-fits width blank text good = (good-text (slot width blank) text good).0

-- what a sound row is written from fits its fields
entry-fits : (w : Entry) → EntrySound w → TextsFit w.printed
entry-fits w sound =
    let t = sound.texts in
    record {
      organisation = text-fits 60 true _ t.organisation;
      department = text-fits 60 true _ t.department;
      box = text-fits 6 true _ t.box;
      sub_building = text-fits 30 true _ t.sub_building;
      building = text-fits 50 true _ t.building;
      dependent = text-fits 60 true _ t.dependent;
      dependent_descriptor = text-fits 20 true _ t.dependent_descriptor;
      thoroughfare = text-fits 60 true _ t.thoroughfare;
      descriptor = text-fits 20 true _ t.descriptor;
      double_locality = text-fits 35 true _ t.double_locality;
      dependent_locality = text-fits 35 true _ t.dependent_locality;
      town = text-fits 30 false _ t.town;
      outward = omega (arith, ap length t.outward, trim-long t.code, outward-long t.code t.outward_good);
      inward = omega (arith, inward-long w.printed.inward t.inward);
    }

-- what a row is written from, by the view
entry-sound : (s : Source) → ViewsSound s → (n view : ℕ) (a : Address) → s.judged ≡ Ok n → kth s.views view ≡ some a
    → Printed s.look a
    → EntrySound (entry_of a (elements_of s.look a))
entry-sound s sound n view a taken there p =
    kth-all (ViewSound s.look) s.views view a (sound n taken) there (elements_of s.look a)
    (by-case (resolving s.look a))
  where
    by-case : Resolving s.look a → resolve s.look a ≡ elements (elements_of s.look a)
    by-case (mixed m q) = absurd (m p.0)
    by-case (lacking l m q) = absurd (m p.1)
    by-case (fine l m q) = q

views-bounded : (s : Source) → ViewsSound s → RowsBounded s
views-bounded s sound n view a taken there p is =
    let w = entry-sound s sound n view a taken there p in
    row-at-most-499 a.postcode_type a.indicator a.suffix (elements_of s.look a) (entry-fits _ w) is
    (omega (arith, suffix-long a.suffix w.suffix))

pub lent_rows : (files : Files) → RowsBounded (source_of (lent_of files))
lent_rows (pair_files table points) = views-bounded (pair_of table points) (pair-views table points)
lent_rows (set_files s) = views-bounded (main_of s) (set-views s)

-- ---- of which bytes it is

text-bytes : (f : List ℕ) → every row_byte f ≡ true → every text_byte f ≡ true
text-bytes = every-then row_byte text_byte (λ b. and_left (text_byte b) (plain_byte b))

joined-text : (fs : List (List ℕ)) → RowBytes fs → TextRow (joined fs)
joined-text [] h = record { text = []; is = refl; bytes = refl }
joined-text (f ∷ []) h = record { text = f; is = refl; bytes = text-bytes f h.0 }
joined-text (f ∷ g ∷ fs) h =
    let rest = joined-text (g ∷ fs) h.1 in
    record {
      text = f ++ (44 ∷ rest.text);
      is =
          ap (λ (t : List ℕ). f ++ (44 ∷ t)) rest.is
          ∙ sym (append_assoc f (44 ∷ rest.text) (13 ∷ 10 ∷ []));
      bytes = every_append text_byte f (44 ∷ rest.text) (text-bytes f h.0) rest.bytes;
    }

views-text : (s : Source) → ViewsSound s → RowsText s
unfolding row_text
views-text s sound n view a taken there p is =
    let e = elements_of s.look a in
    let w = entry-sound s sound n view a taken there p in
    joined-text (row_fields a.postcode_type a.indicator a.suffix e)
    (entry-bytes (entry_of a e) (record { sound = w; not_refused = is }))

pub lent-text : (files : Files) → RowsText (source_of (lent_of files))
lent-text (pair_files table points) = views-text (pair_of table points) (pair-views table points)
lent-text (set_files s) = views-text (main_of s) (set-views s)

-- ---- what a run of rows says

of_label : {why : Reason} → OfLabel why → second why ≡ 0 → detail why ≤ 499 → StopOf OfRow why
of_label l v d = record { apart = inl l; no-view = v; small = d }

module _ (s : Source) (bounded : RowsBounded s) {n : ℕ} (taken : s.judged ≡ Ok n) (k : ℕ) (out : List ℕ) where
  pub row-says : OneOf OfRow (length s.views) k (view_row s k out).answer
  row-says = by-case (row-asked s k out)
    where
      by-case : RowAsked s k out → OneOf OfRow (length s.views) k (view_row s k out).answer
      by-case (files_refused {file} {why} q is) = absurd (refused-value file n why (sym q ∙ taken))
      by-case (no_number q e is) = rw is (refl, of_label (lit≤ tt, lit≤ tt) refl (lit≤ tt))
      by-case (forbidden_mix q a e m is) =
          rw is (refl, of_label (lit≤ tt, lit≤ tt) refl (omega (arith, three-rules a)))
      by-case (key_missing q a e p m is) =
          rw is (refl, of_label (lit≤ tt, lit≤ tt) refl (omega (arith, eight-fields s.look a)))
      by-case (not_carried q a e p c is) =
          rw is (refl, record { apart = inr refl; no-view = refl; small = lit≤ tt })
      by-case (no_room q a e p c h is) =
          rw is (refl, of_label (lit≤ tt, lit≤ tt) refl (bounded n k a taken e p c))
      by-case (row_written q a e p c h is) = rw is (bounded n k a taken e p c, kth-within s.views k a e)

pub rows-say : (Whole : Reason → Type 0) (s : Source) → AptBy Whole s → RowsBounded s → (first count : ℕ) (out : List ℕ)
    → SeriesBy Whole (StopOf OfRow) 1_048_575 (view_rows s first count out).answer
unfolding view_rows
rows-say Whole s apt bounded first count out =
    files-first Whole s apt (StopOf OfRow) (view_row s) first count out
    (λ n taken k o. one_says OfRow (length s.views) k (view_row s k o).answer (row-says s bounded taken k o))

-- ---- a file is read

first-bad : (n : ℕ) (rows : List (List ℕ)) (row field : ℕ) → first_bad_row n rows ≡ Err (BadRow row field) → FirstBad n rows row field
first-bad n [] row field e = let z : ◌≡◌ {A = ℕ} 0 1 = cc in absurd (omega arith)
first-bad n (r ∷ rs) row field e = by-test (eqb (row_fault r) 0) refl e (λ q. first-bad (suc n) rs row field q)
  where
    by-test : (t : Bool) → eqb (row_fault r) 0 ≡ t
        → cond t (first_bad_row (suc n) rs) (Err (BadRow n (row_fault r))) ≡ Err (BadRow row field)
        → (first_bad_row (suc n) rs ≡ Err (BadRow row field) → FirstBad (suc n) rs row field)
        → FirstBad n (r ∷ rs) row field
    by-test true q z more = later (eqb-true (row_fault r) 0 q) (more z)
    by-test false q z more =
        let same_row : n ≡ row = cc in
        let same-field : row_fault r ≡ field = cc in
        rw (sym same_row, sym same-field) (here (eqb-false (row_fault r) 0 q))

-- the verdict over rows is fine or names a row
pub data RowsVerdict (n : ℕ) (rows : List (List ℕ)) : Type 0 where
  all-formed : AllFormed rows → first_bad_row n rows ≡ unrefused → RowsVerdict n rows
  one-bad : (row field : ℕ) → FirstBad n rows row field → first_bad_row n rows ≡ Err (BadRow row field) → RowsVerdict n rows

rows-verdict : (n : ℕ) (rows : List (List ℕ)) → RowsVerdict n rows
rows-verdict n [] = all-formed tt refl
rows-verdict n (r ∷ rs) = by-test (eqb (row_fault r) 0) refl (rows-verdict (suc n) rs)
  where
    told : (t : Bool) → eqb (row_fault r) 0 ≡ t
        → first_bad_row n (r ∷ rs) ≡ cond t (first_bad_row (suc n) rs) (Err (BadRow n (row_fault r)))
    told t q = ap (λ (u : Bool). cond u (first_bad_row (suc n) rs) (Err (BadRow n (row_fault r)))) q

    by-test : (t : Bool) → eqb (row_fault r) 0 ≡ t → RowsVerdict (suc n) rs → RowsVerdict n (r ∷ rs)
    by-test true q (all-formed h e) = all-formed (eqb-true (row_fault r) 0 q, h) (told true q ∙ e)
    by-test true q (one-bad row field b e) = one-bad row field (later (eqb-true (row_fault r) 0 q) b) (told true q ∙ e)
    by-test false q rest = one-bad n (row_fault r) (here (eqb-false (row_fault r) 0 q)) (told false q)

pub csv-asked : (csv : List ℕ) → CsvAsked csv
unfolding csv_judged
csv-asked csv = by-verdict (rows-verdict 1 (rows_of csv))
  where
    judged : Verdict → Bool → Answer
    judged v t = judged_as (or_else v (cond t unrefused (Err Uncarried))) (length (rows_of csv))

    by-fit : AllFormed (rows_of csv) → first_bad_row 1 (rows_of csv) ≡ unrefused → (t : Bool) → all_fit (rows_of csv) ≡ t → CsvAsked csv
    by-fit h e true q = accepted h q (ap (λ (v : Verdict). judged v (all_fit (rows_of csv))) e ∙ ap (judged unrefused) q)
    by-fit h e false q = not_carried h q (ap (λ (v : Verdict). judged v (all_fit (rows_of csv))) e ∙ ap (judged unrefused) q)

    by-verdict : RowsVerdict 1 (rows_of csv) → CsvAsked csv
    by-verdict (all-formed h e) = by-fit h e (all_fit (rows_of csv)) refl
    by-verdict (one-bad row field b e) = row_malformed b (ap (λ (v : Verdict). judged v (all_fit (rows_of csv))) e)

-- ---- what refuses a file

-- a fault is one of seventeen
fault-few : (forms : List (List ℕ → Bool)) (n : ℕ) (fs : List (List ℕ)) (ended : Bool) → field_fault forms n fs ended ≤ n + length forms
fault-few [] n [] true = omega arith
fault-few [] n [] false = omega arith
fault-few [] n (f ∷ fs) ended = omega arith
fault-few (form ∷ forms) n [] ended = omega arith
fault-few (form ∷ forms) n (f ∷ fs) ended = by-test (form f) (fault-few forms (suc n) fs ended)
  where
    by-test : (t : Bool) → field_fault forms (suc n) fs ended ≤ suc n + length forms
        → cond t (field_fault forms (suc n) fs ended) n ≤ n + suc (length forms)
    by-test true h = omega (arith, h)
    by-test false h = omega arith

bad-few : {n : ℕ} {rows : List (List ℕ)} {row field : ℕ} → FirstBad n rows row field → (row < n + length rows) × (field ≤ 17)
unfolding row_fault
bad-few {n} (here {row = row} q) = (omega arith, fault-few (forms_for (fields_of row)) 1 (fields_of row) (is_ended row))
bad-few (later q b) = let h = bad-few b in (omega (arith, h.0), h.1)

-- 14 and 15, whatever the file
pub csv-whole : (csv : List ℕ) (file : ℕ) (why : Reason) → csv_judged csv ≡ refusal file why → OfCsv why
csv-whole csv file why e = by-case (csv-asked csv)
  where
    same : {other : Reason} → csv_judged csv ≡ refusal 0 other → other ≡ why
    same {other} q = same-reason (sym q ∙ e)

    by-case : CsvAsked csv → OfCsv why
    by-case (row_malformed {row} {field} b q) =
        let is : BadRow row field ≡ why = same q in subst OfCsv is (lit≤ tt, lit≤ tt)
    by-case (not_carried h l q) = let is : Uncarried ≡ why = same q in subst OfCsv is (lit≤ tt, lit≤ tt)
    by-case (accepted h l q) = absurd (refused-value file (length (rows_of csv)) why (sym e ∙ q))

-- of a file shorter than 4 GiB the refusal fits
pub csv-fits : (csv : List ℕ) → length csv < 4_294_967_296 → Fits (csv_judged csv)
csv-fits csv h = by-case (csv-asked csv)
  where
    by-case : CsvAsked csv → Fits (csv_judged csv)
    by-case (row_malformed {row} {field} b q) =
        let few = bad-few b in
        rw q (record {
          file_fits = lit< tt;
          second_fits = omega (arith, few.1);
          detail_fits = omega (arith, few.0, rows-within csv, h);
        })
    by-case (not_carried f l q) = rw q (record { file_fits = lit< tt; second_fits = lit< tt; detail_fits = lit< tt })
    by-case (accepted f l q) = rw q (omega (arith, rows-within csv, h))

pub csv-says : (csv : List ℕ) → length csv < 4_294_967_296 → (file : ℕ) (why : Reason) → csv_judged csv ≡ refusal file why
    → CsvSays file why
csv-says csv h file why e = record { apart = csv-whole csv file why e; fits = rw e at (csv-fits csv h) }

-- ---- the label of a row

-- the rule is one of two
pub rule-few : (e : Elements) → forbidden_in e ≤ 2
unfolding forbidden_in
rule-few e =
    by_tests (filled e.sub_building && not (filled e.building || present e.number))
    (filled e.dependent && not (filled e.thoroughfare))
  where
    by_tests : (t u : Bool) → cond t 1 (cond u 2 0) ≤ 2
    by_tests true u = lit≤ tt
    by_tests false true = lit≤ tt
    by_tests false false = lit≤ tt

one_of_two : (e : Elements) → (forbidden_in e ≡ 0 → ⊥) → (forbidden_in e ≡ 1) ⊎ (forbidden_in e ≡ 2)
one_of_two e some-rule = by-test (eqb (forbidden_in e) 1) refl
  where
    by-test : (t : Bool) → eqb (forbidden_in e) 1 ≡ t → (forbidden_in e ≡ 1) ⊎ (forbidden_in e ≡ 2)
    by-test true q = inl (eqb-true (forbidden_in e) 1 q)
    by-test false q = inr (omega (arith, rule-few e, eqb-false (forbidden_in e) 1 q, some-rule))

pub csv-label-asked : (csv : List ℕ) (row : ℕ) (out : List ℕ) → CsvLabelAsked csv row out
unfolding csv_label row_label row_resolved
csv-label-asked csv row out = by-judged (csv_judged csv) refl
  where
    by-room : (n : ℕ) → csv_judged csv ≡ Ok n → (bytes : List ℕ) → kth_of (rows_of csv) row ≡ some bytes
        → forbidden_in (elements_for bytes) ≡ 0
        → csv_label csv row out ≡ room_outcome (label_of (elements_for bytes)) out
        → Fitting (label_of (elements_for bytes)) out
        → CsvLabelAsked csv row out
    by-room n e bytes q z is (fits h k) = printed e bytes q z h (is ∙ k)
    by-room n e bytes q z is (short h k) = no_room e bytes q z h (is ∙ k)

    by-rule : (n : ℕ) → csv_judged csv ≡ Ok n → (bytes : List ℕ) → kth_of (rows_of csv) row ≡ some bytes
        → csv_label csv row out
        ≡ label_or
        (some
        (cond (eqb (forbidden_in (elements_for bytes)) 0) (elements (elements_for bytes))
        (refused (Combination (forbidden_in (elements_for bytes)) 0))))
        out
        → (t : Bool)
        → eqb (forbidden_in (elements_for bytes)) 0 ≡ t
        → CsvLabelAsked csv row out
    by-rule n e bytes q is true z =
        by-room n e bytes q (eqb-true (forbidden_in (elements_for bytes)) 0 z) (is ∙ rw z refl) (fitting (label_of (elements_for bytes)) out)
    by-rule n e bytes q is false z =
        forbidden_mix e bytes q (one_of_two (elements_for bytes) (eqb-false (forbidden_in (elements_for bytes)) 0 z)) (is ∙ rw z refl)

    by-found : (n : ℕ) → csv_judged csv ≡ Ok n → (o : Option (List ℕ)) → kth_of (rows_of csv) row ≡ o → CsvLabelAsked csv row out
    by-found n e none q =
        no_number e q (afterwards-value refusal out _ e ∙ ap (λ (o : Option (List ℕ)). label_or (resolved_of o) out) q)
    by-found n e (some bytes) q =
        by-rule n e bytes q (afterwards-value refusal out _ e ∙ ap (λ (o : Option (List ℕ)). label_or (resolved_of o) out) q)
        (eqb (forbidden_in (elements_for bytes)) 0) refl

    by-judged : (j : Answer) → csv_judged csv ≡ j → CsvLabelAsked csv row out
    by-judged (Ok n) e = by-found n e (kth_of (rows_of csv) row) refl
    by-judged (Err r) e = file_refused e (afterwards-refused refusal out _ e)

pub csv-bounded : (csv : List ℕ) → CsvBounded csv
csv-bounded csv n row bytes e q =
    let good = accepted-row csv e row bytes q in
    let slim = row-slim bytes 0 (record { within = omega arith; fault = good.0; fits = good.1 }) in
    record {
      lines = at-most-11-lines (elements_for bytes);
      bytes = slim-499 (elements_for bytes) slim;
      each = slim-lines (elements_for bytes) slim;
    }

pub csv-label-says : (csv : List ℕ) (n : ℕ) → csv_judged csv ≡ Ok n → (k : ℕ) (out : List ℕ)
    → OneOf OfCsvLabel (length (rows_of csv)) k (csv_label csv k out).answer
csv-label-says csv n taken k out = by-case (csv-label-asked csv k out)
  where
    by-case : CsvLabelAsked csv k out → OneOf OfCsvLabel (length (rows_of csv)) k (csv_label csv k out).answer
    by-case (file_refused {file} {why} q is) = absurd (refused-value file n why (sym q ∙ taken))
    by-case (no_number q e is) = rw is (refl, record { apart = inl refl; no-view = refl; small = lit≤ tt })
    by-case (forbidden_mix q bytes e m is) =
        rw is (
          refl,
          record { apart = inr (inl refl); no-view = refl; small = omega (arith, rule-few (elements_for bytes)) },
        )
    by-case (no_room q bytes e z h is) =
        rw is (
          refl,
          record { apart = inr (inr refl); no-view = refl; small = (csv-bounded csv n k bytes taken e).bytes },
        )
    by-case (printed q bytes e z h is) = rw is ((csv-bounded csv n k bytes taken e).bytes, number-few (rows_of csv) k bytes e)

-- ---- an item of a listing

module _ (csv : List ℕ) {n : ℕ} (taken : csv_judged csv ≡ Ok n) where
  row_listed : (row : ℕ) (out : List ℕ) → RowListed csv row out (csv_item csv row out)
  unfolding csv_item row_item row_resolved
  row_listed row out = by-found (kth_of (rows_of csv) row) refl
    where
      found : {o : Option (List ℕ)} → kth_of (rows_of csv) row ≡ o
          → csv_item csv row out ≡ item_outcome (row_line row) (resolved_of o) out
      found q =
          afterwards-value refusal out _ taken
          ∙ ap (λ (o : Option (List ℕ)). item_outcome (row_line row) (resolved_of o) out) q

      by-room : (bytes text : List ℕ) → kth_of (rows_of csv) row ≡ some bytes → UnderRow bytes text
          → csv_item csv row out ≡ room_outcome (row_line row ++ text) out
          → Fitting (row_line row ++ text) out
          → RowListed csv row out (csv_item csv row out)
      by-room bytes text q u is (fits h k) = listed bytes text q u h (is ∙ k)
      by-room bytes text q u is (short h k) = no_room bytes text q u h (is ∙ k)

      by-rule : (bytes : List ℕ) → kth_of (rows_of csv) row ≡ some bytes → (t : Bool)
          → eqb (forbidden_in (elements_for bytes)) 0 ≡ t
          → RowListed csv row out (csv_item csv row out)
      by-rule bytes q true z =
          let label = label_of (elements_for bytes) in
          by-room bytes label q (a_label (eqb-true (forbidden_in (elements_for bytes)) 0 z) refl) (found q ∙ rw z refl)
          (fitting (row_line row ++ label) out)
      by-rule bytes q false z =
          let rule = forbidden_in (elements_for bytes) in
          by-room bytes (refused_as 8 rule) q (a_rule (one_of_two (elements_for bytes) (eqb-false rule 0 z)) refl)
          (found q ∙ (rw z (ap (λ (l : List ℕ). room_outcome (row_line row ++ l) out) (rule-line rule))))
          (fitting (row_line row ++ refused_as 8 rule) out)

      by-found : (o : Option (List ℕ)) → kth_of (rows_of csv) row ≡ o → RowListed csv row out (csv_item csv row out)
      by-found none q = no_number q (found q)
      by-found (some bytes) q = by-rule bytes q (eqb (forbidden_in (elements_for bytes)) 0) refl

  pub rows_listed : InTurn (RowListed csv) (csv_list csv)
  unfolding csv_list
  rows_listed =
      record {
        item = csv_item csv;
        each = row_listed;
        in_turn = λ first count out. afterwards-value refusal out _ taken;
      }

-- ---- runs and listings

module _ (Whole : ℕ → Reason → Type 0) (Kind : Reason → Type 0) (ask : Asking) (csv : List ℕ)
    (whole : (file : ℕ) (why : Reason) → csv_judged csv ≡ refusal file why → Whole file why)
    (each : (n : ℕ) → csv_judged csv ≡ Ok n → (k : ℕ) (o : List ℕ) → LabelSays Kind (length (rows_of csv)) k (ask k o).answer)
    (first count : ℕ) (out : List ℕ) where
  csv-next : SeriesOf Whole Kind (length (rows_of csv))
      (afterwards refusal (csv_judged csv) out (run_from ask first count out)).answer
  csv-next = by-judged (csv_judged csv) refl
    where
      by-judged : (j : Answer) → csv_judged csv ≡ j
          → SeriesOf Whole Kind (length (rows_of csv))
          (afterwards refusal (csv_judged csv) out (run_from ask first count out)).answer
      by-judged (Ok n) e =
          rw (afterwards-value refusal out (run_from ask first count out) e)
          (series-of Whole Kind ask (length (rows_of csv)) (each n e) first count out)
      by-judged (Err r) e =
          rw (afterwards-refused refusal out (run_from ask first count out) e) (whole r.file r.reason e)

module _ (Whole : ℕ → Reason → Type 0) (csv : List ℕ)
    (whole : (file : ℕ) (why : Reason) → csv_judged csv ≡ refusal file why → Whole file why) where
  pub csv-labels-say : (first count : ℕ) (out : List ℕ)
      → SeriesOf Whole (StopOf OfCsvLabel) (length (rows_of csv)) (csv_labels csv first count out).answer
  unfolding csv_labels
  csv-labels-say =
      csv-next Whole (StopOf OfCsvLabel) (csv_label csv) csv whole
      (λ n e k o. one_says OfCsvLabel (length (rows_of csv)) k (csv_label csv k o).answer (csv-label-says csv n e k o))

module _ (Whole : ℕ → Reason → Type 0) (Kind : Reason → Type 0) (none_left : Kind NoSuchNumber) (csv : List ℕ)
    (whole : (file : ℕ) (why : Reason) → csv_judged csv ≡ refusal file why → Whole file why)
    (room : (n : ℕ) → csv_judged csv ≡ Ok n → (k : ℕ) (row : List ℕ) → kth_of (rows_of csv) k ≡ some row
    → Kind (Room (length (row_line k ++ resolved_text (row_resolved row))))) where
  item-says : (n : ℕ) → csv_judged csv ≡ Ok n → (k : ℕ) (out : List ℕ)
      → LabelSays Kind (length (rows_of csv)) k (csv_item csv k out).answer
  unfolding csv_item row_item
  item-says n e k out =
      rw (afterwards-value refusal out (row_item csv k out) e) (by-found (kth_of (rows_of csv) k) refl)
    where
      by-found : (o : Option (List ℕ)) → kth_of (rows_of csv) k ≡ o
          → LabelSays Kind (length (rows_of csv)) k (item_outcome (row_line k) (resolved_of o) out).answer
      by-found none q = none_left
      by-found (some row) q =
          an-item-says Kind (length (rows_of csv)) k (row_line k) out (row_resolved row) (number-few (rows_of csv) k row q)
          (room n e k row q)

  pub csv-list-says : (first count : ℕ) (out : List ℕ)
      → SeriesOf Whole Kind (length (rows_of csv)) (csv_list csv first count out).answer
  unfolding csv_list
  csv-list-says = csv-next Whole Kind (csv_item csv) csv whole item-says

-- ---- the way back

pub way_back : (files : Files) → WayBack (source_of (lent_of files))
way_back (pair_files table points) = record { row = pair-row-back table points; rows = pair-rows-back table points }
way_back (set_files s) = record { row = set-row-back s; rows = set-rows-back s }
