-- Rows that were written, read back as a file: it is accepted, and each row prints the label of what it was written from,
-- except exactly where something is lost.
-- Assumes nothing.
use Prim.Native.Nat.{ℕ, suc}
use mathlib.Core.Path.{◌≡◌, sym, ap, subst, ◌∙◌}
use mathlib.Core.Bool.{true}
use mathlib.Core.List.{List, [], ◌∷◌, ◌++◌, append-nil}
use mathlib.Core.Option.{some}
use native.Mathlib.Omega.{arith}
use lib.ListN.{length}
use Rattle.refusal.proofs.Outcomes.{answer-of}
use Rattle.source.specs.Address.{Elements}
use Rattle.source.specs.Resolve.{elements}
use Rattle.label.specs.Label.{label_of, room_outcome}
use Rattle.label.proofs.Room.{Fitting, fits, short, fitting}
use Rattle.csv_paf.specs.Row.{row_fields}
use Rattle.csv_paf.specs.File.{rows_of, csv_judged}
use Rattle.csv_paf.specs.Ask.{row_elements, kth_of, resolved_of, row_label, csv_label}
use Rattle.csv_paf.proofs.Rows.{rows_none}
use Rattle.csv_paf.proofs.Forms.{AllFine, file-fine}
use Rattle.csv_back.specs.Back.{lost, Prints, Entry, row_in, file_of, ElementsSound, Writable, AllWritable, PrintsEntry, RowBack, FileAccepted, FileBack}
use Rattle.csv_back.proofs.Labels.{plain_of, label_same, label-longer}
use Rattle.csv_back.proofs.Entries.{elements-back, entry-rows, entry-fine, entry-says}
use Rattle.std.specs.Prelude.{Ok}
use Rattle.refusal.proofs.Answers.{same-reason}

-- ---- a row of a file that says these elements

-- what is asked for into one buffer has one length
room-length : (a b out : List ℕ) → room_outcome a out ≡ room_outcome b out → length a ≡ length b
room-length a b out e = by_cases (fitting a out) (fitting b out)
  where
    by_cases : Fitting a out → Fitting b out → length a ≡ length b
    by_cases (fits h p) (fits k q) = let z = sym (answer-of p) ∙ (answer-of e ∙ answer-of q) in cc
    by_cases (fits h p) (short k q) = let z = sym (answer-of p) ∙ (answer-of e ∙ answer-of q) in cc
    by_cases (short h p) (fits k q) = let z = sym (answer-of p) ∙ (answer-of e ∙ answer-of q) in cc
    by_cases (short h p) (short k q) = let z = same-reason (sym (answer-of p) ∙ (answer-of e ∙ answer-of q)) in cc

module _ (csv : List ℕ) (k : ℕ) (e : Elements) {n : ℕ} (accepted : csv_judged csv ≡ Ok n) (says : resolved_of (kth_of (rows_of csv) k) ≡ some (elements (plain_of e))) where
  label-said : (out : List ℕ) → csv_label csv k out ≡ room_outcome (label_of (plain_of e)) out
  unfolding csv_label row_label
  label-said out = rw (accepted, says)

  prints-back : {type : ℕ} → ElementsSound type e → Prints csv k (lost e) (room_outcome (label_of e))
  prints-back {type} s =
      record {
        same = λ kept out. label-said out ∙ ap (λ (t : List ℕ). room_outcome t out) (label_same type e s kept);
        other =
            λ gone out is.
            omega (
              arith,
              label-longer type e s gone,
              room-length (label_of (plain_of e)) (label_of e) out (sym (label-said out) ∙ is),
            );
      }

-- ---- files

all-fine : (ws : List Entry) → AllWritable ws → AllFine (rows_of (file_of ws))
all-fine [] h = rw rows_none tt
all-fine (w ∷ ws) h =
    rw (entry-rows w h.0 (file_of ws)) (entry-fine w h.0 (file_of ws), all-fine ws h.1)

rows-many : (ws : List Entry) → AllWritable ws → length (rows_of (file_of ws)) ≡ length ws
rows-many [] h = rw rows_none
rows-many (w ∷ ws) h = rw (entry-rows w h.0 (file_of ws)) (ap suc (rows-many ws h.1))

pub file-accepted : FileAccepted
file-accepted ws h = file-fine (file_of ws) (all-fine ws h) ∙ ap Ok (rows-many ws h)

kth-says : (before : List Entry) (w : Entry) (behind : List Entry) → AllWritable (before ++ (w ∷ behind))
    → resolved_of (kth_of (rows_of (file_of (before ++ (w ∷ behind)))) (suc (length before)))
    ≡ some (elements (plain_of w.printed))
kth-says [] w behind h =
    rw (entry-rows w h.0 (file_of behind)) (ap some (entry-says w h.0 (file_of behind)))
kth-says (b ∷ before) w behind h =
    rw (entry-rows b h.0 (file_of (before ++ (w ∷ behind)))) (kth-says before w behind h.1)

-- one of them
pub one-writable : (before : List Entry) (w : Entry) (behind : List Entry) → AllWritable (before ++ (w ∷ behind))
    → Writable w
one-writable [] w behind h = h.0
one-writable (b ∷ before) w behind h = one-writable before w behind h.1

pub file-back : FileBack
file-back before w behind h =
    let ws = before ++ (w ∷ behind) in
    prints-back (file_of ws) (suc (length before)) w.printed (file-accepted ws h) (kth-says before w behind h)
    (one-writable before w behind h).sound.texts

-- ---- one row

pub row_back : RowBack
row_back w ok =
    let alone : file_of (w ∷ []) ≡ row_in w = append-nil (row_in w) in (
      subst (λ (csv : List ℕ). csv_judged csv ≡ Ok 1) alone (file-accepted (w ∷ []) (ok, tt)),
      subst (λ (csv : List ℕ). PrintsEntry csv 1 w) alone (file-back [] w [] (ok, tt)),
    )

-- where something is lost, what the row says has another label
pub label-lost : (w : Entry) → Writable w → lost w.printed ≡ true
    → label_of (row_elements (row_fields w.type w.indicator w.suffix w.printed)) ≡ label_of w.printed
    → ⊥
label-lost w ok gone is =
    let longer = label-longer w.type w.printed ok.sound.texts gone in
    let same : label_of (plain_of w.printed) ≡ label_of w.printed = sym (ap label_of (elements-back w ok)) ∙ is in
    omega (arith, ap length same)
