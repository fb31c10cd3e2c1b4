-- The rows of the views of a source, one or a run of them, read back.
-- Assumes nothing.
use Prim.Native.Nat.{ℕ, zero, suc, ◌+◌, ◌<◌}
use mathlib.Core.Path.{◌≡◌, refl, sym, ap, subst, ◌∙◌}
use mathlib.Core.Bool.{Bool, true, false, cond}
use mathlib.Core.List.{List, [], ◌∷◌, ◌++◌}
use mathlib.Core.Option.{Option, none, some}
use native.Mathlib.Omega.{arith}
use lib.ListN.{length, take, drop}
use lib.Seq.{take-append-add}
use Rattle.refusal.specs.declared.Reason.TheVariants.{NoSuchNumber, Uncarried}
use Rattle.refusal.specs.Outcome.{Outcome, said, afterwards}
use Rattle.refusal.proofs.Answers.{refused-value}
use Rattle.refusal.proofs.Outcomes.{answer-of, memory-of, afterwards-value, afterwards-refused}
use Rattle.run.specs.Packed.{series_bytes}
use Rattle.run.specs.Series.{behind, go_on, run_from}
use Rattle.source.specs.Address.{Address, Elements}
use Rattle.source.specs.Resolve.{Resolved, elements, refused, resolve}
use Rattle.label.specs.Label.{label_of, room_outcome}
use Rattle.label.proofs.Room.{room-value, room-front}
use Rattle.ask.specs.Source.{Source}
use Rattle.ask.specs.Labels.{kth, kth_label, view_label}
use Rattle.ask.proofs.Kth.{kth-all}
use Rattle.csv_paf.specs.Row.{carried, written_outcome, row_of, row_outcome, row_or, kth_row, view_row, view_rows}
use Rattle.csv_paf.specs.File.{csv_judged}
use Rattle.csv_back.specs.Back.{lost, Entry, row_in, file_of, Writable, AllWritable, PrintsEntry, entry_of, ViewSound, ViewsSound, lost_view, PrintsView, ViewBack, series_rows, written_file, RunBack}
use Rattle.csv_back.proofs.Files.{file-accepted, file-back, row_back}
use Rattle.std.specs.Prelude.{Ok, Err}
use Rattle.refusal.specs.Answer.{Answer, refusal}
use Rattle.run.specs.Series.{Series}
use Rattle.run.specs.declared.Run.TheVariants.{Stopped, Done}

module _ (s : Source) where
  -- a row was written from a view
  record Wrote (view : ℕ) (w : Entry) : Type 0 where
    address : Address
    there : kth s.views view ≡ some address
    resolved : resolve s.look address ≡ elements w.printed
    writable : Writable w

  -- a row that was written, with its bytes
  record Asked (view bytes : ℕ) (memory : List ℕ) : Type 0 where
    from : Entry
    wrote : Wrote view from
    long : bytes ≡ length (row_in from)
    front : take bytes memory ≡ row_in from

  -- rows from a view on
  abbrev AllWrote : ℕ → List Entry → Type 0
  AllWrote k [] = Unit {0}
  AllWrote k (w ∷ ws) = Wrote k w × AllWrote (suc k) ws

  all-writable : (k : ℕ) (ws : List Entry) → AllWrote k ws → AllWritable ws
  all-writable k [] h = tt
  all-writable k (w ∷ ws) h = (h.0.writable, all-writable (suc k) ws h.1)

  -- so many rows from a view on were written in so many bytes
  record Ran (k rows bytes : ℕ) (memory : List ℕ) : Type 0 where
    ws : List Entry
    wrote : AllWrote k ws
    many : rows ≡ length ws
    file : take bytes memory ≡ file_of ws

  none-ran : (k : ℕ) (memory : List ℕ) → Ran k 0 0 memory
  none-ran k memory = record { ws = []; wrote = tt; many = refl; file = refl }

  one_more : (k b l c : ℕ) (written m : List ℕ) → Asked k b written → Ran (suc k) l c m
      → Ran k (1 + l) (b + c) (take b written ++ m)
  one_more k b l c written m asked later =
      let row = row_in asked.from in
      record {
        ws = asked.from ∷ later.ws;
        wrote = (asked.wrote, later.wrote);
        many = omega (arith, later.many);
        file =
            rw (asked.front, asked.long)
            (take-append-add row m c ∙ ap (λ (z : List ℕ). row ++ z) later.file);
      }

  abbrev RanAs : ℕ → Outcome Series → Type 0
  RanAs k r = Ran k (series_rows r.answer) (series_bytes r.answer 0) r.memory

  then-ran : (k b : ℕ) (written : List ℕ) (next : Series) (m : List ℕ) → Asked k b written
      → RanAs (suc k) (said next m)
      → RanAs k (said (behind 1 b next) (take b written ++ m))
  then-ran k b written (Err r) m asked later = none-ran k (take b written ++ m)
  then-ran k b written (Ok (Stopped l c why)) m asked later = one_more k b l c written m asked later
  then-ran k b written (Ok (Done l c)) m asked later = one_more k b l c written m asked later

  -- the row behind j others
  record Split (k j : ℕ) (ws : List Entry) : Type 0 where
    before : List Entry
    here : Entry
    behind : List Entry
    is : ws ≡ before ++ (here ∷ behind)
    many : length before ≡ j
    wrote : Wrote (k + j) here

  split-here : (k : ℕ) (w : Entry) (ws : List Entry) → Wrote k w → Split k 0 (w ∷ ws)
  split-here k w ws h =
      record {
        before = [];
        here = w;
        behind = ws;
        is = refl;
        many = refl;
        wrote = rw (let z : k + 0 ≡ k = omega arith in z) h;
      }

  split-later : (k j : ℕ) (w : Entry) (ws : List Entry) → Split (suc k) j ws → Split k (suc j) (w ∷ ws)
  split-later k j w ws later =
      record {
        before = w ∷ later.before;
        here = later.here;
        behind = later.behind;
        is = ap (λ (z : List Entry). w ∷ z) later.is;
        many = ap suc later.many;
        wrote = rw (let z : k + suc j ≡ suc k + j = omega arith in z) later.wrote;
      }

  split : (k j : ℕ) (ws : List Entry) → AllWrote k ws → j < length ws → Split k j ws
  split k j [] h less = absurd (omega arith)
  split k zero (w ∷ ws) h less = split-here k w ws h.0
  split k (suc j) (w ∷ ws) h less = split-later k j w ws (split (suc k) j ws h.1 (omega arith))

  module _ {n : ℕ} (accepted : s.judged ≡ Ok n) where
    -- ---- the label of such a view

    module _ (view : ℕ) (w : Entry) (wrote : Wrote view w) where
      view-label : (out : List ℕ) → view_label s view out ≡ room_outcome (label_of w.printed) out
      unfolding view_label kth_label
      view-label out = rw (accepted, wrote.there, wrote.resolved)

      view-lost : lost_view s view ≡ lost w.printed
      unfolding lost_view
      view-lost = rw (wrote.there, wrote.resolved)

      prints-view : (csv : List ℕ) (row : ℕ) → PrintsEntry csv row w → PrintsView csv row s view
      prints-view csv row p =
          record {
            same = λ kept out. p.same (sym view-lost ∙ kept) out ∙ sym (view-label out);
            other = λ gone out is. p.other (sym view-lost ∙ gone) out (is ∙ view-label out);
          }

    -- ---- one row

    module _ (sound : ViewsSound s) where
      module _ (view : ℕ) (out : List ℕ) (b : ℕ) where
        carried-asked : (a : Address) (e : Elements) → kth s.views view ≡ some a → resolve s.look a ≡ elements e
            → (t : Bool)
            → carried e ≡ t
            → (cond t (room_outcome (row_of a e) out) (said (refusal 0 Uncarried) out)).answer ≡ Ok b
            → Asked view b (cond t (room_outcome (row_of a e) out) (said (refusal 0 Uncarried) out)).memory
        carried-asked a e there is true c z =
            record {
              from = entry_of a e;
              wrote =
                  record {
                    address = a;
                    there = there;
                    resolved = is;
                    writable =
                        record {
                          sound = kth-all (ViewSound s.look) s.views view a (sound n accepted) there e is;
                          not_refused = c;
                        };
                  };
              long = (room-value (row_of a e) out b z).long;
              front = room-front (row_of a e) out b z;
            }
        carried-asked a e there is false c z = absurd (refused-value 0 b Uncarried z)

        resolved-asked : (a : Address) (r : Resolved) → kth s.views view ≡ some a → resolve s.look a ≡ r
            → (row_outcome a r out).answer ≡ Ok b
            → Asked view b (row_outcome a r out).memory
        unfolding written_outcome
        resolved-asked a (elements e) there is z = carried-asked a e there is (carried e) refl z
        resolved-asked a (refused why) there is z = absurd (refused-value 0 b why z)

        option-asked : (o : Option Address) → kth s.views view ≡ o → (row_or s.look o out).answer ≡ Ok b
            → Asked view b (row_or s.look o out).memory
        option-asked none there z = absurd (refused-value 0 b NoSuchNumber z)
        option-asked (some a) there z = resolved-asked a (resolve s.look a) there refl z

        row-asked : (view_row s view out).answer ≡ Ok b → Asked view b (view_row s view out).memory
        unfolding view_row kth_row
        row-asked =
            rw (afterwards-value refusal out (row_or s.look (kth s.views view) out) accepted)
            (option-asked (kth s.views view) refl)

      accepted-back : (view bytes : ℕ) (out memory : List ℕ) → view_row s view out ≡ said (Ok bytes) memory
          → (csv_judged (take bytes memory) ≡ Ok 1) × PrintsView (take bytes memory) 1 s view
      accepted-back view bytes out memory e =
          let asked = row-asked view out bytes (answer-of e) in
          let w = asked.from in
          let row : take bytes memory ≡ row_in w = ap (λ (m : List ℕ). take bytes m) (sym (memory-of e)) ∙ asked.front in
          let back = row_back w asked.wrote.writable in
          rw row (back.0, prints-view view w asked.wrote (row_in w) 1 back.1)

      -- ---- a run

      ran : (count k : ℕ) (out : List ℕ) → RanAs k (run_from (view_row s) k count out)
      ran zero k out = none-ran k out
      ran (suc count) k out = by_answer (view_row s k out).answer refl (λ left. ran count (suc k) left)
        where
          by_answer : (r : Answer) → (view_row s k out).answer ≡ r
              → ((left : List ℕ) → RanAs (suc k) (run_from (view_row s) (suc k) count left))
              → RanAs k (go_on r (view_row s k out).memory (λ left. run_from (view_row s) (suc k) count left))
          by_answer (Ok b) e later =
              let written = (view_row s k out).memory in
              let next = run_from (view_row s) (suc k) count (drop b written) in
              then-ran k b written next.answer next.memory (row-asked k out b e) (later (drop b written))
          by_answer (Err r) e later = none-ran k (view_row s k out).memory

      split-prints : (k j : ℕ) (ws : List Entry) → AllWritable ws → Split k j ws
          → PrintsView (file_of ws) (suc j) s (k + j)
      split-prints k j ws all p =
          let back = file-back p.before p.here p.behind (subst AllWritable p.is all) in
          prints-view (k + j) p.here p.wrote (file_of ws) (suc j)
          (subst (λ (m : ℕ). PrintsEntry (file_of ws) (suc m) p.here) p.many
          (subst (λ (l : List Entry). PrintsEntry (file_of l) (suc (length p.before)) p.here) (sym p.is) back))

      run-back : (first : ℕ) (r : Outcome Series) → RanAs first r
          → (csv_judged (written_file r) ≡ Ok (series_rows r.answer))
          × ((j : ℕ) → j < series_rows r.answer → PrintsView (written_file r) (suc j) s (first + j))
      run-back first r run =
          let all = all-writable first run.ws run.wrote in (
            rw (run.file, run.many) (file-accepted run.ws all),
            λ j less.
                rw run.file
                (split-prints first j run.ws all (split first j run.ws run.wrote (omega (arith, run.many)))),
          )

-- ---- of any source whose views are sound, accepted or not

module _ (s : Source) (sound : ViewsSound s) where
  pub view-back : ViewBack s
  unfolding view_row
  view-back view bytes out memory e = by-judged s.judged refl
    where
      by-judged : (r : Answer) → s.judged ≡ r
          → (csv_judged (take bytes memory) ≡ Ok 1) × PrintsView (take bytes memory) 1 s view
      by-judged (Ok n) taken = accepted-back s taken sound view bytes out memory e
      by-judged (Err r) taken =
          let not-asked = answer-of (afterwards-refused refusal out _ taken) in
          absurd (refused-value r.file bytes r.reason (sym not-asked ∙ answer-of e))

  pub rows_back : RunBack s
  unfolding view_rows
  rows_back first count out = by-judged s.judged refl
    where
      run : Outcome Series
      run = run_from (view_row s) first count out

      by-judged : (r : Answer) → s.judged ≡ r
          → (csv_judged (written_file (afterwards refusal r out run)) ≡ Ok (series_rows (afterwards refusal r out run).answer))
          × ((j : ℕ) → j < series_rows (afterwards refusal r out run).answer
          → PrintsView (written_file (afterwards refusal r out run)) (suc j) s (first + j))
      by-judged (Ok n) taken = run-back s taken sound first run (ran s taken sound count first out)
      by-judged (Err r) taken = (file-accepted [] tt, λ j less. absurd (omega arith))
