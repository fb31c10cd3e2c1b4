-- Demand 3, over any source that a pack can be cut from.
-- Assumes nothing.
use Prim.Native.Nat.{ℕ, ◌≤◌}
use mathlib.Core.Path.{◌≡◌, refl, sym, ap, subst, ◌∙◌}
use mathlib.Core.Bool.{Bool, true, false}
use mathlib.Core.List.{List, [], ◌∷◌, ◌++◌}
use borrow.Author.Tests.{eq-eqb, eqb-true, eqb-false}
use lib.Dec.{eqb}
use lib.ListN.{length, take, drop}
use lib.Seq.{take-append_seam}
use Rattle.field_outward.specs.Outward.{outward_fault}
use Rattle.refusal.specs.declared.Reason.{Reason}
use Rattle.refusal.specs.declared.Reason.TheVariants.{BadCode}
use Rattle.refusal.specs.Outcome.{said}
use Rattle.refusal.proofs.Answers.{refused-value, same-value}
use Rattle.refusal.proofs.Outcomes.{answer-of, memory-of, afterwards-value}
use Rattle.source.specs.Address.{Lookup, Address}
use Rattle.source.specs.Resolve.{forbidden, missing, elements_of, elements, resolve}
use Rattle.source.proofs.Cases.{Resolving, mixed, lacking, fine, resolving}
use Rattle.label.proofs.Room.{Fitting, fits, short, fitting}
use Rattle.run.proofs.Same.{same-run}
use Rattle.item.specs.Item.{Heading}
use Rattle.ask.specs.Source.{Source}
use Rattle.ask.specs.Labels.{code_label}
use Rattle.ask.specs.Runs.{code_run}
use Rattle.ask.specs.Lists.{code_item, code_listed}
use Rattle.ask.proofs.Laws.{by-good-code, by-bad-code, by-refused}
use Rattle.pack.specs.Layout.{used_by}
use Rattle.pack.specs.Opening.{opened}
use Rattle.pack.specs.Points.{pack_label, pack_item}
use Rattle.pack.specs.Cutting.{first_bad, cut_with, cut_outcome, pack_built}
use Rattle.pack.specs.Sound.{Sound}
use Rattle.pack_runs.specs.Runs.{pack_run}
use Rattle.pack_items.specs.Lists.{pack_listed}
use Rattle.pack_carries.proofs.Used.{used-exactly, used-rises}
use Rattle.pack_carries.proofs.Carried.{pack-says, pack-opens}
use Rattle.pack_carries.proofs.Labels.{pack-labels, pack-items, pack-suffixes, pack-sectors}
use Rattle.pack_carries.proofs.Exactly.{rows-exactly}
use Rattle.demands.specs.Two.{Printed}
use Rattle.demands.specs.Three.{Packable, AllPrinted, FirstRefused, here, later, packed, whole, Building, files_refused, code_refused, view_refused, too_short, built, Carries}
use Rattle.std.specs.Prelude.{Ok, Err}
use Rattle.refusal.specs.Answer.{Answer, refusal}
use Rattle.refusal.specs.Verdict.{Verdict, fine as unrefused}

-- ---- which view is refused

-- the first refusal, or none
data First (look : Lookup) (views : List Address) : Type 0 where
  none_refused : AllPrinted look views → first_bad look views ≡ unrefused → First look views
  one-refused : (why : Reason) → FirstRefused look views why → first_bad look views ≡ Err why → First look views

first : (look : Lookup) (views : List Address) → First look views
first look [] = none_refused tt refl
first look (a ∷ more) = by-case (resolving look a) (first look more)
  where
    by-case : Resolving look a → First look more → First look (a ∷ more)
    by-case (mixed n e) rest = one-refused _ (here e) (rw e)
    by-case (lacking m n e) rest = one-refused _ (here e) (rw e)
    by-case (fine m n e) (none_refused ps q) = none_refused ((m, n), ps) (rw (e, q))
    by-case (fine m n e) (one-refused why r q) = one-refused why (later (m, n) r) (rw (e, q))

-- ---- what building comes to

module _ (s : Source) (code out : List ℕ) where
  pub building : Building s code out
  unfolding pack_built cut_outcome
  building = by-judged s.judged refl
    where
      cut : {n : ℕ} → s.judged ≡ Ok n → outward_fault code ≡ 0 → (v : Verdict)
          → first_bad s.look (packed s code) ≡ v
          → pack_built s code out ≡ cut_with v (whole s code) out
      cut taken clean v e =
          by-good-code refusal code out _ s taken clean ∙ ap (λ (v : Verdict). cut_with v (whole s code) out) e

      by-room : {n : ℕ} → s.judged ≡ Ok n → outward_fault code ≡ 0 → AllPrinted s.look (packed s code)
          → first_bad s.look (packed s code) ≡ unrefused
          → Fitting (whole s code) out
          → Building s code out
      by-room taken clean ps e (fits h is) = built taken clean ps h (cut taken clean unrefused e ∙ is)
      by-room taken clean ps e (short h is) = too_short taken clean ps h (cut taken clean unrefused e ∙ is)

      by-view : {n : ℕ} → s.judged ≡ Ok n → outward_fault code ≡ 0 → First s.look (packed s code)
          → Building s code out
      by-view taken clean (none_refused ps e) = by-room taken clean ps e (fitting (whole s code) out)
      by-view taken clean (one-refused why r e) = view_refused taken clean r (cut taken clean (Err why) e)

      by_code : {n : ℕ} → s.judged ≡ Ok n → (t : Bool) → eqb (outward_fault code) 0 ≡ t → Building s code out
      by_code taken true e =
          by-view taken (eqb-true (outward_fault code) 0 e) (first s.look (packed s code))
      by_code taken false e =
          let fault = eqb-false (outward_fault code) 0 e in
          code_refused taken fault (bad-is taken fault)
        where
          bad-is : {n : ℕ} → s.judged ≡ Ok n → (outward_fault code ≡ 0 → ⊥)
              → pack_built s code out ≡ said (refusal 0 BadCode) out
          bad-is taken fault = by-bad-code refusal code out _ s taken fault

      by-judged : (j : Answer) → s.judged ≡ j → Building s code out
      by-judged (Ok n) e = by_code e (eqb (outward_fault code) 0) refl
      by-judged (Err r) e = files_refused e (refused-is e)
        where
          refused-is : s.judged ≡ refusal r.file r.reason → pack_built s code out ≡ said (refusal r.file r.reason) out
          refused-is e = by-refused refusal code out _ s e

  -- what is built is the pack, in front of the buffer
  pub record Built (n : ℕ) : Type 0 where
    pub count : ℕ
    pub taken : s.judged ≡ Ok count
    pub clean : outward_fault code ≡ 0
    pub printed : AllPrinted s.look (packed s code)
    pub long : n ≡ length (whole s code)
    pub room : length (whole s code) ≤ length out
    pub front : take n (pack_built s code out).memory ≡ whole s code

  pub built-then : (n : ℕ) → (pack_built s code out).answer ≡ Ok n → Built n
  built-then n e = by-case building
    where
      no : (file : ℕ) (why : Reason) → pack_built s code out ≡ said (refusal file why) out → Built n
      no file why is = absurd (refused-value file n why (sym (answer-of is) ∙ e))

      by-case : Building s code out → Built n
      by-case (files_refused t is) = no _ _ is
      by-case (code_refused t f is) = no _ _ is
      by-case (view_refused t c r is) = no _ _ is
      by-case (too_short t c p h is) = no _ _ is
      by-case (built t c p h is) =
          let long : n ≡ length (whole s code) = sym (same-value _ n (sym (answer-of is) ∙ e)) in
          record {
            count = _;
            taken = t;
            clean = c;
            printed = p;
            long = long;
            room = h;
            front =
                ap (take n) (memory-of is)
                ∙ (ap (λ (k : ℕ). take k (whole s code ++ drop (length (whole s code)) out)) long
                ∙ take-append_seam (whole s code) (drop (length (whole s code)) out));
          }

-- ---- what a pack carries

pub printed-resolves : (look : Lookup) (a : Address) → Printed look a → resolve look a ≡ elements (elements_of look a)
unfolding resolve
printed-resolves look a p = rw (eq-eqb (forbidden a) 0 p.0, eq-eqb (missing look a) 0 p.1)

pub all-fine : (look : Lookup) (views : List Address) → AllPrinted look views → first_bad look views ≡ unrefused
all-fine look [] p = refl
all-fine look (a ∷ more) p = rw (printed-resolves look a p.0, all-fine look more p.1)

module _ (s : Source) (p : Packable s) (code : List ℕ) {n : ℕ} (taken : s.judged ≡ Ok n)
    (clean : outward_fault code ≡ 0) (printed : AllPrinted s.look (packed s code)) where
  sound : Sound s.look (packed s code) code
  sound = p.sound taken code clean (all-fine s.look (packed s code) printed)

  opens : opened (whole s code) ≡ Ok (length (packed s code))
  opens = pack-opens s.look (packed s code) code sound

  labels : (k : ℕ) (out : List ℕ) → pack_label (whole s code) k out ≡ code_label s code k out
  unfolding code_label
  labels k out =
      pack-labels s.look (packed s code) code sound k out ∙ sym (by-good-code refusal code out _ s taken clean)

  runs : (first count : ℕ) (out : List ℕ) → pack_run (whole s code) first count out ≡ code_run s code first count out
  unfolding pack_run code_run
  runs first count out =
      afterwards-value refusal out _ opens
      ∙ (same-run _ _ labels count first out ∙ sym (by-good-code refusal code out _ s taken clean))

  items : (heading : Heading) (k : ℕ) (out : List ℕ) → pack_item heading (whole s code) k out ≡ code_item heading s code k out
  unfolding code_item
  items heading k out =
      pack-items s.look (packed s code) code sound heading k out ∙ sym (by-good-code refusal code out _ s taken clean)

  lists : (heading : Heading) (first count : ℕ) (out : List ℕ)
      → pack_listed heading (whole s code) first count out ≡ code_listed heading s code first count out
  unfolding pack_listed code_listed
  lists heading first count out =
      afterwards-value refusal out _ opens
      ∙ (same-run _ _ (items heading) count first out ∙ sym (by-good-code refusal code out _ s taken clean))

  pub whole_carries : Carries s code (whole s code)
  whole_carries =
      record {
        of_edition = (pack-says s.look (packed s code) code sound).of_edition;
        opens = opens;
        labels = labels;
        runs = runs;
        lists = lists;
        suffixes = pack-suffixes s.look (packed s code) code sound;
        sectors = pack-sectors s.look (packed s code) code sound;
        rows =
            record {
              numbers = used_by (packed s code);
              once = used-rises (packed s code);
              no_other = λ r. used-exactly r (packed s code);
              held = rows-exactly s.look (packed s code) code sound;
            };
      }

-- what building leaves in front of the buffer carries what the source says
pub carries : (s : Source) → Packable s → (code out : List ℕ) (n : ℕ) → (pack_built s code out).answer ≡ Ok n
    → Carries s code (take n (pack_built s code out).memory)
carries s p code out n e =
    let b = built-then s code out n e in
    subst (Carries s code) (sym b.front) (whole_carries s p code b.taken b.clean b.printed)
