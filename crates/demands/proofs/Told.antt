-- The number of a call, and the bytes of a run, tell what it says.
-- Assumes nothing.
use Prim.Native.Nat.{ℕ, ◌≤◌}
use mathlib.Core.Path.{◌≡◌, refl, sym, ap, ◌∙◌}
use mathlib.Core.List.{List}
use mathlib.Core.Logic.{⊎_elim}
use native.Mathlib.Omega.{arith}
use native.Mathlib.Nat.{mod-eq_of_lt}
use lib.Dec.{lit<}
use Rattle.refusal.specs.Refusal.{number, detail, second}
use Rattle.refusal.specs.Packed.{FitsRefusal}
use Rattle.refusal.specs.declared.Reason.{Reason}
use Rattle.refusal.proofs.Answers.{refused-value, same-value}
use Rattle.refusal.proofs.Lossless.{FitsWord, word-plain, word-parts, refusal-word, number-above-0, number-to-28, same-reason, loses-nothing}
use Rattle.run.specs.Packed.{packed_series, series_bytes}
use Rattle.call.specs.Call.{Call, Saying, one, run, outcome_of}
use Rattle.demands.specs.Apart.{OfLabel, OfWhole, OfBook, OfItem, SeriesApart, BookApart}
use Rattle.demands.specs.Fits.{FitsSeries, told_series, as_told, Exception, Typed, Tells, SameTold}
use Rattle.demands.specs.Csv.{OfRow, OfCsvLabel, OfCsv, RunApart, ForCsv, rows_written, rows_printed, rows_listed, Alike}
use Rattle.demands.proofs.Apart.{book-apart, csv-apart}
use Rattle.demands.proofs.Fits.{tells}
use Rattle.std.specs.Prelude.{Ok, Err}
use Rattle.refusal.specs.Answer.{Answer, refusal}
use Rattle.run.specs.Series.{Series}
use Rattle.run.specs.declared.Run.TheVariants.{Stopped, Done}

-- what is told of a stop fits a word
stop-word : (labels bytes : ℕ) (why : Reason) → FitsSeries (Ok (Stopped labels bytes why))
    → FitsWord (number why) 0 labels (detail why)
stop-word labels bytes why fits =
    record {
      number_fits = omega (arith, number-to-28 why);
      file_fits = lit< tt;
      second_fits = fits.0;
      detail_fits = fits.1.1;
    }

-- a label's refusal is not one of the whole, and no value
abbrev Disjoint : (Whole Stop : Reason → Type 0) → Type 0
Disjoint Whole Stop = (why other : Reason) → Stop why → Whole other → number why ≡ number other → ⊥

label-disjoint : Disjoint OfWhole OfLabel
label-disjoint why other label whole same =
    ⊎_elim (λ (h : number other ≤ 6). omega (arith, label.0, same))
    (λ (h : (11 ≤ number other) × (number other ≤ 12)). omega (arith, label.1, h.0, same)) whole

book-disjoint : Disjoint OfBook OfLabel
book-disjoint why other label whole same =
    ⊎_elim (λ (h : OfWhole other). label-disjoint why other label h same)
    (λ (h : number other ≡ 28). omega (arith, label.1, h, same)) whole

row-disjoint : Disjoint OfWhole OfRow
row-disjoint why other stop whole same =
    ⊎_elim (λ (label : OfLabel why). label-disjoint why other label whole same)
    (λ (h : number why ≡ 15).
    ⊎_elim (λ (low : number other ≤ 6). omega (arith, h, same))
    (λ (low : (11 ≤ number other) × (number other ≤ 12)). omega (arith, low.1, h, same)) whole)
    stop

csv-disjoint : Disjoint OfCsv OfLabel
csv-disjoint why other label whole same = omega (arith, label.1, whole.0, same)

-- no key of a row is missing: 9 is none of its stops
csv-label-disjoint : Disjoint OfCsv OfCsvLabel
csv-label-disjoint why other stop =
    csv-disjoint why other
    (⊎_elim (λ (h : number why ≡ 7). (omega arith, omega arith))
    (⊎_elim (λ (h : number why ≡ 8). (omega arith, omega arith)) (λ (h : number why ≡ 10). (omega arith, omega arith))) stop)

item-disjoint : Disjoint OfCsv OfItem
item-disjoint why other item whole same =
    ⊎_elim (λ (h : number why ≡ 7). omega (arith, h, whole.0, same)) (λ (h : number why ≡ 10). omega (arith, h, whole.0, same))
    item

module _ (Whole Stop : Reason → Type 0) (disjoint : Disjoint Whole Stop) where
  stop-unasked : (labels bytes file : ℕ) (why other : Reason) → FitsSeries (Ok (Stopped labels bytes why)) → FitsRefusal file other
      → Stop why
      → Whole other
      → packed_series (Ok (Stopped labels bytes why)) ≡ packed_series (refusal file other)
      → ⊥
  stop-unasked labels bytes file why other p q label whole e =
      let same =
      word-parts (number why) 0 labels (detail why) (number other) file (second other) (detail other)
      (stop-word labels bytes why p) (refusal-word file other q) e in
      disjoint why other label whole same.number_same

stop-done : (labels bytes done others : ℕ) (why : Reason) → FitsSeries (Ok (Stopped labels bytes why))
    → FitsSeries (Ok (Done done others))
    → packed_series (Ok (Stopped labels bytes why)) ≡ packed_series (Ok (Done done others))
    → ⊥
stop-done labels bytes done others why p q e =
    omega (
      arith,
      number-above-0 why,
      sym (word-plain (number why) 0 labels (detail why) (stop-word labels bytes why p)) ∙ (e ∙ mod-eq_of_lt q),
    )

-- an answer as a run that is not asked
abbrev unasked : Answer → Series
unasked (Ok n) = Ok (Done n 0)
unasked (Err r) = refusal r.file r.reason

-- two runs that fit, told by number and bytes
module _ (Whole Stop : Reason → Type 0) (disjoint : Disjoint Whole Stop) where
  series-told : (before : ℕ) (s t : Series) → FitsSeries s → FitsSeries t → SeriesApart Whole Stop s
      → SeriesApart Whole Stop t
      → SameTold before (run s) (run t)
      → s ≡ t
  series-told before (Err r) (Err refused-by) p q a b e =
      ap unasked (loses-nothing (refusal r.file r.reason) (refusal refused-by.file refused-by.reason) p q e.0)
  series-told before (Err r) (Ok (Stopped l c v)) p q a b e = absurd (stop-unasked Whole Stop disjoint l c r.file v r.reason q p b a (sym e.0))
  series-told before (Err r) (Ok (Done l c)) p q a b e =
      absurd (refused-value r.file l r.reason (loses-nothing (refusal r.file r.reason) (Ok l) p q e.0))
  series-told before (Ok (Stopped l c v)) (Err r) p q a b e = absurd (stop-unasked Whole Stop disjoint l c r.file v r.reason p q a b e.0)
  series-told before (Ok (Stopped l c v)) (Ok (Stopped m d w)) p q a b e =
      let same =
      word-parts (number v) 0 l (detail v) (number w) 0 m (detail w) (stop-word l c v p) (stop-word m d w q) e.0 in
      rw (
        same.second-same,
        e.1,
        same-reason v w same.number_same same.detail-same (p.1.0 ∙ sym q.1.0),
      )
  series-told before (Ok (Stopped l c v)) (Ok (Done m d)) p q a b e = absurd (stop-done l c m d v p q e.0)
  series-told before (Ok (Done m d)) (Err r) p q a b e =
      absurd (refused-value r.file m r.reason (sym (loses-nothing (Ok m) (refusal r.file r.reason) p q e.0)))
  series-told before (Ok (Done m d)) (Ok (Stopped l c v)) p q a b e = absurd (stop-done l c m d v q p (sym e.0))
  series-told before (Ok (Done l c)) (Ok (Done m d)) p q a b e =
      rw (same-value l m (loses-nothing (Ok l) (Ok m) p q e.0), e.1)

-- what is told has the bytes of what was said, and is a stop where that is one
told-bytes : (before : ℕ) (s : Series) → series_bytes (told_series s) before ≡ series_bytes s before
told-bytes before (Err r) = refl
told-bytes before (Ok (Stopped labels bytes why)) = refl
told-bytes before (Ok (Done labels bytes)) = refl

told-kind : (Whole Stop : Reason → Type 0) (s : Series) → SeriesApart Whole Stop s → SeriesApart Whole Stop (told_series s)
told-kind Whole Stop (Err r) h = h
told-kind Whole Stop (Ok (Stopped labels bytes why)) h = h
told-kind Whole Stop (Ok (Done labels bytes)) h = h

runs-told : (Whole Stop : Reason → Type 0) → Disjoint Whole Stop → (before : ℕ) (call other : Call) (s t : Series)
    → Tells call (run s)
    → Tells other (run t)
    → SeriesApart Whole Stop s
    → SeriesApart Whole Stop t
    → SameTold before (run s) (run t)
    → as_told (run s) ≡ as_told (run t)
runs-told Whole Stop disjoint before call other s t p q x y e =
    ap run
    (series-told Whole Stop disjoint before (told_series s) (told_series t) p.fits q.fits (told-kind Whole Stop s x)
    (told-kind Whole Stop t y) (
      sym p.number ∙ (e.0 ∙ q.number),
      told-bytes before s ∙ (e.1 ∙ sym (told-bytes before t)),
    ))

sayings-told : (before : ℕ) (call other : Call) (a b : Saying) → Tells call a → Tells other b → BookApart a → BookApart b
    → SameTold before a b
    → as_told a ≡ as_told b
sayings-told before call other (one a) (one b) p q x y e = ap one (loses-nothing a b p.fits q.fits e)
sayings-told before call other (one a) (run t) p q x y e = absurd e
sayings-told before call other (run s) (one b) p q x y e = absurd e
sayings-told before call other (run s) (run t) p q x y e =
    runs-told OfBook OfLabel book-disjoint before call other s t p q x y e

csv-told : (Whole Stop : Reason → Type 0) → Disjoint Whole Stop → (before : ℕ) (call other : Call) (a b : Saying)
    → Tells call a
    → Tells other b
    → RunApart Whole Stop a
    → RunApart Whole Stop b
    → SameTold before a b
    → as_told a ≡ as_told b
csv-told Whole Stop disjoint before call other (one a) b p q x y e = absurd x
csv-told Whole Stop disjoint before call other (run s) (one b) p q x y e = absurd y
csv-told Whole Stop disjoint before call other (run s) (run t) p q x y e =
    runs-told Whole Stop disjoint before call other s t p q x y e

-- two inputs of a call that are told the same: what is told of both is one
module _ (call other : Call) (c : Typed call) (d : Typed other) (out another : List ℕ) (before : ℕ)
    (e : SameTold before (outcome_of call out).answer (outcome_of other another).answer) where
  module _ (plain : ForCsv call → ⊥) (plain' : ForCsv other → ⊥) where
    pub same-told : as_told (outcome_of call out).answer ≡ as_told (outcome_of other another).answer
    same-told =
        sayings-told before call other (outcome_of call out).answer (outcome_of other another).answer
        (tells call c out) (tells other d another) (book-apart call plain out) (book-apart other plain' another) e

    -- and so is what they say
    pub same-said : (Exception call → ⊥) → (Exception other → ⊥)
        → (outcome_of call out).answer ≡ (outcome_of other another).answer
    same-said none none' = sym ((tells call c out).all none) ∙ (same-told ∙ (tells other d another).all none')

-- the same of the runs and the listing for CSV PAF
pub csv-same-told : (call other : Call) (r : ForCsv call) (q : ForCsv other) → Alike r q → Typed call → Typed other
    → (out another : List ℕ) (before : ℕ)
    → SameTold before (outcome_of call out).answer (outcome_of other another).answer
    → as_told (outcome_of call out).answer ≡ as_told (outcome_of other another).answer
csv-same-told call other rows_written rows_written alike c d out another before e =
    csv-told OfWhole OfRow row-disjoint before call other _ _ (tells call c out) (tells other d another)
    (csv-apart call rows_written out) (csv-apart other rows_written another) e
csv-same-told call other rows_written rows_printed alike c d out another before e = absurd alike
csv-same-told call other rows_written rows_listed alike c d out another before e = absurd alike
csv-same-told call other rows_printed rows_written alike c d out another before e = absurd alike
csv-same-told call other rows_printed rows_printed alike c d out another before e =
    csv-told OfCsv OfCsvLabel csv-label-disjoint before call other _ _ (tells call c out) (tells other d another)
    (csv-apart call rows_printed out) (csv-apart other rows_printed another) e
csv-same-told call other rows_printed rows_listed alike c d out another before e = absurd alike
csv-same-told call other rows_listed rows_written alike c d out another before e = absurd alike
csv-same-told call other rows_listed rows_printed alike c d out another before e = absurd alike
csv-same-told call other rows_listed rows_listed alike c d out another before e =
    csv-told OfCsv OfItem item-disjoint before call other _ _ (tells call c out) (tells other d another)
    (csv-apart call rows_listed out) (csv-apart other rows_listed another) e

pub csv-same-said : (call other : Call) (r : ForCsv call) (q : ForCsv other) → Alike r q → (c : Typed call) (d : Typed other)
    → (out another : List ℕ) (before : ℕ)
    → SameTold before (outcome_of call out).answer (outcome_of other another).answer
    → (Exception call → ⊥)
    → (Exception other → ⊥)
    → (outcome_of call out).answer ≡ (outcome_of other another).answer
csv-same-said call other r q alike c d out another before e none none' =
    sym ((tells call c out).all none)
    ∙ (csv-same-told call other r q alike c d out another before e ∙ (tells other d another).all none')
