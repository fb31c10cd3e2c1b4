-- The tally of a list of well_formed codes tells what is answered for each code, where that is how often it stands in
-- the list.
-- Assumes nothing.
use Prim.Native.Nat.{ℕ, ◌≤◌, ◌<◌}
use mathlib.Core.Path.{◌≡◌, refl, sym, ap, ◌∙◌}
use mathlib.Core.Bool.{Bool, true, false, cond}
use mathlib.Core.List.{List}
use native.Mathlib.Omega.{arith}
use borrow.Author.Tests.{eq-eqb, eqb-true}
use lib.Dec.{eqb}
use lib.ListN.{length, get_or}
use Rattle.field_outward.specs.Outward.{outward_fault}
use Rattle.refusal.specs.declared.Reason.TheVariants.{BadCode}
use Rattle.refusal.proofs.Answers.{refused-value, same-value}
use Rattle.pack.specs.Numbers.{bytes_of, number_from}
use Rattle.pack_carries.proofs.Numbers.{number-back}
use Rattle.tally.specs.Order.{Each, Climbs}
use Rattle.tally.specs.Tally.{Entry, tally, codes, counts, occurs, count_of}
use Rattle.tally.proofs.Order.{each_at, climbs-at}
use Rattle.tally.proofs.Tallies.{each-tally, codes-climb, counts_some, count-is, count-at, count-found, count-within, total-is, codes-length, counts-length}
use Rattle.tally_bytes.specs.Tells.{code_at, count_at, Stands, Tells}
use Rattle.tally_bytes.proofs.Coded.{Coded, code-back, code_below}
use Rattle.std.specs.Prelude.{Ok}
use Rattle.refusal.specs.Answer.{Answer, refusal}

-- an answer for each code, "12: outward code malformed" or how many there are of it: as many as stand in a list of
-- well_formed codes
pub record Answers (answer : List ℕ → Answer) (all : List ℕ) : Type 0 where
  pub formed : Each Coded all
  pub few : length all < 4_294_967_296
  pub many : List ℕ → ℕ
  pub asked : (code : List ℕ) → answer code ≡ cond (eqb (outward_fault code) 0) (Ok (many code)) (refusal 0 BadCode)
  pub occurring : (code : List ℕ) → outward_fault code ≡ 0 → occurs (number_from 0 code) all ≡ many code

module _ (answer : List ℕ → Answer) (all : List ℕ) (a : Answers answer all) where
  abbrev es : List Entry
  es = tally all

  answered : (code : List ℕ) → outward_fault code ≡ 0 → answer code ≡ Ok (count_of (number_from 0 code) es)
  answered code good =
      a.asked code
      ∙ simp (eq-eqb (outward_fault code) 0 good)
      (ap Ok (sym (a.occurring code good) ∙ sym (count-is (number_from 0 code) all)))

  good-code : (code : List ℕ) (n : ℕ) → answer code ≡ Ok n → outward_fault code ≡ 0
  good-code code n e = by-test (eqb (outward_fault code) 0) refl (sym (a.asked code) ∙ e)
    where
      by-test : (t : Bool) → eqb (outward_fault code) 0 ≡ t
          → cond t (Ok (a.many code)) (refusal 0 BadCode) ≡ Ok n
          → outward_fault code ≡ 0
      by-test true h e = eqb-true (outward_fault code) 0 h
      by-test false h e = absurd (refused-value 0 n BadCode e)

  climbing : Climbs (codes es)
  climbing = codes-climb all

  each-coded : (k : ℕ) → k < length es → Coded (get_or (codes es) k 0)
  each-coded k h = each_at Coded (codes es) k (omega (arith, codes-length es)) (each-tally Coded all a.formed)

  missing-none : (code : List ℕ) (n : ℕ) → answer code ≡ Ok n → 1 ≤ n → Stands code es
  missing-none code n e some =
      let good = good-code code n e in
      let many : n ≡ count_of (number_from 0 code) es =
      same-value n (count_of (number_from 0 code) es) (sym e ∙ answered code good) in
      let f = count-found (number_from 0 code) es (omega arith) in
      record { place = f.place; within = f.within; is = ap (bytes_of 4) f.is ∙ code-back code good }

  pub tally-tells : Tells answer all es
  tally-tells =
      record {
        rising = λ j k h l.
            code_below (get_or (codes es) j 0) (get_or (codes es) k 0) (each-coded j (omega arith)) (each-coded k l)
            (climbs-at (codes es) j k climbing h (omega (arith, codes-length es)));
        each = λ k h.
            answered (code_at es k) (each-coded k h).well_formed
            ∙ ap Ok (ap (λ c. count_of c es) (each-coded k h).back ∙ count-at es k climbing h);
        some = λ k h. each_at (λ n. 1 ≤ n) (counts es) k (omega (arith, counts-length es)) (counts_some all);
        held = λ k h.
            number-back 4 (count_at es k) (omega (arith, count-within es k, total-is all, a.few));
        none_missing = missing-none;
        all_counted = total-is all;
      }
