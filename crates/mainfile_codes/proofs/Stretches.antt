-- The codes of an accepted address file are its stretches of equal codes: from any record on, the first entry is that
-- record's code, with the records up to the first that is above it.
-- Assumes nothing.
use Prim.Native.Nat.{ℕ, zero, suc, ◌+◌, ◌-◌, ◌≤◌, ◌<◌}
use mathlib.Core.Path.{◌≡◌, refl, sym, ap, subst, ◌∙◌}
use mathlib.Core.Bool.{Bool, true, false}
use mathlib.Core.List.{List, [], ◌∷◌, ◌++◌}
use native.Mathlib.Omega.{arith}
use native.Mathlib.Nat.{add-zero}
use borrow.Author.Tests.{eqb-true, ltb-true, ltb-false}
use lib.Dec.{ltb}
use lib.ListN.{length, replicate}
use Rattle.field.specs.Text.{part}
use Rattle.field_outward.specs.Outward.{outward_fault}
use Rattle.file_record.specs.Parts.{record_at}
use Rattle.file_compare.specs.Order.{order}
use Rattle.file_compare.proofs.Order.{order_same, order-bound, order-equal}
use Rattle.file.specs.Accepted.{Accepted}
use Rattle.file.specs.Mainfile.{addresses}
use Rattle.file.proofs.Laws.{at-least-two, within-limit}
use Rattle.mainfile_addresses.proofs.Laws.{good-outward}
use Rattle.shelf.proofs.Bisect.{Least}
use Rattle.mainfile_views.specs.Range.{rank, rank_at, last_of, views_in, end_in}
use Rattle.mainfile_views.proofs.Together.{rank_same, never-falls, least}
use Rattle.pack.specs.Numbers.{number_from, number_at}
use Rattle.tally.specs.Order.{Least as NoneBelow}
use Rattle.tally.specs.Tally.{Entry, tally}
use Rattle.tally.proofs.Tallies.{tally-run, tally-few}
use Rattle.tally_bytes.proofs.Coded.{code-above}
use Rattle.mainfile_codes.specs.Codes.{code_in, codes_from, all_codes, codes_in}

-- what stands above another
rank-above : (o : ℕ) → o ≤ 2 → 1 < rank o → o ≡ 2
rank-above zero h k = absurd (omega arith)
rank-above (suc zero) h k = absurd (omega arith)
rank-above (suc (suc zero)) h k = refl
rank-above (suc (suc (suc o))) h k = absurd (omega arith)

-- ---- any records

module _ (file : List ℕ) where
  -- k records of one code, and others behind them
  codes-run : (c k m i : ℕ) → ((j : ℕ) → i ≤ j → j < i + k → code_in file j ≡ c)
      → codes_from file (k + m) i ≡ replicate k c ++ codes_from file m (i + k)
  codes-run c zero m i same = let size : 0 + m ≡ m = omega arith in rw (size, add-zero i) refl
  codes-run c (suc k) m i same =
      let size : suc k + m ≡ suc (k + m) = omega arith in
      let place : i + suc k ≡ suc i + k = omega arith in
      let here : code_in file i ≡ c = same i (omega arith) (omega arith) in
      rw (size, place, here)
      (ap (c ∷◌) (codes-run c k m (suc i) (λ j low high. same j (omega arith) (omega arith))))

  codes-none-below : (c m i : ℕ) → ((j : ℕ) → i ≤ j → j < i + m → c ≤ code_in file j) → NoneBelow c (codes_from file m i)
  codes-none-below c zero i above = tt
  codes-none-below c (suc m) i above = (
    above i (omega arith) (omega arith),
    codes-none-below c m (suc i) (λ j low high. above j (omega arith) (omega arith)),
  )

  pub codes-many : (k i : ℕ) → length (codes_from file k i) ≡ k
  codes-many zero i = refl
  codes-many (suc k) i = ap suc (codes-many k (suc i))

  -- the entries from record i on
  abbrev pub entries_from : ℕ → List Entry
  entries_from i = tally (codes_from file (last_of file - i) i)

  pub entries-end : (i : ℕ) → last_of file ≤ i → entries_from i ≡ []
  entries-end i h = let none : last_of file - i ≡ 0 = omega arith in rw none refl

-- from record i to the first that is above its code: its entry stands before those from there on
pub record Onward (file : List ℕ) (i end : ℕ) : Type 0 where
  pub further : i < end
  pub within : end ≤ last_of file
  pub entries : entries_from file i ≡ record { code = code_in file i; count = end - i } ∷ entries_from file end

-- ---- an accepted file

module _ (file : List ℕ) (a : Accepted addresses file) where
  pub last-is : last_of file ≡ views_in file + 1
  last-is = omega (arith, at-least-two addresses file a.is_whole)

  pub entries-start : entries_from file 1 ≡ codes_in file
  entries-start = let all : last_of file - 1 ≡ views_in file = omega (arith, last-is) in rw all refl

  -- no more codes than records
  pub all-few : length (all_codes file) ≤ 1_000_000
  all-few = omega (arith, codes-many file (views_in file) 1, within-limit addresses file a.is_whole)

  pub entries-few : length (codes_in file) ≤ 1_000_000
  entries-few = omega (arith, tally-few (all_codes file), all-few)

  abbrev pub outward_at : ℕ → List ℕ
  outward_at i = part (record_at 88 file i) 0 4

  pub outward_good : (i : ℕ) → 1 ≤ i → i < last_of file → outward_fault (outward_at i) ≡ 0
  outward_good i low high = good-outward (record_at 88 file i) (a.each i low (omega arith)).well_formed

  pub code_is : (i : ℕ) → code_in file i ≡ number_from 0 (outward_at i)
  unfolding number_at
  code_is i = refl

  module _ (i : ℕ) (low : 1 ≤ i) (high : i < last_of file) where
    abbrev code : List ℕ
    code = outward_at i

    abbrev end : ℕ
    end = end_in file code

    bound : Least (λ j. ltb 1 (rank_at file code j)) 1 (last_of file) end
    unfolding end_in
    bound = least file code a 1

    own : rank_at file code i ≡ 1
    own = rw (order_same code) refl

    end-behind : i < end
    end-behind = by-test (ltb i end) refl
      where
        by-test : (t : Bool) → ltb i end ≡ t → i < end
        by-test true e = ltb-true i end e
        by-test false e =
            absurd (omega (arith, own, ltb-true 1 (rank_at file code i) (bound.passes i (ltb-false i end e) high)))

    end-within : end ≤ last_of file
    end-within = bound.to

    same_code : (j : ℕ) → i ≤ j → j < end → code_in file j ≡ code_in file i
    same_code j from to =
        let not-above = ltb-false 1 (rank_at file code j) (bound.fails j (omega arith) to) in
        let not-below = never-falls file code a i j low from (omega (arith, end-within)) in
        let same = rank_same (order (outward_at j) code) (omega (arith, own, not-above, not-below)) in
        let is = order-equal (outward_at j) code (eqb-true (order (outward_at j) code) 0 same) in
        code_is j ∙ (ap (number_from 0) is ∙ sym (code_is i))

    higher-code : (j : ℕ) → end ≤ j → j < last_of file → suc (code_in file i) ≤ code_in file j
    higher-code j from to =
        let over = ltb-true 1 (rank_at file code j) (bound.passes j from to) in
        let is = rank-above (order (outward_at j) code) (order-bound (outward_at j) code) over in
        rw (code_is i, code_is j)
        (code-above (outward_at j) code (outward_good j (omega (arith, end-behind)) to) (outward_good i low high) is)

    -- the first of them, and those behind it
    entries-on : entries_from file i ≡ record { code = code_in file i; count = end - i } ∷ entries_from file end
    entries-on =
        let more = end - i - 1 in
        let many : end - i ≡ suc more = omega (arith, end-behind) in
        let size : last_of file - i ≡ suc more + (last_of file - end) = omega (arith, end-behind, end-within) in
        let place : i + suc more ≡ end = omega (arith, end-behind) in
        let rest = codes_from file (last_of file - end) end in
        let run : codes_from file (last_of file - i) i ≡ replicate (suc more) (code_in file i) ++ rest =
        ap (λ k. codes_from file k i) size
        ∙ (codes-run file (code_in file i) (suc more) (last_of file - end) i (λ j from to. same_code j from (omega arith))
        ∙ ap (λ p. replicate (suc more) (code_in file i) ++ codes_from file (last_of file - end) p) place) in
        ap tally run
        ∙ (tally-run (code_in file i) more rest
        (codes-none-below file (suc (code_in file i)) (last_of file - end) end
        (λ j from to. higher-code j from (omega (arith, end-within))))
        ∙ ap (λ (n : ℕ). record { code = code_in file i; count = n } ∷ tally rest) (sym many))

    pub onward : (r : ℕ) → r ≡ end → Onward file i r
    onward r is =
        subst (Onward file i) (sym is) record { further = end-behind; within = end-within; entries = entries-on }
