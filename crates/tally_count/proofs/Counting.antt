-- Runs of equal codes, counted one by one.
-- Assumes nothing.
use Prim.Native.Nat.{ℕ, suc, ◌+◌, ◌-◌, ◌≤◌, ◌<◌}
use mathlib.Core.Path.{◌≡◌, refl, sym, ap, subst, ◌∙◌}
use mathlib.Core.Bool.{Bool, true, false}
use mathlib.Core.List.{List, [], ◌∷◌, ◌++◌, append_assoc, append-nil}
use native.Mathlib.Omega.{arith}
use native.Mathlib.Numerals.{add-one}
use native.Mathlib.Nat.{add-zero}
use borrow.Author.Tests.{eqb-true, eqb-false}
use lib.Dec.{eqb}
use lib.ListN.{length, get_or, drop, set, replicate, length-append, length-drop, drop_of_length-le}
use lib.Seq.{drop-cons, set_at, drop-drop, drop-append-add, get_or-drop}
use Rattle.tally.specs.Order.{sorted, Least, Rises}
use Rattle.tally.specs.Tally.{Entry, tally, codes, counts}
use Rattle.tally.proofs.Order.{least-down}
use Rattle.tally.proofs.Tallies.{tally-sorted, tally-run, codes-length, counts-length}
use Rattle.tally_count.specs.Counted.{repeats, Counted}

-- a rising list, by its first run
record Run (x : ℕ) (xs : List ℕ) : Type 0 where
  is : xs ≡ replicate (repeats x xs) x ++ drop (repeats x xs) xs
  above : Least (suc x) (drop (repeats x xs) xs)
  rising : Rises (drop (repeats x xs) xs)

run_of : (x : ℕ) (xs : List ℕ) → Least x xs → Rises xs → Run x xs
run_of x [] m r = record { is = refl; above = tt; rising = tt }
run_of x (y ∷ xs) m r = by-test (eqb y x) refl (run_of x xs m.1 r.1)
  where
    by-test : (t : Bool) → eqb y x ≡ t → Run x xs → Run x (y ∷ xs)
    by-test true e later =
        let same : y ≡ x = eqb-true y x e in
        record { is = simp e (rw same (ap (x ∷◌) later.is)); above = simp e later.above; rising = simp e later.rising }
    by-test false e later =
        let higher : x < y = let ne = eqb-false y x e in omega (arith, m.0) in
        record { is = simp e; above = simp e (higher, least-down (suc x) y xs higher r.0); rising = simp e r }

-- what stands in the entries, of two lists of them
codes-append : (es fs : List Entry) → codes (es ++ fs) ≡ codes es ++ codes fs
codes-append [] fs = refl
codes-append (e ∷ es) fs = ap (e.code ∷◌) (codes-append es fs)

counts-append : (es fs : List Entry) → counts (es ++ fs) ≡ counts es ++ counts fs
counts-append [] fs = refl
counts-append (e ∷ es) fs = ap (e.count ∷◌) (counts-append es fs)

-- a number more in the front of a list
more-front : (front list : List ℕ) (k x : ℕ) → length front ≡ k → k < length list
    → set (front ++ drop k list) k x ≡ (front ++ (x ∷ [])) ++ drop (k + 1) list
more-front front list k x e h =
    ap (λ l. set (front ++ l) k x) (drop-cons list k 0 h)
    ∙ (set_at front (get_or list k 0) (drop (suc k) list) x k e
    ∙ rw (add-one k) (sym (append_assoc front (x ∷ []) (drop (suc k) list))))

-- so many entries stand for the codes before i
pub record Counting (list two : List ℕ) (one' two' : List ℕ) (k i : ℕ) : Type 0 where
  pub done : List Entry
  pub all : tally list ≡ done ++ tally (drop i list)
  pub size : length done ≡ k
  pub low : k ≤ i
  pub high : i ≤ length list
  pub rising : Rises (drop i list)
  pub its_codes : one' ≡ codes done ++ drop k list
  pub its_counts : two' ≡ counts done ++ drop k two

pub counting-start : (list two : List ℕ) → Rises list → Counting list two list two 0 0
counting-start list two r =
    record {
      done = [];
      all = refl;
      size = refl;
      low = omega arith;
      high = omega arith;
      rising = r;
      its_codes = refl;
      its_counts = refl;
    }

module _ {list two one' two' : List ℕ} {k i : ℕ} (g : Counting list two one' two' k i) where
  front-size : length (codes g.done) ≡ k
  front-size = codes-length g.done ∙ g.size

  pub ones-long : length one' ≡ length list
  ones-long =
      ap length g.its_codes
      ∙ (length-append (codes g.done) (drop k list) ∙ omega (arith, front-size, length-drop k list, g.low, g.high))

  pub twos-long : length list ≤ length two → length two' ≡ length two
  twos-long h =
      ap length g.its_counts
      ∙ (length-append (counts g.done) (drop k two)
      ∙ omega (arith, counts-length g.done, g.size, length-drop k two, g.low, g.high))

  -- the codes from i on are not written over
  pub still : (j : ℕ) → i ≤ j → drop j one' ≡ drop j list
  still j h =
      let place : length (codes g.done) + (j - k) ≡ j = omega (arith, front-size, g.low) in
      let there : k + (j - k) ≡ j = omega (arith, g.low) in
      ap (drop j) g.its_codes
      ∙ (ap (λ n. drop n (codes g.done ++ drop k list)) (sym place)
      ∙ (drop-append-add (codes g.done) (drop k list) (j - k)
      ∙ (drop-drop (j - k) k list ∙ ap (λ n. drop n list) there)))

  pub still-at : get_or one' i 0 ≡ get_or list i 0
  still-at =
      ap (λ n. get_or one' n 0) (sym (add-zero i))
      ∙ (sym (get_or-drop i one' 0 0)
      ∙ (ap (λ l. get_or l 0 0) (still i (omega arith)) ∙ (get_or-drop i list 0 0 ∙ ap (λ n. get_or list n 0) (add-zero i))))

  -- one run more
  module _ (h : i < length list) (end : ℕ)
      (is : end ≡ i + 1 + repeats (get_or one' i 0) (drop (i + 1) one')) (within : end ≤ length list)
      (room : length list ≤ length two) where
    abbrev x : ℕ
    x = get_or list i 0

    abbrev rest : List ℕ
    rest = drop (suc i) list

    here : drop i list ≡ x ∷ rest
    here = drop-cons list i 0 h

    run : Run x rest
    run = let r = subst Rises here g.rising in run_of x rest r.0 r.1

    many : end ≡ suc i + repeats x rest
    many =
        is
        ∙ rw (still-at, still (i + 1) (omega arith), add-one i) refl

    behind : drop (repeats x rest) rest ≡ drop end list
    behind = drop-drop (repeats x rest) (suc i) list ∙ ap (λ n. drop n list) (sym many)

    counted : tally (drop i list) ≡ record { code = x; count = suc (repeats x rest) } ∷ tally (drop end list)
    counted =
        ap tally (here ∙ ap (x ∷◌) run.is)
        ∙ (tally-run x (repeats x rest) (drop (repeats x rest) rest) run.above ∙ rw behind refl)

    pub counting-on : Counting list two (set one' k (get_or one' i 0)) (set two' k (end - i)) (k + 1) end
    counting-on =
        let e : Entry = record { code = x; count = suc (repeats x rest) } in
        let size : end - i ≡ suc (repeats x rest) = omega (arith, many) in
        record {
          done = g.done ++ (e ∷ []);
          all = g.all ∙ (ap (g.done ++◌) counted ∙ sym (append_assoc g.done (e ∷ []) (tally (drop end list))));
          size = length-append g.done (e ∷ []) ∙ omega (arith, g.size);
          low = omega (arith, g.low, many);
          high = within;
          rising = subst Rises behind run.rising;
          its_codes =
              rw (still-at, g.its_codes)
              (more-front (codes g.done) list k x front-size (omega (arith, g.low))
              ∙ ap (◌++ drop (k + 1) list) (sym (codes-append g.done (e ∷ []))));
          its_counts =
              rw (g.its_counts, size)
              (more-front (counts g.done) two k (suc (repeats x rest)) (counts-length g.done ∙ g.size)
              (omega (arith, g.low))
              ∙ ap (◌++ drop (k + 1) two) (sym (counts-append g.done (e ∷ []))));
        }

  -- no code is left
  pub counting-end : length list ≤ i → Counted list list two k one' two'
  counting-end h =
      let all : tally list ≡ g.done =
      g.all ∙ (ap (λ l. g.done ++ tally l) (drop_of_length-le list {i = i} h) ∙ append-nil g.done) in
      record {
        entries = sym g.size ∙ ap length (sym all);
        its_codes = g.its_codes ∙ ap (λ es. codes es ++ drop k list) (sym all);
        its_counts = g.its_counts ∙ ap (λ es. counts es ++ drop k two) (sym all);
      }

-- codes that were put in order have the entries that they had
pub counted-sorted : {list x y one two : List ℕ} {r : ℕ} (beside : List ℕ) → x ≡ sorted list → y ≡ beside
    → Counted x x y r one two
    → Counted list (sorted list) beside r one two
counted-sorted {list} {x} {y} {r = r} beside e f k =
    let same : tally x ≡ tally list = ap tally e ∙ tally-sorted list in
    record {
      entries = k.entries ∙ ap length same;
      its_codes =
          k.its_codes ∙ (ap (λ es. codes es ++ drop r x) same ∙ ap (λ l. codes (tally list) ++ drop r l) e);
      its_counts =
          k.its_counts ∙ (ap (λ es. counts es ++ drop r y) same ∙ ap (λ l. counts (tally list) ++ drop r l) f);
    }
