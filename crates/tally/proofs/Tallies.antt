-- Laws of tallies: the order of adding does not matter, codes rise and stand once, counts are those of the list, and the
-- tally of a rising list is its runs.
-- Assumes nothing.
use Prim.Native.Nat.{ℕ, zero, suc, ◌+◌, ◌≤◌, ◌<◌}
use mathlib.Core.Path.{◌≡◌, refl, sym, ap, ◌∙◌}
use mathlib.Core.Bool.{Bool, true, false, cond}
use mathlib.Core.List.{List, [], ◌∷◌, ◌++◌}
use mathlib.Core.Logic.{⊎_elim}
use native.Mathlib.Omega.{arith}
use native.Mathlib.Nat.{eq-or-lt_of_le}
use borrow.Author.Tests.{lt-ltb, le-ltb, ltb-true, ltb-false, eq-eqb, ne_eqb, eqb-true}
use lib.Dec.{ltb, eqb}
use lib.ListN.{length, get_or, replicate}
use Rattle.tally.specs.Order.{insert, sorted, Each, Least, Climbs}
use Rattle.tally.specs.Tally.{Entry, more, add, tally, codes, counts, occurs, count_of, total}
use Rattle.tally.proofs.Order.{put-by, least-down, each_at}

abbrev entry : ℕ → ℕ → Entry
entry c n = record { code = c; count = n }

-- where so many of a code go, by the first entry
module _ (c n : ℕ) (e : Entry) (es : List Entry) where
  past : e.code < c → add c n (e ∷ es) ≡ e ∷ add c n es
  past h = simp (lt-ltb e.code c h)

  same : e.code ≡ c → add c n (e ∷ es) ≡ more n e ∷ es
  same h = simp (le-ltb e.code c (omega arith), eq-eqb e.code c h)

  new : c < e.code → add c n (e ∷ es) ≡ entry c n ∷ e ∷ es
  new h = simp (le-ltb e.code c (omega arith), ne_eqb e.code c (λ q. omega arith))

-- the first of two numbers is below, the same or above
by_order : (P : Type 0) (a b : ℕ) → (a < b → P) → (a ≡ b → P) → (b < a → P) → P
by_order P a b f g h = by-test (ltb a b) refl
  where
    by-test : (t : Bool) → ltb a b ≡ t → P
    by-test true e = f (ltb-true a b e)
    by-test false e = ⊎_elim (λ (q : b ≡ a). g (sym q)) (λ (q : b < a). h q) (eq-or-lt_of_le (ltb-false a b e))

add-by : (P : List Entry → Type 0) (c n : ℕ) (e : Entry) (es : List Entry) → (e.code < c → P (e ∷ add c n es))
    → (e.code ≡ c → P (more n e ∷ es)) → (c < e.code → P (entry c n ∷ e ∷ es)) → P (add c n (e ∷ es))
add-by P c n e es f g h =
    by_order (P (add c n (e ∷ es))) e.code c (λ q. rw (past c n e es q) (f q)) (λ q. rw (same c n e es q) (g q))
    (λ q. rw (new c n e es q) (h q))

-- two codes are added, one after the other
module _ (c m d n : ℕ) where
  -- both before the first entry, or where there is none
  both : (es : List Entry) → add c m es ≡ entry c m ∷ es → add d n es ≡ entry d n ∷ es
      → add c m (entry d n ∷ es) ≡ add d n (entry c m ∷ es)
  both es p q =
      by_order (add c m (entry d n ∷ es) ≡ add d n (entry c m ∷ es)) c d
      (λ h. new c m (entry d n) es h ∙ sym (past d n (entry c m) es h ∙ ap (entry c m ∷◌) q))
      (λ h. same c m (entry d n) es (sym h) ∙ (twice h ∙ sym (same d n (entry c m) es h)))
      (λ h. (past c m (entry d n) es h ∙ ap (entry d n ∷◌) p) ∙ sym (new d n (entry c m) es h))
    where
      twice : c ≡ d → more m (entry d n) ∷ es ≡ more n (entry c m) ∷ es
      twice h = rw (h, let z : n + m ≡ m + n = omega arith in z)

  -- the one before the first entry or to it, the other behind it
  apart : (e : Entry) (es : List Entry) → e.code < c → d ≤ e.code
      → add c m (add d n (e ∷ es)) ≡ add d n (add c m (e ∷ es))
  apart e es h k =
      ⊎_elim
      (λ (q : d ≡ e.code).
      (ap (add c m) (same d n e es (sym q)) ∙ past c m (more n e) es h)
      ∙ sym (ap (add d n) (past c m e es h) ∙ same d n e (add c m es) (sym q)))
      (λ (q : d < e.code).
      (ap (add c m) (new d n e es q)
      ∙ (past c m (entry d n) (e ∷ es) (omega arith) ∙ ap (entry d n ∷◌) (past c m e es h)))
      ∙ sym (ap (add d n) (past c m e es h) ∙ new d n e (add c m es) q))
      (eq-or-lt_of_le k)

  -- the one before the first entry, the other to it
  beside : (e : Entry) (es : List Entry) → e.code ≡ c → d < e.code
      → add c m (add d n (e ∷ es)) ≡ add d n (add c m (e ∷ es))
  beside e es h k =
      (ap (add c m) (new d n e es k)
      ∙ (past c m (entry d n) (e ∷ es) (omega arith) ∙ ap (entry d n ∷◌) (same c m e es h)))
      ∙ sym (ap (add d n) (same c m e es h) ∙ new d n (more m e) es k)

  -- both to the first entry
  together : (e : Entry) (es : List Entry) → e.code ≡ c → e.code ≡ d
      → add c m (add d n (e ∷ es)) ≡ add d n (add c m (e ∷ es))
  together e es h k =
      (ap (add c m) (same d n e es k) ∙ same c m (more n e) es h)
      ∙ (rw (let z : e.count + n + m ≡ e.count + m + n = omega arith in z) refl
      ∙ sym (ap (add d n) (same c m e es h) ∙ same d n (more m e) es k))

pub add-add : (c m d n : ℕ) (es : List Entry) → add c m (add d n es) ≡ add d n (add c m es)
add-add c m d n [] = both c m d n [] refl refl
add-add c m d n (e ∷ es) =
    by_order (add c m (add d n (e ∷ es)) ≡ add d n (add c m (e ∷ es))) e.code c
    (λ h. by_order _ e.code d
    (λ k. (ap (add c m) (past d n e es k) ∙ (past c m e (add d n es) h ∙ ap (e ∷◌) (add-add c m d n es)))
    ∙ sym (ap (add d n) (past c m e es h) ∙ past d n e (add c m es) k))
    (λ k. apart c m d n e es h (omega arith)) (λ k. apart c m d n e es h (omega arith)))
    (λ h. by_order _ e.code d (λ k. sym (apart d n c m e es k (omega arith))) (λ k. together c m d n e es h k)
    (λ k. beside c m d n e es h k))
    (λ h. by_order _ e.code d (λ k. sym (apart d n c m e es k (omega arith)))
    (λ k. sym (beside d n c m e es k h))
    (λ k. ap (add c m) (new d n e es k)
    ∙ (both c m d n (e ∷ es) (new c m e es h) (new d n e es k) ∙ ap (add d n) (sym (new c m e es h)))))

-- so the order of the list does not matter
tally-insert : (x : ℕ) (xs : List ℕ) → tally (insert x xs) ≡ add x 1 (tally xs)
tally-insert x [] = refl
tally-insert x (y ∷ xs) =
    put-by (λ l. tally l ≡ add x 1 (add y 1 (tally xs))) x y xs
    (λ h. ap (add y 1) (tally-insert x xs) ∙ add-add y 1 x 1 (tally xs)) (λ h. refl)

pub tally-sorted : (xs : List ℕ) → tally (sorted xs) ≡ tally xs
tally-sorted [] = refl
tally-sorted (x ∷ xs) = tally-insert x (sorted xs) ∙ ap (add x 1) (tally-sorted xs)

-- codes rise, each once
each-add : (P : ℕ → Type 0) (c n : ℕ) (es : List Entry) → P c → Each P (codes es) → Each P (codes (add c n es))
each-add P c n [] h m = (h, tt)
each-add P c n (e ∷ es) h m =
    add-by (λ l. Each P (codes l)) c n e es (λ q. (m.0, each-add P c n es h m.1)) (λ q. m) (λ q. (h, m))

pub each-tally : (P : ℕ → Type 0) (xs : List ℕ) → Each P xs → Each P (codes (tally xs))
each-tally P [] m = tt
each-tally P (x ∷ xs) m = each-add P x 1 (tally xs) m.0 (each-tally P xs m.1)

climbs-add : (c n : ℕ) (es : List Entry) → Climbs (codes es) → Climbs (codes (add c n es))
climbs-add c n [] r = (tt, tt)
climbs-add c n (e ∷ es) r =
    add-by (λ l. Climbs (codes l)) c n e es
    (λ q. (each-add (λ y. suc e.code ≤ y) c n es q r.0, climbs-add c n es r.1)) (λ q. r)
    (λ q. ((q, least-down (suc c) (suc e.code) (codes es) (omega arith) r.0), r))

pub codes-climb : (xs : List ℕ) → Climbs (codes (tally xs))
codes-climb [] = tt
codes-climb (x ∷ xs) = climbs-add x 1 (tally xs) (codes-climb xs)

-- counts are those of the list
count_add : (k c n : ℕ) (es : List Entry) → count_of k (add c n es) ≡ cond (eqb c k) n 0 + count_of k es
count_add k c n [] = refl
count_add k c n (e ∷ es) =
    add-by (λ l. count_of k l ≡ cond (eqb c k) n 0 + (cond (eqb e.code k) e.count 0 + count_of k es)) c n e es
    (λ q. omega (arith, count_add k c n es)) (λ q. grown (eqb c k) (ap (λ x. eqb x k) q)) (λ q. refl)
  where
    grown : (t : Bool) → eqb e.code k ≡ t
        → cond (eqb e.code k) (e.count + n) 0 + count_of k es
        ≡ cond t n 0 + (cond (eqb e.code k) e.count 0 + count_of k es)
    grown true p = simp p (omega arith)
    grown false p = simp p (omega arith)

pub count-is : (c : ℕ) (xs : List ℕ) → count_of c (tally xs) ≡ occurs c xs
count-is c [] = refl
count-is c (x ∷ xs) = count_add c x 1 (tally xs) ∙ ap (cond (eqb x c) 1 0 +◌) (count-is c xs)

-- so what is put in order keeps its numbers, each as often as before
pub sorted-keeps : (c : ℕ) (xs : List ℕ) → occurs c (sorted xs) ≡ occurs c xs
sorted-keeps c xs = sym (count-is c (sorted xs)) ∙ (ap (count_of c) (tally-sorted xs) ∙ count-is c xs)

total-add : (c n : ℕ) (es : List Entry) → total (add c n es) ≡ n + total es
total-add c n [] = refl
total-add c n (e ∷ es) =
    add-by (λ l. total l ≡ n + (e.count + total es)) c n e es (λ q. omega (arith, total-add c n es))
    (λ q. omega arith) (λ q. refl)

pub total-is : (xs : List ℕ) → total (tally xs) ≡ length xs
total-is [] = refl
total-is (x ∷ xs) = total-add x 1 (tally xs) ∙ omega (arith, total-is xs)

pub count-within : (es : List Entry) (k : ℕ) → get_or (counts es) k 0 ≤ total es
count-within [] k = omega arith
count-within (e ∷ es) zero = omega arith
count-within (e ∷ es) (suc k) = omega (arith, count-within es k)

-- no count is zero
some-add : (c n : ℕ) (es : List Entry) → 1 ≤ n → Least 1 (counts es) → Least 1 (counts (add c n es))
some-add c n [] h m = (h, tt)
some-add c n (e ∷ es) h m =
    add-by (λ l. Least 1 (counts l)) c n e es (λ q. (m.0, some-add c n es h m.1))
    (λ q. (omega (arith, m.0), m.1)) (λ q. (h, m))

pub counts_some : (xs : List ℕ) → Least 1 (counts (tally xs))
counts_some [] = tt
counts_some (x ∷ xs) = some-add x 1 (tally xs) (omega arith) (counts_some xs)

-- no more entries than codes
few-add : (c n : ℕ) (es : List Entry) → length (add c n es) ≤ suc (length es)
few-add c n [] = omega arith
few-add c n (e ∷ es) =
    add-by (λ l. length l ≤ suc (suc (length es))) c n e es (λ q. omega (arith, few-add c n es)) (λ q. omega arith)
    (λ q. omega arith)

pub tally-few : (xs : List ℕ) → length (tally xs) ≤ length xs
tally-few [] = omega arith
tally-few (x ∷ xs) = omega (arith, few-add x 1 (tally xs), tally-few xs)

-- as many codes as counts
pub codes-length : (es : List Entry) → length (codes es) ≡ length es
codes-length [] = refl
codes-length (e ∷ es) = ap suc (codes-length es)

pub counts-length : (es : List Entry) → length (counts es) ≡ length es
counts-length [] = refl
counts-length (e ∷ es) = ap suc (counts-length es)

-- the tally of a run, before codes that are above it
add-new : (c n : ℕ) (es : List Entry) → Least (suc c) (codes es) → add c n es ≡ entry c n ∷ es
add-new c n [] m = refl
add-new c n (e ∷ es) m = new c n e es m.0

pub tally-run : (c n : ℕ) (xs : List ℕ) → Least (suc c) xs → tally (replicate (suc n) c ++ xs) ≡ entry c (suc n) ∷ tally xs
tally-run c zero xs m = add-new c 1 (tally xs) (each-tally (λ y. suc c ≤ y) xs m)
tally-run c (suc n) xs m =
    ap (add c 1) (tally-run c n xs m)
    ∙ (same c 1 (entry c (suc n)) (tally xs) refl ∙ rw (let z : suc n + 1 ≡ suc (suc n) = omega arith in z))

-- of codes that climb each has the count of its own entry, and one that has a count has an entry
none_of : (c : ℕ) (es : List Entry) → Least (suc c) (codes es) → count_of c es ≡ 0
none_of c [] m = refl
none_of c (e ∷ es) m = rw (ne_eqb e.code c (λ q. omega (arith, m.0)), none_of c es m.1) refl

pub count-at : (es : List Entry) (k : ℕ) → Climbs (codes es) → k < length es
    → count_of (get_or (codes es) k 0) es ≡ get_or (counts es) k 0
count-at [] k r h = absurd (omega arith)
count-at (e ∷ es) zero r h =
    rw (eq-eqb e.code e.code refl, none_of e.code es r.0) (omega arith)
count-at (e ∷ es) (suc k) r h =
    let inside : k < length (codes es) = omega (arith, codes-length es) in
    let above = each_at (λ y. suc e.code ≤ y) (codes es) k inside r.0 in
    rw (ne_eqb e.code (get_or (codes es) k 0) (λ q. omega (arith, above)))
    (omega (arith, count-at es k r.1 (omega arith)))

pub record Found (c : ℕ) (es : List Entry) : Type 0 where
  pub place : ℕ
  pub within : place < length es
  pub is : get_or (codes es) place 0 ≡ c

pub count-found : (c : ℕ) (es : List Entry) → 1 ≤ count_of c es → Found c es
count-found c [] h = absurd (omega arith)
count-found c (e ∷ es) h = by-test (eqb e.code c) refl (λ k. count-found c es k)
  where
    by-test : (t : Bool) → eqb e.code c ≡ t → (1 ≤ count_of c es → Found c es) → Found c (e ∷ es)
    by-test true q later = record { place = 0; within = omega arith; is = eqb-true e.code c q }
    by-test false q later =
        let f = later (omega (arith, simp q at h)) in
        record { place = suc f.place; within = omega (arith, f.within); is = f.is }
