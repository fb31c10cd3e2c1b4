-- No report is longer than the buffer that the program lends, 160,000 bytes, so that all of it is written.
-- Assumes nothing.
use Prim.Native.Nat.{ℕ, zero, suc, ◌+◌, ◌-◌, ◌*◌, ◌≤◌}
use mathlib.Core.Path.{◌≡◌, refl}
use mathlib.Core.Bool.{Bool, true, false, cond, not, ◌&&◌, ◌||◌}
use mathlib.Core.List.{List, [], ◌∷◌}
use native.Mathlib.Omega.{arith}
use native.Mathlib.Nat.{div-le_of_le-mul}
use borrow.Author.Tests.{ltb-false, eqb-false}
use lib.Dec.{eqb, ltb}
use lib.ListN.{length, length-append}
use lib.Seq.{take_all}
use Rattle.refusal.specs.declared.Reason.{Reason}
use Rattle.refusal.specs.declared.Reason.TheVariants.{Length, Header, Trailer, Malformed, NotAbove, Follower, NoSuchNumber, Combination, MissingKey}
use Rattle.refusal.proofs.Lossless.{number-to-28}
use Rattle.refusal.specs.Refusal.{number, detail, second}
use Rattle.file_fault.proofs.Bounds.{table-bound, point-bound}
use Rattle.file.specs.Check.{Format, records, whole as whole-records, at, rises, in_place, judged, scan, verdict, answered, checked}
use Rattle.refusal.specs.Verdict.{or_else}
use Rattle.file.specs.Formats.{table_format, point_format}
use Rattle.file.specs.Accepted.{Accepted}
use Rattle.file.proofs.Accepted.{accepted}
use Rattle.changes_views.specs.Views.{wanted_count, wanted_at}
use Rattle.changes_views.proofs.Laws.{count-bound}
use Rattle.source.specs.Address.{Lookup, Address, present, Asked, keys_of, Elements}
use Rattle.source.specs.Resolve.{forbidden_of, forbidden, lacks, missing_from, lacks_organisation, missing, elements_of, Resolved, elements, refused, resolve}
use Rattle.changes_source.specs.Rows.{table_lookup}
use Rattle.changes_source.specs.Addresses.{address_at}
use Rattle.label.specs.Label.{label_of}
use Rattle.changes_label.specs.Places.{resolved_at, ViewPlace}
use Rattle.changes_label.proofs.Laws.{wanted-place}
use Rattle.report.specs.Fed.{fitting}
use Rattle.item.specs.Lines.{spaced_number, view_line, byte_text, refused_text, refused_line}
use Rattle.item.specs.Item.{resolved_text}
use Rattle.item.proofs.Decimals.{decimal-size}
use Rattle.report.specs.Report.{table_word, points_word, view_text, block, blocks, pair_text, file_text, points_text, report_of}
use Rattle.changes_label.proofs.Laws.{label-fits}
use Rattle.std.specs.Prelude.{Ok, Err}
use Rattle.refusal.specs.Answer.{Answer}
use Rattle.refusal.specs.Verdict.{Verdict, fine}

-- a refusal that names no more than a number, and a byte of a record at most
abbrev Told : ℕ → Reason → Type 0
Told n why = (detail why ≤ n) × (second why ≤ 999)

abbrev Below : ℕ → Verdict → Type 0
Below n (Ok _) = Unit {0}
Below n (Err why) = Told n why

below-three : (n : ℕ) (t u v : Bool) (x y z : Reason) → Told n x → Told n y → Told n z
    → Below n (cond t (cond u (cond v fine (Err x)) (Err y)) (Err z))
below-three n true true true x y z h k l = tt
below-three n true true false x y z h k l = h
below-three n true false v x y z h k l = k
below-three n false u v x y z h k l = l

below-ends : (n : ℕ) (t u v : Bool) (w : Verdict) (last : ℕ) → Below n w → last ≤ n → 1 ≤ n
    → Below n (cond t (cond u (cond v w (Err (Trailer last))) (Err Header)) (Err Length))
below-ends n true true true w last h k l = h
below-ends n true true false w last h k l = (k, omega arith)
below-ends n true false v w last h k l = (l, omega arith)
below-ends n false u v w last h k l = (omega arith, omega arith)

below-else : (n : ℕ) (a b : Verdict) → Below n a → Below n b → Below n (or_else a b)
below-else n (Ok _) b h k = k
below-else n (Err why) b h k = h

module _ (f : Format) (near : (rec : List ℕ) → f.fault rec ≤ 170) (file : List ℕ) (n : ℕ) where
  judged-below : (i : ℕ) → i + 1 ≤ n → Below n (judged f file i)
  unfolding judged
  judged-below i h =
      below-three n (eqb (f.fault (at f file i)) 0) (rises f file i)
      (in_place f file i)
      (Follower (i + 1))
      (NotAbove (i + 1))
      (Malformed (i + 1) (f.fault (at f file i)))
      (h, omega arith)
      (h, omega arith)
      (h, omega (arith, near (at f file i)))

  scan-below : (k i : ℕ) → k + i ≤ n → Below n (scan (judged f file) k i)
  scan-below zero i h = tt
  scan-below (suc k) i h =
      below-else n (judged f file i) (scan (judged f file) k (suc i)) (judged-below i (omega arith))
      (scan-below k (suc i) (omega arith))

  verdict-below : records f file ≤ n → 1 ≤ n → Below n (verdict f file)
  unfolding verdict
  verdict-below h k =
      below-ends n (whole-records f file) (f.headed (at f file 0))
      (f.ended (records f file) (at f file (records f file - 1)))
      (scan (judged f file) (records f file - 2) 1)
      (records f file)
      (scan-below (records f file - 2) 1 (omega arith))
      h
      k

-- an answer that tells no more than a number
abbrev Said : ℕ → Answer → Type 0
Said n (Ok k) = k ≤ n
Said n (Err r) = Told n r.reason

checked-said : (f : Format) → ((rec : List ℕ) → f.fault rec ≤ 170) → (file : List ℕ) (n : ℕ) → records f file ≤ n → 1 ≤ n
    → Said n (checked f file)
unfolding checked
checked-said f near file n h k = by-verdict (verdict f file) (verdict-below f near file n h k)
  where
    by-verdict : (v : Verdict) → Below n v → Said n (answered f file v)
    by-verdict (Ok _) b = h
    by-verdict (Err why) b = b

-- what is refused of an address
missing-from : (look : Lookup) (n : ℕ) (l : List Asked) → missing_from look n l ≤ n + length l
missing-from look n [] = omega arith
missing-from look n (a ∷ l) =
    by-test (present a.key && lacks (look a.kind a.key)) (missing_from look (suc n) l) (missing-from look (suc n) l)
  where
    by-test : (t : Bool) (m : ℕ) → m ≤ suc n + length l → cond t n m ≤ n + length (a ∷ l)
    by-test true m h = omega arith
    by-test false m h = omega arith

missing-by : (t u v : Bool) (m : ℕ) → m ≤ 8 → cond t 1 (cond u (cond v 8 0) m) ≤ 8
missing-by true u v m h = omega arith
missing-by false true true m h = omega arith
missing-by false true false m h = omega arith
missing-by false false v m h = h

missing-most : (look : Lookup) (a : Address) → missing look a ≤ 8
unfolding missing
missing-most look a =
    missing-by (not (present a.locality)) (eqb (missing_from look 1 (keys_of a)) 0) (lacks_organisation a.organisation)
    (missing_from look 1 (keys_of a))
    (omega (arith, missing-from look 1 (keys_of a)))

forbidden-by : (t u v : Bool) → cond t 1 (cond u 2 (cond v 3 0)) ≤ 8
forbidden-by true u v = omega arith
forbidden-by false true v = omega arith
forbidden-by false false true = omega arith
forbidden-by false false false = omega arith

forbidden-of : (s b n t d e f : Bool) → forbidden_of s b n t d e f ≤ 8
forbidden-of s b n t d e f = forbidden-by (s && not (b || n)) (e && not t) ((d && not t) || (f && not e))

forbidden-most : (a : Address) → forbidden a ≤ 8
unfolding forbidden
forbidden-most a =
    forbidden-of (present a.sub_building) (present a.building) (present a.number) (present a.thoroughfare)
    (present a.descriptor) (present a.dependent) (present a.dependent_descriptor)

abbrev Mild : Resolved → Type 0
Mild (elements e) = length (label_of e) ≤ 499
Mild (refused why) = Told 8 why

mild-by : (t u : Bool) (e : Elements) (x y : Reason) → length (label_of e) ≤ 499 → Told 8 x → Told 8 y
    → Mild (cond t (cond u (elements e) (refused x)) (refused y))
mild-by true true e x y h k l = h
mild-by true false e x y h k l = k
mild-by false u e x y h k l = l

resolve-mild : (look : Lookup) (a : Address) → length (label_of (elements_of look a)) ≤ 499 → Mild (resolve look a)
unfolding resolve
resolve-mild look a h =
    mild-by (eqb (forbidden a) 0) (eqb (missing look a) 0) (elements_of look a) (MissingKey (missing look a) 0)
    (Combination (forbidden a) 0)
    h
    (missing-most look a, omega arith)
    (forbidden-most a, omega arith)

-- the line of a refusal
byte-size : (why : Reason) → second why ≤ 999 → length (byte_text (number why) (second why)) ≤ 4
unfolding byte_text
byte-size why h = by-test (eqb (number why) 4)
  where
    by-test : (t : Bool) → length (cond t (spaced_number (second why)) []) ≤ 4
    by-test true = omega (arith, decimal-size 2 (second why) (omega arith))
    by-test false = omega arith

refused-size : (why : Reason) → Told 50_700 why → length (refused_line why) ≤ 24
unfolding refused_text
refused-size why h =
    simp length-append
    (omega (
      arith,
      decimal-size 4 (number why) (omega (arith, number-to-28 why)),
      decimal-size 4 (detail why) (omega (arith, h.0)),
      byte-size why h.1,
    ))

resolved-size : (r : Resolved) → Mild r → length (resolved_text r) ≤ 499
resolved-size (elements e) h = h
resolved-size (refused why) h = omega (arith, refused-size why (omega (arith, h.0), h.1))

module _ (table points : List ℕ) (t : Accepted table_format table) (p : Accepted point_format points) where
  view-size : (place : ℕ) → ViewPlace table points place → length (view_text table points place) ≤ 499
  unfolding view_text
  view-size place v = by-test (eqb place 0) refl
    where
      by-test : (b : Bool) → eqb place 0 ≡ b → length (view_text table points place) ≤ 499
      by-test true e = rw e (omega (arith, refused-size NoSuchNumber (omega arith, omega arith)))
      by-test false e =
          rw e
          (resolved-size (resolved_at table points place)
          (resolve-mild (table_lookup table) (address_at points 0 place)
          (label-fits table points place v (eqb-false place 0 e))))

  block_size : (k : ℕ) → k ≤ 300 → length (block table points k) ≤ 512
  unfolding block view_line
  block_size k h =
      simp length-append
      (omega (
        arith,
        decimal-size 4 k (omega arith),
        view-size (wanted_at [] points k) (wanted-place table points [] k t),
      ))

  blocks-size : (k : ℕ) → k ≤ 300 → length (blocks table points k) ≤ k * 512
  blocks-size zero h = omega arith
  blocks-size (suc k) h =
      omega (
        arith,
        length-append (blocks table points k) (block table points (suc k)),
        blocks-size k (omega arith),
        block_size (suc k) h,
      )

  pair_size : length points ≤ 50_400 → (m n : ℕ) → m ≤ 50_700 → n ≤ 50_700
      → length (pair_text table points m n) ≤ 160_000
  unfolding pair_text
  pair_size h m n a b =
      let views : wanted_count [] points ≤ 300 =
      omega (arith, count-bound [] points, div-le_of_le-mul 168 {m = length points} {n = 300} (omega arith)) in
      simp length-append
      (omega (
        arith,
        decimal-size 4 m (omega arith),
        decimal-size 4 n (omega arith),
        decimal-size 4 (wanted_count [] points) (omega arith),
        blocks-size (wanted_count [] points) views,
      ))

-- a file that is refused, or taken
file-size : (word : List ℕ) (a : Answer) (next : ℕ → List ℕ) → length word ≤ 6 → Said 50_700 a
    → ((n : ℕ) → a ≡ Ok n → n ≤ 50_700 → length (next n) ≤ 160_000)
    → length (file_text word a next) ≤ 160_000
file-size word (Ok n) next w s h = h n refl s
file-size word (Err r) next w s h =
    omega (arith, length-append word (32 ∷ refused_line r.reason), refused-size r.reason s)

points-size : (table points : List ℕ) (t : ℕ) → checked table_format table ≡ Ok t → t ≤ 50_700
    → length (points_text table points t) ≤ 160_000
unfolding points_text
points-size table points t e m = by-test (ltb 50_400 (length points)) refl
  where
    by-test : (b : Bool) → ltb 50_400 (length points) ≡ b → length (points_text table points t) ≤ 160_000
    by-test true q = rw q (omega arith)
    by-test false q =
        let h : length points ≤ 50_400 = ltb-false 50_400 (length points) q in
        let few = div-le_of_le-mul 168 {m = length points} {n = 50_700} (omega arith) in
        rw q
        (file-size points_word (checked point_format points) (pair_text table points t) (omega arith)
        (checked-said point_format point-bound points 50_700 few (omega arith))
        (λ n d s. pair_size table points (accepted table_format table t e) (accepted point_format points n d) h t n m s))

pub at-most-160000 : (table points : List ℕ) → length (report_of table points) ≤ 160_000
unfolding report_of
at-most-160000 table points = by-test (ltb 50_700 (length table)) refl
  where
    by-test : (b : Bool) → ltb 50_700 (length table) ≡ b → length (report_of table points) ≤ 160_000
    by-test true q = rw q (omega arith)
    by-test false q =
        let h : length table ≤ 50_700 = ltb-false 50_700 (length table) q in
        let few = div-le_of_le-mul 169 {m = length table} {n = 50_700} (omega arith) in
        rw q
        (file-size table_word (checked table_format table) (points_text table points) (omega arith)
        (checked-said table_format table-bound table 50_700 few (omega arith))
        (λ t e m. points-size table points t e m))

-- all of it is written where there is so much room
pub whole : (table points out : List ℕ) → 160_000 ≤ length out → fitting (report_of table points) out ≡ report_of table points
whole table points out h = take_all (length out) (report_of table points) (omega (arith, at-most-160000 table points))
