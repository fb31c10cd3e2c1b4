-- The views are those at the wanted places of the point file, in order.
-- Assumes nothing.
use Prim.Native.Nat.{ℕ, zero, suc, ◌+◌, ◌-◌, ◌≤◌, ◌<◌}
use mathlib.Core.Path.{◌≡◌, refl, ap, ◌∙◌}
use mathlib.Core.Bool.{Bool, true, false, cond, ◌&&◌}
use mathlib.Core.List.{List, [], ◌∷◌}
use mathlib.Core.Option.{none, some}
use native.Mathlib.Omega.{arith}
use borrow.Author.Tests.{leb-true, leb-false}
use lib.Dec.{eqb, leb}
use lib.ListN.{length, get_or}
use Rattle.file_record.specs.Parts.{record_at}
use Rattle.field_outward.specs.Outward.{outward_fault}
use Rattle.field_outward.proofs.Long.{outward-long}
use Rattle.changes_views.specs.Views.{is_view, is_live, wanted, last_of, wanted_from, wanted_in, wanted_count, wanted_at, view_number}
use Rattle.changes_views.specs.Views as views
use Rattle.source.specs.Address.{Lookup, Address}
use Rattle.source.specs.Resolve.{forbidden, missing, elements_of, resolve}
use Rattle.source.specs.Same.{AllOf}
use Rattle.changes_source.specs.Addresses.{address_of, address_at, numbered, addresses_in, live, kept}
use Rattle.ask.specs.Source.{in_code}
use Rattle.ask.specs.Labels.{kth}
use Rattle.ask.proofs.Kth.{kth-zero, kth-none, kth-at}
use Rattle.changes_views.proofs.Laws.{wanted-at-wanted}
use Rattle.changes_pair.specs.Live.{live_in, view_at, views_at, WantedPlaces}
use Rattle.changes_pair.proofs.Numbers.{wanted-every, number-none, number-view, number-other}

-- a code that is given wants the live views in it
pub wanted-given : (x : ℕ) (xs rec : List ℕ)
    → wanted (x ∷ xs) rec ≡ is_view rec && (is_live rec && views.in_code (x ∷ xs) rec)
unfolding wanted
wanted-given x xs rec = refl

module _ (x : ℕ) (xs points : List ℕ) where
  abbrev code : List ℕ
  code = x ∷ xs

  -- a view that is wanted or not, before the views behind it
  one-view : (n place : ℕ) (as' : List Address) (t u : Bool) → is_live (record_at 168 points place) ≡ t
      → views.in_code code (record_at 168 points place) ≡ u
      → in_code code (kept (address_at points n place ∷ as'))
      ≡ cond (t && u) (address_at points n place ∷ in_code code (kept as')) (in_code code (kept as'))
  unfolding address_of
  one-view n place as' true true e f = simp (e, f)
  one-view n place as' true false e f = simp (e, f)
  one-view n place as' false u e f = simp e

  -- the views at places, one of them before those behind it
  at_one : (t : Bool) (n place : ℕ) (as' : List Address) (places : List ℕ) → view_number points place ≡ n
      → as' ≡ views_at points places
      → cond t (address_at points n place ∷ as') as' ≡ views_at points (cond t (place ∷ places) places)
  at_one true n place as' places e f = rw (e, f)
  at_one false n place as' places e f = f

  from-views : (k j : ℕ)
      → in_code code (kept (numbered points (suc (view_number points j)) (wanted_from [] points k (suc j))))
      ≡ views_at points (wanted_from code points k (suc j))
  from-views zero j = refl
  from-views (suc k) j = by-test (is_view rec) refl (from-views k (suc j))
    where
      rec : List ℕ
      rec = record_at 168 points (suc j)

      n : ℕ
      n = view_number points j

      by-test : (t : Bool) → is_view rec ≡ t
          → in_code code
          (kept (numbered points (suc (view_number points (suc j))) (wanted_from [] points k (suc (suc j)))))
          ≡ views_at points (wanted_from code points k (suc (suc j)))
          → in_code code (kept (numbered points (suc n) (wanted_from [] points (suc k) (suc j))))
          ≡ views_at points (wanted_from code points (suc k) (suc j))
      by-test true e later =
          let rest = numbered points (suc (suc n)) (wanted_from [] points k (suc (suc j))) in
          let next = number-view points j e in
          simp (wanted-every rec, wanted-given x xs rec, e)
          (one-view (suc n) (suc j) rest (is_live rec) (views.in_code code rec) refl refl
          ∙ at_one (is_live rec && views.in_code code rec) (suc n) (suc j) (in_code code (kept rest))
          (wanted_from code points k (suc (suc j))) next (rw next at later))
      by-test false e later =
          simp (wanted-every rec, wanted-given x xs rec, e) (rw (number-other points j e) at later)

-- without a code, all views
from_all : (points : List ℕ) (k j : ℕ)
    → numbered points (suc (view_number points j)) (wanted_from [] points k (suc j))
    ≡ views_at points (wanted_from [] points k (suc j))
from_all points zero j = refl
from_all points (suc k) j = by-test (is_view rec) refl (from_all points k (suc j))
  where
    rec : List ℕ
    rec = record_at 168 points (suc j)

    by-test : (t : Bool) → is_view rec ≡ t
        → numbered points (suc (view_number points (suc j))) (wanted_from [] points k (suc (suc j)))
        ≡ views_at points (wanted_from [] points k (suc (suc j)))
        → numbered points (suc (view_number points j)) (wanted_from [] points (suc k) (suc j))
        ≡ views_at points (wanted_from [] points (suc k) (suc j))
    by-test true e later =
        let next = number-view points j e in
        simp (wanted-every rec, e)
        (rw next (ap (address_at points (suc (view_number points j)) (suc j) ∷◌) (rw next at later)))
    by-test false e later = simp (wanted-every rec, e) (rw (number-other points j e) at later)

pub all-views : (points : List ℕ) → addresses_in points ≡ views_at points (wanted_in [] points)
unfolding addresses_in wanted_in
all-views points = rw (number-none points) at (from_all points (last_of points - 1) 0)

-- of k records behind place j: the views numbered on, of these the live ones in the code, are those at the wanted
-- places
pub views-from : (points code : List ℕ) → outward_fault code ≡ 0 → (k j : ℕ)
    → in_code code (kept (numbered points (suc (view_number points j)) (wanted_from [] points k (suc j))))
    ≡ views_at points (wanted_from code points k (suc j))
views-from points [] e = absurd (omega (arith, outward-long [] e))
views-from points (x ∷ xs) e = from-views x xs points

pub live-views : (points code : List ℕ) → outward_fault code ≡ 0
    → live_in points code ≡ views_at points (wanted_in code points)
unfolding addresses_in wanted_in
live-views points code e = rw (number-none points) at (views-from points code e (last_of points - 1) 0)

pub views-length : (points places : List ℕ) → length (views_at points places) ≡ length places
views-length points [] = refl
views-length points (place ∷ places) = ap suc (views-length points places)

views-at : (points places : List ℕ) (k : ℕ) (d : Address) → k < length places
    → get_or (views_at points places) k d ≡ view_at points (get_or places k 0)
views-at points [] k d h = absurd (omega arith)
views-at points (place ∷ places) zero d h = refl
views-at points (place ∷ places) (suc k) d h = views-at points places k d (omega arith)

module _ (points code : List ℕ) (well_formed : outward_fault code ≡ 0) where
  pub live-length : length (live_in points code) ≡ wanted_count code points
  unfolding wanted_count
  live-length = rw (live-views points code well_formed) (views-length points (wanted_in code points))

-- the k-th view of those at wanted places, counted from 1
module _ (points code : List ℕ) (k : ℕ) where
  count-is : wanted_count code points ≡ length (wanted_in code points)
  unfolding wanted_count
  count-is = refl

  pub kth-there : 1 ≤ k → k ≤ wanted_count code points
      → kth (views_at points (wanted_in code points)) k ≡ some (view_at points (wanted_at code points k))
  unfolding wanted_count wanted_at
  kth-there low high =
      kth-at (views_at points (wanted_in code points)) k (view_at points 0) low
      (omega (arith, views-length points (wanted_in code points)))
      ∙ ap some (by_number k low high)
    where
      by_number : (k : ℕ) → 1 ≤ k → k ≤ length (wanted_in code points)
          → get_or (views_at points (wanted_in code points)) (k - 1) (view_at points 0)
          ≡ view_at points (get_or (0 ∷ wanted_in code points) k 0)
      by_number zero low high = absurd (omega arith)
      by_number (suc j) low high =
          rw (let z : suc j - 1 ≡ j = omega arith in z)
          (views-at points (wanted_in code points) j (view_at points 0) (omega arith))

  pub kth-missing : wanted_at code points k ≡ 0 → kth (views_at points (wanted_in code points)) k ≡ none
  kth-missing = by_number k refl
    where
      by_number : (j : ℕ) → k ≡ j → wanted_at code points k ≡ 0 → kth (views_at points (wanted_in code points)) k ≡ none
      by_number zero e z = rw e (kth-zero (views_at points (wanted_in code points)))
      by_number (suc j) e z = by-test (leb k (wanted_count code points)) refl
        where
          by-test : (t : Bool) → leb k (wanted_count code points) ≡ t
              → kth (views_at points (wanted_in code points)) k ≡ none
          by-test true h =
              absurd (omega (arith, z, (wanted-at-wanted code points k (omega arith) (leb-true k _ h)).0))
          by-test false h =
              rw e
              (kth-none (views_at points (wanted_in code points)) j
              (omega (arith, views-length points (wanted_in code points), count-is, leb-false k _ h, e)))

-- each of the wanted places is one
module _ (code points : List ℕ) where
  from_places : (k i : ℕ) → 1 ≤ i → i + k ≤ last_of points → WantedPlaces code points (wanted_from code points k i)
  from_places zero i low high = tt
  from_places (suc k) i low high =
      by-test (wanted code (record_at 168 points i)) refl (wanted_from code points k (suc i))
      (from_places k (suc i) (omega arith) (omega arith))
    where
      by-test : (t : Bool) → wanted code (record_at 168 points i) ≡ t → (ps : List ℕ) → WantedPlaces code points ps
          → WantedPlaces code points (cond t (i ∷ ps) ps)
      by-test true e ps more = (record { low = low; high = omega arith; is_wanted = e }, more)
      by-test false e ps more = more

  pub all_wanted : WantedPlaces code points (wanted_in code points)
  unfolding wanted_in
  all_wanted = by_size (last_of points) refl
    where
      by_size : (n : ℕ) → last_of points ≡ n → WantedPlaces code points (wanted_from code points (n - 1) 1)
      by_size zero e = tt
      by_size (suc n) e = from_places (suc n - 1) 1 (omega arith) (omega arith)

-- what holds of each view holds of those that are live
pub kept-all : (P : Address → Type 0) (views : List Address) → AllOf P views → AllOf P (kept views)
kept-all P [] h = tt
kept-all P (a ∷ more) h = by-test (live a) (kept-all P more h.1)
  where
    by-test : (t : Bool) → AllOf P (kept more) → AllOf P (cond t (a ∷ kept more) (kept more))
    by-test true rest = (h.0, rest)
    by-test false rest = rest

-- what an address resolves to does not look at its number
pub resolve-number : (look : Lookup) (points : List ℕ) (n m place : ℕ)
    → resolve look (address_at points n place) ≡ resolve look (address_at points m place)
unfolding resolve forbidden missing elements_of address_of
resolve-number look points n m place = refl
