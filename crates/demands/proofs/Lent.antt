-- Whatever is lent is apt: a pair of files, a set, and a book with a table file.
-- Assumes nothing.
use Prim.Native.Nat.{ℕ, suc, ◌≤◌, ◌<◌}
use mathlib.Core.Path.{◌≡◌}
use mathlib.Core.Bool.{Bool, true, false, cond}
use mathlib.Core.List.{List, [], ◌∷◌}
use mathlib.Core.Logic.{inl, inr}
use native.Mathlib.Omega.{arith}
use lib.Dec.{lit≤, lit<}
use lib.ListN.{length, take, length-append}
use Rattle.refusal.specs.declared.Reason.TheVariants.{BadCode}
use Rattle.source.specs.Address.{Lookup, Address}
use Rattle.source.specs.Resolve.{elements_of}
use Rattle.source.specs.Same.{AllOf}
use Rattle.file.specs.Check.{records, checked}
use Rattle.file.specs.Formats.{table_format, point_format}
use Rattle.file.specs.Mainfile as Format
use Rattle.file.specs.Accepted.{Accepted}
use Rattle.file.proofs.Laws.{within-limit}
use Rattle.changes_views.specs.Views.{wanted_in, wanted_count}
use Rattle.changes_views.proofs.Laws.{count-bound}
use Rattle.label.specs.Lines.{lines_of}
use Rattle.item.proofs.Lines.{view-short}
use Rattle.item.proofs.Decimals.{decimal-short}
use Rattle.pack.specs.Cutting.{pack_built}
use Rattle.changes_source.specs.Rows.{table_lookup}
use Rattle.changes_source.specs.Addresses.{address_of, addresses_in, live, kept}
use Rattle.changes_pair.specs.Pair.{pair_of}
use Rattle.changes_pair.specs.Live.{views_at, WantedPlaces}
use Rattle.changes_pair.proofs.Live.{all-views, all_wanted, views-length, kept-all}
use Rattle.changes_pair.proofs.Numbers.{number_bound}
use Rattle.changes_label.proofs.Laws.{table-accepted, points-accepted}
use Rattle.mainfile.specs.Set.{Set, set_judged}
use Rattle.mainfile.specs.Rows.{set_lookup}
use Rattle.mainfile.specs.Addresses as Main
use Rattle.mainfile.specs.Main.{main_of, number_line}
use Rattle.mainfile.specs.Accepted.{AcceptedSet}
use Rattle.mainfile_check.proofs.Laws.{set-accepted}
use Rattle.mainfile_sound.proofs.Lengths.{views-few as addresses-few, views-numbered}
use Rattle.call.specs.Call.{Lent, pair, set, a_book, source_of}
use Rattle.demands.specs.Two.{Bounded, NoneSmall}
use Rattle.demands.specs.Three.{Carries}
use Rattle.demands.specs.Apart.{WholeFor}
use Rattle.demands.specs.Apt.{WholeSays, Judging, Numbered, AptViews, AptBy, Apt}
use Rattle.demands.proofs.Two.{all_then, views-bounded, set-bounded}
use Rattle.demands.proofs.Three.{carries}
use Rattle.demands.proofs.Capitals.{views-capital, set-capital}
use Rattle.demands.proofs.Faults.{locality-bound, text-file-bound, organisation-bound, address-bound}
use Rattle.demands.proofs.Says.{then_is, checked-says, table-says, points-says}
use Rattle.demands.proofs.Pair.{pair-packable}
use Rattle.demands.proofs.Set.{set-packable, in_turn}
use Rattle.demands.proofs.Book.{book-apt}
use Rattle.std.specs.Prelude.{Ok}

-- ---- a pair of files

kept-few : (views : List Address) → length (kept views) ≤ length views
kept-few [] = omega arith
kept-few (a ∷ more) = by-test (live a) (kept-few more)
  where
    by-test : (t : Bool) → length (kept more) ≤ length more
        → length (cond t (a ∷ kept more) (kept more)) ≤ suc (length more)
    by-test true h = omega arith
    by-test false h = omega arith

-- of apt views those that are kept are apt
kept-apt : (look : Lookup) (views : List Address) → AptViews look views → AptViews look (kept views)
kept-apt look views h =
    record {
      bounded = kept-all (λ a. Bounded (elements_of look a)) views h.bounded;
      capital = kept-all (λ a. NoneSmall (lines_of (elements_of look a))) views h.capital;
      numbered = kept-all Numbered views h.numbered;
      few = omega (arith, kept-few views, h.few);
    }

module _ (table points : List ℕ) where
  module _ (t : Accepted table_format table) (p : Accepted point_format points) where
    records-few : records point_format points ≤ 20_000
    records-few = within-limit point_format points p.is_whole

    places-numbered : (places : List ℕ) → WantedPlaces [] points places → AllOf Numbered (views_at points places)
    unfolding address_of
    places-numbered [] h = tt
    places-numbered (place ∷ places) h =
        (omega (arith, number_bound points place, h.0.high, records-few), places-numbered places h.1)

    views-few : length (addresses_in points) ≤ 20_000
    unfolding wanted_count
    views-few =
        rw (all-views points, views-length points (wanted_in [] points)) (omega (arith, count-bound [] points, records-few))

    pair-views : AptViews (table_lookup table) (addresses_in points)
    pair-views =
        record {
          bounded = views-bounded table points t;
          capital = views-capital table points t p;
          numbered = rw (all-views points) (places-numbered (wanted_in [] points) (all_wanted [] points));
          few = omega (arith, views-few);
        }

  pub pair-apt : Apt (pair_of table points)
  pair-apt =
      record {
        judges =
            then_is WholeSays (checked table_format table) (checked point_format points) (table-says table) (points-says points);
        views = λ e. pair-views (table-accepted table points e) (points-accepted table points e);
        live = λ e.
            kept-apt (table_lookup table) (addresses_in points)
            (pair-views (table-accepted table points e) (points-accepted table points e));
        headed = λ a h. view-short a.view a.letter (omega (arith, h));
        packable = pair-packable table points;
      }

-- ---- a set

pub addresses-says : (addresses : List ℕ) → Judging (checked Format.addresses addresses)
addresses-says addresses = checked-says Format.addresses (lit< tt) (lit≤ tt) address-bound addresses

pub set_says : (s : Set) → Judging (set_judged s)
set_says s =
    in_turn WholeSays s (checked-says Format.localities (lit< tt) (lit≤ tt) locality-bound s.localities)
    (checked-says Format.thoroughfares (lit< tt) (lit≤ tt) (λ rec. text-file-bound rec 8 60 (lit≤ tt)) s.thoroughfares)
    (checked-says Format.descriptors (lit< tt) (lit≤ tt) (λ rec. text-file-bound rec 4 20 (lit≤ tt)) s.descriptors)
    (checked-says Format.buildings (lit< tt) (lit≤ tt) (λ rec. text-file-bound rec 8 50 (lit≤ tt)) s.buildings)
    (checked-says Format.sub_buildings (lit< tt) (lit≤ tt) (λ rec. text-file-bound rec 8 30 (lit≤ tt)) s.sub_buildings)
    (checked-says Format.organisations (lit< tt) (lit≤ tt) organisation-bound s.organisations)
    (addresses-says s.addresses)

pub number-line-short : (view : ℕ) → view < 1_048_576 → length (number_line view) ≤ 80
number-line-short view h = simp length-append (omega (arith, decimal-short view (omega (arith, h))))

set-views : (s : Set) → AcceptedSet s → AptViews (set_lookup s) (Main.addresses_in s)
set-views s a =
    record {
      bounded = set-bounded s a;
      capital = set-capital s a;
      numbered = all_then (λ b. b.view ≤ 999_998) Numbered (λ b h. omega (arith, h)) (Main.addresses_in s) (views-numbered s a);
      few = omega (arith, addresses-few s a);
    }

pub set-apt : (s : Set) → Apt (main_of s)
set-apt s =
    record {
      judges = set_says s;
      views = λ e. set-views s (set-accepted s e);
      live = λ e. set-views s (set-accepted s e);
      headed = λ a h. number-line-short a.view h;
      packable = set-packable s;
    }

-- ---- whatever is lent

pub lent-apt : (lent : Lent) → AptBy (WholeFor lent) (source_of lent)
lent-apt (pair table points) = pair-apt table points
lent-apt (set s) = set-apt s
lent-apt (a_book book table) = book-apt book table

-- 12 is among those that may refuse it
pub code-whole : (lent : Lent) → WholeFor lent BadCode
code-whole (pair table points) = inr (lit≤ tt, lit≤ tt)
code-whole (set s) = inr (lit≤ tt, lit≤ tt)
code-whole (a_book book table) = inl (inr (lit≤ tt, lit≤ tt))

-- so demand 3 holds of it
pub lent-carries : (lent : Lent) (code out : List ℕ) (n : ℕ) → (pack_built (source_of lent) code out).answer ≡ Ok n
    → Carries (source_of lent) code (take n (pack_built (source_of lent) code out).memory)
lent-carries lent = carries (source_of lent) (lent-apt lent).packable
