-- Laws of building from a set: what the code has counted is the length of the pack, and what it writes is the pack.
-- Assumes nothing.
use Prim.Native.Nat.{ℕ, zero, suc, ◌+◌, ◌*◌, ◌-◌, ◌/◌, ◌≤◌, ◌<◌}
use mathlib.Core.Path.{◌≡◌, refl, sym, ap, ap₂, subst, ◌∙◌}
use mathlib.Core.Bool.{Bool, true, false, ◌||◌}
use mathlib.Core.List.{List, [], ◌∷◌}
use native.Mathlib.Omega.{arith}
use borrow.Author.Tests.{eqb-true, eqb-false}
use lib.Dec.{eqb}
use lib.ListN.{length, replicate, length-replicate}
use Rattle.field.specs.Test.{elem}
use Rattle.field.proofs.Tests.{or-true}
use Rattle.bits.specs.Bits.{Unmarked}
use Rattle.file.specs.Mainfile as Format
use Rattle.file.proofs.Laws.{within-limit}
use Rattle.source.specs.declared.DeliveryPoint.{DeliveryPoint}
use Rattle.source.specs.Delivery.{asked_of}
use Rattle.shelf.specs.Stock.{Stock, joined, Good}
use Rattle.ask.specs.Source.{in_code}
use Rattle.pack.specs.Names.{newest, point_width, trailer_width}
use Rattle.pack.specs.Cutting.{first_bad, cut_with, cut_outcome}
use Rattle.field_outward.proofs.Long.{outward-long}
use Rattle.build.specs.Plan.{Packed, rows_of, refers_to, first_refused, mark_all, organisation_rows, organisation_count}
use Rattle.build.specs.Rows.{is_marked, all_bytes, all_count}
use Rattle.build.specs.Placed.{starts_of}
use Rattle.build.specs.Placed as build
use Rattle.build.specs.Bytes.{offsets_for, used_rows, pack_in}
use Rattle.build.proofs.Joined.{used-as}
use Rattle.build.proofs.Starts.{starts-placed}
use Rattle.build_mark.specs.Below.{Below}
use Rattle.build_mark.proofs.Rows.{rows-below}
use Rattle.build_exact.specs.Started.{Started}
use Rattle.build_exact.proofs.Marked.{all-length, marked-exactly, start-marked, count_same}
use Rattle.build_exact.proofs.Pack.{pack-is}
use Rattle.build_exact.proofs.Refused.{refused-same}
use Rattle.build_exact.proofs.Size.{pack-size, rows_few, organisations-few}
use Rattle.mainfile.specs.Set.{Set}
use Rattle.mainfile.specs.Rows.{kind_stock, set_stock, set_lookup}
use Rattle.mainfile.specs.Addresses.{addresses_in}
use Rattle.mainfile.specs.Accepted.{AcceptedRows, AcceptedSet}
use Rattle.mainfile_views.specs.Range.{last_of, first_in, many_in}
use Rattle.mainfile_views.proofs.Together.{range-high}
use Rattle.mainfile_source.specs.Rows.{row_files}
use Rattle.mainfile_source.specs.Delivery.{delivery_at}
use Rattle.mainfile_source.proofs.Joined.{two_records, set-good, same_rows}
use Rattle.mainfile_meaning.specs.Elements.{point_at, rows_at, Inside}
use Rattle.mainfile_meaning.proofs.Says.{inside-at}
use Rattle.mainfile_mark.specs.Marks.{set_marks, set_rows, used_in_set, BitsFor, Ended}
use Rattle.mainfile_mark.specs.Packed.{packed_by, packed_in}
use Rattle.mainfile_mark.proofs.Packed.{packed_start, packed-length, accepted-ended, found-in-files, found_rows}
use Rattle.mainfile_place.proofs.Small.{kind-few}
use Rattle.mainfile_place.specs.Blocks.{BlocksFor, RowsPlaced}
use Rattle.mainfile_points.specs.Standing.{Standing}
use Rattle.mainfile_points.proofs.Said.{all_say, all-within, numbers-rise}
use Rattle.mainfile_sound.proofs.Size.{pack-small}
use Rattle.mainfile_build.specs.Build.{set_pack}
use Rattle.mainfile_build.specs.Written.{set_starts, set_offsets}
use Rattle.mainfile_build.specs.Ready.{Judged, Stretched, Marked, Placed}
use Rattle.mainfile_build.proofs.Fresh.{set-none, set_long}
use Rattle.refusal.specs.Verdict.{Verdict, fine}

-- ---- the five files of rows alone

module _ (set : Set) where
  abbrev pub only : Set
  only = row_files set.localities set.thoroughfares set.descriptors set.buildings set.sub_buildings

  pub marks-only : (l t d b s : List ℕ) → set_marks set l t d b s ≡ set_marks only l t d b s
  unfolding set_marks
  marks-only l t d b s = refl

  pub starts-only : (l t d b s : List ℕ) → set_starts only l t d b s ≡ set_starts set l t d b s
  starts-only l t d b s = ap₂ starts_of (sym (same_rows set)) (sym (marks-only l t d b s))

  pub rows-only : AcceptedRows set → AcceptedRows only
  rows-only a =
      record {
        localities = a.localities;
        thoroughfares = a.thoroughfares;
        descriptors = a.descriptors;
        buildings = a.buildings;
        sub_buildings = a.sub_buildings;
      }

  pub ended-only : AcceptedRows set → Ended only
  ended-only a =
      let e = accepted-ended set a in
      record {
        of_localities = e.of_localities;
        of_thoroughfares = e.of_thoroughfares;
        of_descriptors = e.of_descriptors;
        of_buildings = e.of_buildings;
        of_sub_buildings = e.of_sub_buildings;
      }

-- ---- how many rows there are

joined-few : (a b : Stock) (n m : ℕ) → a.last ≤ n → b.last ≤ m → (joined a b).last ≤ n + m
joined-few a b n m h k = omega (arith, h, k)

module _ (set : Set) (ok : AcceptedRows set) where
  pub set-short : (set_stock set).last ≤ 5_000_000
  unfolding set_stock
  set-short =
      let k : ℕ → Stock = kind_stock set in
      let few = kind-few set ok in
      let from₄ = joined (k 4) (k 5) in
      let from₃ = joined (k 3) from₄ in
      joined-few (k 1) (joined (k 2) from₃) 1_000_000 4_000_000 (few 1).1
      (joined-few (k 2) from₃ 1_000_000 3_000_000 (few 2).1
      (joined-few (k 3) from₄ 1_000_000 2_000_000 (few 3).1
      (joined-few (k 4) (k 5) 1_000_000 1_000_000 (few 4).1 (few 5).1)))

  pub set_ended : 0 < (set_stock set).last
  unfolding set_stock
  set_ended = omega (arith, (accepted-ended set ok).of_sub_buildings)

-- a row that is found stands among them
found-low : {st : Stock} → Good st → 0 < st.last → (r : ℕ) → st.row r < st.last
found-low {st} good some r = by_row (st.row r) refl
  where
    by_row : (row : ℕ) → st.row r ≡ row → row < st.last
    by_row zero e = some
    by_row (suc q) e = (good.found r q e).0

elem_below : {n : ℕ} (rows : List ℕ) → Below n rows → (row : ℕ) → elem row rows ≡ true → row < n
elem_below [] b row e = let z : ◌≡◌ {A = ℕ} 0 1 = cc in absurd (omega arith)
elem_below {n} (x ∷ rows) b row e = by-test (eqb row x) refl e (elem_below rows b.1 row)
  where
    by-test : (t : Bool) → eqb row x ≡ t → t || elem row rows ≡ true → (elem row rows ≡ true → row < n) → row < n
    by-test true q e later = omega (arith, eqb-true row x q, b.0)
    by-test false q e later = later e

-- ---- a builder that has marked its rows

module _ (set : Set) (code l t d b s : List ℕ) (m : Marked set code l t d b s) where
  abbrev st : Stock
  st = set_stock set

  abbrev own : List ℕ
  own = set.addresses

  abbrev others : List ℕ
  others = set.organisations

  abbrev ds : List Packed
  ds = packed_in set code

  abbrev marks : List ℕ
  marks = set_marks set l t d b s

  abbrev starts : List ℕ
  starts = set_starts set l t d b s

  marks_all : length marks ≡ st.last
  marks_all = ap length m.marked ∙ (all-length st ds m.fresh ∙ m.long)

  pub placed : build.Placed st marks starts
  placed = starts-placed st marks (omega (arith, marks_all))

  started : Started st own others ds (in_code code (addresses_in set)) m.fresh starts
  started =
      record {
        good = set-good set m.judged.of_set.rows;
        said = all_say set m.judged.of_set code;
        within = all-within set m.judged.of_set code;
        rising = numbers-rise set m.judged.of_set code;
        none_refused = m.none_refused;
        no_marks = m.no_marks;
        long = omega (arith, m.long);
        placed = subst (λ (x : List ℕ). build.Placed st x starts) m.marked placed;
      }

  pub written : pack_in st own others starts ds code ≡ set_pack set code
  written = sym (pack-is started code)

  pub rows_written : used_rows st starts ≡ used_rows st marks
  rows_written = used-as st starts marks (λ i low high. start-marked st marks starts placed i low high)

  code-four : length code ≡ 4
  code-four = outward-long code m.judged.of_code

  pub counted : length (set_pack set code)
      ≡ all_bytes st marks + length (organisation_rows others ds) + point_width newest * length ds + trailer_width newest
  counted =
      ap length (sym written)
      ∙ pack-size code (all_say set m.judged.of_set code) (all-within set m.judged.of_set code) placed code-four

  -- so that no sum is too large
  pub small : length (set_pack set code) < 4_294_967_295
  small = pack-small set code m.judged.of_set m.judged.of_code

  pub rows-counted : all_count st marks ≡ all_count st starts
  rows-counted = sym (count_same st marks starts placed (st.last - 1) (omega arith))

  pub rows-small : all_count st marks + organisation_count ds < 4_294_967_295
  rows-small =
      omega (
        arith,
        counted,
        small,
        set-short set m.judged.of_set.rows,
        rows_few marks (st.last - 1),
        organisations-few ds,
      )

-- ---- the first refusal of the packed addresses, or the pack

module _ (set : Set) (code out : List ℕ) (j : Judged set code) where
  verdict-is : first_bad (set_lookup set) (in_code code (addresses_in set)) ≡ first_refused (set_stock set) (packed_in set code)
  verdict-is = refused-same (set_stock set) (all_say set j.of_set code)

  pub cut_as : (v : Verdict) → first_refused (set_stock set) (packed_in set code) ≡ v
      → cut_outcome (set_lookup set) (in_code code (addresses_in set)) code out ≡ cut_with v (set_pack set code) out
  unfolding cut_outcome
  cut_as v e = ap (λ (v : Verdict). cut_with v (set_pack set code) out) (verdict-is ∙ e)

-- ---- fresh arrays

module _ (set : Set) (ok : AcceptedRows set) where
  -- a bit for each row, and a start for each block
  pub fresh-bits : (k : ℕ) (a : List ℕ) → k ≡ 31_250 → a ≡ replicate {A = ℕ} k 0 → BitsFor set a a a a a
  fresh-bits k a e is =
      let long : length a ≡ 31_250 = ap length is ∙ (length-replicate {A = ℕ} k 0 ∙ e) in
      record {
        of_localities = omega (arith, long, (kind-few set ok 1).1);
        of_thoroughfares = omega (arith, long, (kind-few set ok 2).1);
        of_descriptors = omega (arith, long, (kind-few set ok 3).1);
        of_buildings = omega (arith, long, (kind-few set ok 4).1);
        of_sub_buildings = omega (arith, long, (kind-few set ok 5).1);
      }

  pub fresh-blocks : (k : ℕ) (a : List ℕ) → k ≡ 15_625 → a ≡ replicate {A = ℕ} k 0 → BlocksFor (only set) a a a a a
  fresh-blocks k a e is =
      let long : length a ≡ 15_625 = ap length is ∙ (length-replicate {A = ℕ} k 0 ∙ e) in
      record {
        of_localities = omega (arith, long, (kind-few set ok 1).1);
        of_thoroughfares = omega (arith, long, (kind-few set ok 2).1);
        of_descriptors = omega (arith, long, (kind-few set ok 3).1);
        of_buildings = omega (arith, long, (kind-few set ok 4).1);
        of_sub_buildings = omega (arith, long, (kind-few set ok 5).1);
      }

-- marked from fresh bits
pub fresh-marked : (set : Set) (code z l t d b s : List ℕ) → Judged set code → Unmarked z
    → first_refused (set_stock set) (packed_in set code) ≡ fine
    → set_marks set l t d b s ≡ mark_all (set_stock set) (packed_in set code) (set_marks set z z z z z)
    → Marked set code l t d b s
fresh-marked set code z l t d b s j none fine is =
    record {
      judged = j;
      none_refused = fine;
      fresh = set_marks set z z z z z;
      no_marks = set-none set z z z z z none none none none none;
      long = set_long set j.of_set.rows z z z z z;
      marked = is;
    }

-- ---- the stretch of a code

module _ (set : Set) (ok : AcceptedSet set) {code : List ℕ} {first many : ℕ} (p : Stretched set code first many) where
  pub stretch-high : first + many ≤ last_of set.addresses
  stretch-high = omega (arith, p.first_is, p.many_is, range-high set code ok.addresses)

  pub stretch-few : first + many ≤ 1_000_000
  stretch-few = omega (arith, stretch-high, within-limit Format.addresses set.addresses ok.addresses.is_whole)

  pub stretch-packed : packed_in set code ≡ packed_by set.addresses set.organisations first many
  stretch-packed = ap₂ (packed_by set.addresses set.organisations) (sym p.first_is) (sym p.many_is)

  pub stretch-long : length (packed_in set code) ≡ many
  stretch-long = ap length stretch-packed ∙ packed-length set.addresses set.organisations first many

  pub stretch-standing : Standing set.organisations set.addresses first many
  stretch-standing =
      record {
        before = stretch-high;
        headed = omega (arith, two_records Format.organisations set.organisations ok.organisations);
      }

module _ (set : Set) {code l t d b s l' t' d' b' s' : List ℕ} {first many : ℕ}
    (p : Placed set code l t d b s l' t' d' b' s' first many) where
  abbrev taken : AcceptedSet set
  taken = p.marks.judged.of_set

  pub stop-high : first + many ≤ last_of set.addresses
  stop-high = stretch-high set taken p.stretch

  pub stop-few : first + many ≤ 1_000_000
  stop-few = stretch-few set taken p.stretch

  pub packed-is : packed_in set code ≡ packed_by set.addresses set.organisations first many
  packed-is = stretch-packed set taken p.stretch

  pub packed-same : packed_in set code ≡ packed_by set.addresses set.organisations first (first + many - first)
  packed-same = packed-is ∙ packed_start set.addresses set.organisations first many

  pub standing : Standing set.organisations set.addresses first many
  standing = stretch-standing set taken p.stretch

  -- the rows by their bits are those by a list of starts
  pub rows_are : used_in_set (only set) l t d b s ≡ used_rows (set_stock set) (set_starts set l t d b s)
  rows_are =
      ap₂ used_rows (sym (same_rows set)) (sym (marks-only set l t d b s)) ∙ sym (rows_written set code l t d b s p.marks)

  pub inside-stretch : (i : ℕ) → i < first + many → Inside set.addresses set.organisations (point_at set i)
  inside-stretch i h =
      inside-at set.addresses set.organisations i (omega (arith, h, stop-high)) standing.headed

-- ---- a record of the stretch

-- what one of so many records refers to, one of them all does
refers-in : (st : Stock) (addresses organisations : List ℕ) (r i many first : ℕ) → first ≤ i → i < first + many
    → elem r (rows_of st (delivery_at addresses organisations i)) ≡ true
    → refers_to st (packed_by addresses organisations first many) r ≡ true
refers-in st addresses organisations r i zero first low high e = absurd (omega arith)
refers-in st addresses organisations r i (suc k) first low high e =
    by-test (eqb i first) refl
    (λ (up : suc first ≤ i). refers-in st addresses organisations r i k (suc first) up (omega (arith, high)) e)
  where
    here : Bool
    here = elem r (rows_of st (delivery_at addresses organisations first))

    later : Bool
    later = refers_to st (packed_by addresses organisations (suc first) k) r

    by-test : (x : Bool) → eqb i first ≡ x → (suc first ≤ i → later ≡ true) → here || later ≡ true
    by-test true q on =
        let same : i ≡ first = eqb-true i first q in
        ap (λ (y : Bool). y || later)
        (ap (λ (n : ℕ). elem r (rows_of st (delivery_at addresses organisations n))) (sym same) ∙ e)
    by-test false q on =
        let there = eqb-false i first q in
        ap (λ (y : Bool). here || y) (on (omega (arith, low, there))) ∙ or-true here

-- the rows that the search finds for it are marked, and have their starts
module _ (set : Set) {code l t d b s l' t' d' b' s' : List ℕ} {first many : ℕ}
    (p : Placed set code l t d b s l' t' d' b' s' first many) (i : ℕ) (low : first ≤ i) (high : i < first + many) where
  abbrev stock : Stock
  stock = set_stock set

  accepted : AcceptedSet set
  accepted = p.marks.judged.of_set

  -- it stands before the trailer
  within : i < length set.addresses / 88
  within = omega (arith, high, stop-high set p)

  abbrev rows-of-it : List ℕ
  rows-of-it = rows_of stock (point_at set i)

  below : Below stock.last rows-of-it
  below =
      let good = set-good set accepted.rows in
      let some : 0 < stock.last = set_ended set accepted.rows in
      rows-below stock.row stock.last some (λ (r : ℕ). found-low good some r) (asked_of (point_at set i))

  it-is-marked : (row : ℕ) → 1 ≤ row → elem row rows-of-it ≡ true → is_marked (set_marks set l t d b s) row ≡ true
  it-is-marked row some e =
      let m = p.marks in
      ap (λ (x : List ℕ). is_marked x row) m.marked
      ∙ (marked-exactly row some stock (packed_in set code) m.fresh (omega (arith, m.long, elem_below rows-of-it below row e)) (m.no_marks row)
      ∙ refers-in stock set.addresses set.organisations row i (many_in set.addresses code) (first_in set.addresses code)
      (omega (arith, low, p.stretch.first_is)) (omega (arith, high, p.stretch.first_is, p.stretch.many_is)) e)

  pub rows-placed : (rows : List ℕ) → rows ≡ rows_at set i → RowsPlaced (only set) l t d b s l' t' d' b' s' rows
  rows-placed rows e =
      let there = found-in-files set accepted i within rows e in
      record {
        accepted = rows-only set accepted.rows;
        blocks = p.blocks;
        there =
            record {
              locality = there.locality;
              thoroughfare = there.thoroughfare;
              descriptor = there.descriptor;
              dependent = there.dependent;
              second = there.second;
              building = there.building;
              sub_building = there.sub_building;
            };
        marked = λ row some is.
            ap (λ (x : List ℕ). is_marked x row) (sym (marks-only set l t d b s))
            ∙ it-is-marked row some (ap (elem row) (sym (found_rows set accepted i within rows e)) ∙ is);
      }

  -- so the offsets by their blocks are those by a list of starts
  pub offsets-placed : (rows : List ℕ) → rows ≡ rows_at set i → {q : DeliveryPoint} → q ≡ point_at set i
      → offsets_for (set_starts (only set) l t d b s) q.keys (set_rows (only set) rows) ≡ set_offsets set l t d b s i
  offsets-placed rows e {q} is =
      ap (λ (x : List ℕ). offsets_for x q.keys (set_rows set rows)) (starts-only set l t d b s)
      ∙ (ap (λ (k : DeliveryPoint). offsets_for (set_starts set l t d b s) k.keys (set_rows set rows)) is
      ∙ ap (offsets_for (set_starts set l t d b s) (point_at set i).keys) (found_rows set accepted i within rows e))
