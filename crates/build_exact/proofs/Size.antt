-- How many bytes, rows and organisations there are, as a builder counts them before it writes.
-- Assumes nothing.
use Prim.Native.Nat.{ℕ, zero, suc, ◌+◌, ◌*◌, ◌-◌, ◌≤◌}
use mathlib.Core.Path.{◌≡◌, refl, ap}
use mathlib.Core.Bool.{Bool, true, false, cond}
use mathlib.Core.List.{List, [], ◌∷◌, ◌++◌}
use native.Mathlib.Omega.{arith}
use native.Mathlib.Nat.{zero-add, add-zero}
use lib.ListN.{length, length-append, length-take, length-drop}
use Rattle.field.specs.Text.{part}
use Rattle.source.specs.Address.{Address, key_kinds, key_numbers, asked_by}
use Rattle.source.specs.Delivery.{Says, rows_for}
use Rattle.source.specs.declared.DeliveryPoint.{DeliveryPoint}
use Rattle.shelf.specs.Stock.{Stock}
use Rattle.pack.specs.Layout.{trailer_bytes}
use Rattle.pack.specs.Names.{newest, point_width, trailer_width}
use Rattle.pack.specs.Sectors.{sector_counts, counts_bytes}
use Rattle.pack.specs.Opening.{digits_from}
use Rattle.pack.proofs.Sectors.{counts-wide}
use Rattle.pack_carries.proofs.Numbers.{bytes-long}
use Rattle.pack_carries.proofs.Trailer.{trailer-long}
use Rattle.build.specs.Plan.{Packed, rows_of, organisation_row, organisation_rows, organisation_count}
use Rattle.build.specs.Rows.{row_bytes_at, is_marked, bytes_to, count_to, rows_from}
use Rattle.build.specs.Placed.{Placed}
use Rattle.build.specs.Within.{FieldsWithin}
use Rattle.build.specs.Bytes.{offsets_for, offset_bytes, point_with, point_in, points_in, used_rows, pack_in}
use Rattle.build_exact.specs.Started.{AllSay, none_says, one_says}
use Rattle.build_exact.specs.Within.{AllWithin}
use Rattle.build_exact.proofs.Marked.{bytes_same}

-- ---- rows

-- the bytes of the marked rows, counted and written
rows_long : (st : Stock) (marks : List ℕ) (k n : ℕ)
    → length (rows_from st marks k (suc n)) + bytes_to st marks n ≡ bytes_to st marks (n + k)
rows_long st marks zero n = rw (zero-add, add-zero)
rows_long st marks (suc k) n = by-test (is_marked marks (suc n)) (rows_long st marks k (suc n))
  where
    whole : bytes_to st marks (suc n + k) ≡ bytes_to st marks (n + suc k)
    whole = ap (bytes_to st marks) {x = suc n + k} {y = n + suc k} (omega arith)

    by-test : (t : Bool)
        → length (rows_from st marks k (suc (suc n)))
        + (bytes_to st marks n + cond t (length (row_bytes_at st (suc n))) 0)
        ≡ bytes_to st marks (suc n + k)
        → length (cond t (row_bytes_at st (suc n)) [] ++ rows_from st marks k (suc (suc n))) + bytes_to st marks n
        ≡ bytes_to st marks (n + suc k)
    by-test true e =
        omega (arith, e, whole, length-append (row_bytes_at st (suc n)) (rows_from st marks k (suc (suc n))))
    by-test false e = omega (arith, e, whole)

pub used-long : (st : Stock) (marks starts : List ℕ) → Placed st marks starts
    → length (used_rows st starts) ≡ bytes_to st marks (st.last - 1)
used-long st marks starts p =
    let from : 0 + (st.last - 1) ≡ st.last - 1 = omega arith in
    omega (
      arith,
      rows_long st starts (st.last - 1) 0,
      ap (bytes_to st starts) from,
      bytes_same st marks starts p (st.last - 1) (omega arith),
    )

-- no more rows than there are, and no more organisations than delivery points
pub rows_few : (marks : List ℕ) (n : ℕ) → count_to marks n ≤ n
rows_few marks zero = omega arith
rows_few marks (suc n) = by-test (is_marked marks (suc n)) (rows_few marks n)
  where
    by-test : (t : Bool) → count_to marks n ≤ n → count_to marks n + cond t 1 0 ≤ suc n
    by-test true h = omega (arith, h)
    by-test false h = omega (arith, h)

pub organisations-few : (ds : List Packed) → organisation_count ds ≤ length ds
organisations-few [] = omega arith
organisations-few (d ∷ ds) = by-test d.point.organised (organisations-few ds)
  where
    by-test : (t : Bool) → organisation_count ds ≤ length ds
        → cond t (suc (organisation_count ds)) (organisation_count ds) ≤ suc (length ds)
    by-test true h = omega (arith, h)
    by-test false h = omega (arith, h)

-- ---- points

pub part-long : (own : List ℕ) (at n : ℕ) → at + n ≤ length own → length (part own at (at + n)) ≡ n
part-long own at n h = simp (length-take, length-drop) (omega arith)

module _ (starts : List ℕ) (row : ℕ → ℕ) where
  keys-long : (kinds keys : List ℕ) → length kinds ≡ length keys
      → length (offset_bytes (offsets_for starts keys (rows_for row (asked_by kinds keys)))) ≡ 4 * length keys
  keys-long [] [] e = refl
  keys-long [] (key ∷ keys) e = absurd (omega arith)
  keys-long (kind ∷ kinds) [] e = absurd (omega arith)
  keys-long (kind ∷ kinds) (key ∷ keys) e =
      simp (length-append, bytes-long) (omega (arith, keys-long kinds keys (omega arith)))

pub point-long : (st : Stock) {own others : List ℕ} {p : DeliveryPoint} {a : Address} (starts : List ℕ) (at : ℕ)
    → Says own others p a
    → FieldsWithin own p
    → length (point_in own starts p (rows_of st p) at) ≡ point_width newest
unfolding point_with
point-long st {own} {others} {p} {a} starts at s w =
    let keys : length (offset_bytes (offsets_for starts p.keys (rows_of st p))) ≡ 28 =
    rw s.keys (keys-long starts st.row key_kinds (key_numbers a) refl) in
    simp (length-append, bytes-long, keys)
    (omega (
      arith,
      part-long own p.postcode 7 w.postcode,
      part-long own p.suffix 2 w.suffix,
      part-long own p.po_box 6 w.box,
    ))

pub points-long : (st : Stock) {own others : List ℕ} {ds : List Packed} {as' : List Address} (starts : List ℕ) (at : ℕ)
    → AllSay own others ds as'
    → AllWithin own ds
    → length (points_in st own others starts at ds) ≡ point_width newest * length ds
points-long st starts at none_says w = refl
points-long st {own} {others} {ds = d ∷ ds} starts at (one_says s rest) w =
    let next = at + length (organisation_row others d.point) in
    omega (
      arith,
      length-append (point_in own starts d.point (rows_of st d.point) at) (points_in st own others starts next ds),
      point-long st starts at s.says w.0,
      points-long st starts next rest w.1,
    )

-- ---- the whole

pub pack-size : {st : Stock} {own others : List ℕ} {ds : List Packed} {as' : List Address} {marks starts : List ℕ}
    (code : List ℕ)
    → AllSay own others ds as'
    → AllWithin own ds
    → Placed st marks starts
    → length code ≡ 4
    → length (pack_in st own others starts ds code)
    ≡ bytes_to st marks (st.last - 1) + length (organisation_rows others ds) + point_width newest * length ds
    + trailer_width newest
unfolding pack_in
pack-size {st} {own} {others} {ds} {as'} {marks} {starts} code said w p four =
    let rows = used_rows st starts in
    let points = points_in st own others starts (length rows) ds in
    let count = count_to starts (st.last - 1) + organisation_count ds in
    let start = length rows + length (organisation_rows others ds) in
    let firsts = digits_from points (point_width newest) (length ds) 0 in
    let counts = counts_bytes (sector_counts firsts) in
    let trailer = trailer_bytes newest count start (length ds) code counts in
    omega (
      arith,
      length-append rows (organisation_rows others ds ++ (points ++ trailer)),
      length-append (organisation_rows others ds) (points ++ trailer),
      length-append points trailer,
      used-long st marks starts p,
      points-long st starts (length rows) said w,
      trailer-long count start (length ds) code counts four (counts-wide firsts),
    )
