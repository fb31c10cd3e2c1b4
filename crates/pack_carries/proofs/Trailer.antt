-- A trailer says what was written into it.
-- Assumes nothing.
use Prim.Native.Nat.{ℕ, suc, ◌+◌, ◌*◌, ◌^◌, ◌<◌}
use mathlib.Core.Path.{◌≡◌, refl, sym, ap, subst, ◌∙◌}
use mathlib.Core.Bool.{true}
use mathlib.Core.List.{List, [], ◌∷◌, ◌++◌}
use native.Mathlib.Omega.{arith}
use borrow.Author.Tests.{eq-eqb}
use lib.ListN.{length, get_or, length-append}
use Rattle.field.specs.Text.{part}
use Rattle.pack.specs.Numbers.{bytes_of, number_at}
use Rattle.pack.specs.Names.{newest, point_width, points_start_at, point_count_at, outward_at, length_at, counts_at, behind_fields, edition_width, trailer_width}
use Rattle.pack.specs.Sectors.{counts_bytes}
use Rattle.pack.specs.Layout.{trailer_bytes}
use Rattle.pack.specs.Opening.{from_back, edition, trailer_start, trailer_number, count_said, counts_said, row_count, points_start, point_count, outward, length_said}
use Rattle.pack_carries.proofs.Rows.{and_both}
use Rattle.pack_carries.proofs.Numbers.{bytes-long}
use Rattle.pack_carries.proofs.Stands.{Stands, stands-end, stands-first, stands-second, stands-part, stands-byte, stands-number}

-- what a pack says of itself
pub record Says (pack : List ℕ) (rows start points : ℕ) (code counts : List ℕ) : Type 0 where
  pub of_edition : edition pack ≡ newest
  pub of_rows : row_count pack ≡ rows
  pub of-start : points_start pack ≡ start
  pub of_points : point_count pack ≡ points
  pub of_code : outward pack ≡ code
  pub of_length : length_said pack ≡ start + point_width newest * points + trailer_width newest
  pub of-counts : Stands pack (trailer_start pack + counts_at) counts

module _ (rows start points : ℕ) (code counts : List ℕ) (four : length code ≡ 4) (ten : length counts ≡ behind_fields newest) where
  abbrev size : ℕ
  size = start + point_width newest * points + trailer_width newest

  pub trailer-long : length (trailer_bytes newest rows start points code counts) ≡ trailer_width newest
  trailer-long = simp (length-append, four, ten)

  module _ (front : List ℕ) (few : rows < 256 ^ 4) (fits : size < 256 ^ 4) where
    abbrev pack : List ℕ
    pack = front ++ trailer_bytes newest rows start points code counts

    long : length pack ≡ length front + trailer_width newest
    long = length-append front (trailer_bytes newest rows start points code counts) ∙ ap (λ n. length front + n) trailer-long

    -- each part, from the front
    abbrev from-length : List ℕ
    from-length = bytes_of 4 size ++ (counts ++ (newest ∷ []))

    abbrev from_start : List ℕ
    from_start = bytes_of 4 start ++ (bytes_of 4 points ++ (code ++ from-length))

    abbrev here : ℕ → ℕ
    here field = length front + field

    at_rows : Stands pack (here 0) (trailer_bytes newest rows start points code counts)
    at_rows =
        subst (λ n. Stands pack n (trailer_bytes newest rows start points code counts))
        (let z : length front ≡ here 0 = omega arith in z)
        (stands-end front (trailer_bytes newest rows start points code counts))

    at-start : Stands pack (here points_start_at) from_start
    at-start = stands-second (bytes_of 4 rows) from_start 4 (here points_start_at) (bytes-long 4 rows) (omega arith) at_rows

    at-points : Stands pack (here point_count_at) (bytes_of 4 points ++ (code ++ from-length))
    at-points =
        stands-second (bytes_of 4 start) (bytes_of 4 points ++ (code ++ from-length)) 4 (here point_count_at)
        (bytes-long 4 start) (omega arith) at-start

    at_code : Stands pack (here outward_at) (code ++ from-length)
    at_code =
        stands-second (bytes_of 4 points) (code ++ from-length) 4 (here outward_at) (bytes-long 4 points) (omega arith)
        at-points

    at_length : Stands pack (here length_at) from-length
    at_length = stands-second code from-length 4 (here length_at) four (omega arith) at_code

    at-counts : Stands pack (here counts_at) (counts ++ (newest ∷ []))
    at-counts =
        stands-second (bytes_of 4 size) (counts ++ (newest ∷ [])) 4 (here counts_at) (bytes-long 4 size) (omega arith) at_length

    at-edition : Stands pack (from_back pack edition_width) (newest ∷ [])
    at-edition =
        stands-second counts (newest ∷ []) (behind_fields newest) (from_back pack edition_width) ten (omega (arith, long)) at-counts

    is-newest : edition pack ≡ newest
    is-newest = stands-byte newest [] at-edition

    -- where the trailer of that edition starts
    found : trailer_start pack ≡ length front
    found =
        ap (λ e. from_back pack (trailer_width e)) is-newest
        ∙ (let z : from_back pack (trailer_width newest) ≡ length front = omega (arith, long) in z)

    says : (field n : ℕ) → n < 256 ^ 4 → Stands pack (here field) (bytes_of 4 n) → trailer_number pack field ≡ n
    says field n small h = ap (λ p. number_at pack (p + field) 4) found ∙ stands-number 4 n small h

    pub trailer-says : Says pack rows start points code counts
    trailer-says =
        record {
          of_edition = is-newest;
          of_rows = says 0 rows few (stands-first (bytes_of 4 rows) _ at_rows);
          of-start = says points_start_at start (omega arith) (stands-first (bytes_of 4 start) _ at-start);
          of_points = says point_count_at points (omega arith) (stands-first (bytes_of 4 points) _ at-points);
          of_code =
              ap (λ p. part pack (p + outward_at) (p + length_at)) found
              ∙ (ap (part pack (here outward_at)) (let z : here length_at ≡ here outward_at + 4 = omega arith in z)
              ∙ stands-part (stands-first code from-length at_code) 4 four);
          of_length = says length_at size fits (stands-first (bytes_of 4 size) _ at_length);
          of-counts =
              subst (λ n. Stands pack (n + counts_at) counts) (sym found) (stands-first counts (newest ∷ []) at-counts);
        }

-- counts that stand there are those that the trailer says, from a digit on
pub counts-read : (pack : List ℕ) (digit : ℕ) (ns : List ℕ) → ((i : ℕ) → i < length ns → get_or ns i 0 < 256 ^ 4)
    → Stands pack (trailer_start pack + (counts_at + 4 * digit)) (counts_bytes ns)
    → counts_said pack digit ns ≡ true
counts-read pack digit [] small h = refl
counts-read pack digit (n ∷ ns) small h =
    let place = trailer_start pack + (counts_at + 4 * digit) in
    let next = trailer_start pack + (counts_at + 4 * suc digit) in
    and_both
    (eq-eqb (count_said pack digit) n
    (stands-number 4 n (small 0 (omega arith)) (stands-first (bytes_of 4 n) (counts_bytes ns) h)))
    (counts-read pack (suc digit) ns (λ i l. small (suc i) (omega arith))
    (stands-second (bytes_of 4 n) (counts_bytes ns) 4 next (bytes-long 4 n) (omega arith) h))
