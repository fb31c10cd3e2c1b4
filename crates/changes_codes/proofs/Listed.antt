-- What the two arrays hold, and what is answered of them.
-- Assumes nothing.
use Prim.Native.Nat.{ℕ, ◌≤◌, ◌<◌}
use mathlib.Core.Path.{◌≡◌, refl, sym, ap, ◌∙◌}
use mathlib.Core.List.{List, ◌++◌, append_assoc}
use native.Mathlib.Omega.{arith}
use lib.ListN.{length, take, drop, replicate, length-append, length-replicate}
use lib.Seq.{take_at, length-take-le}
use Rattle.file.specs.Formats.{point_format}
use Rattle.file.specs.Accepted.{Accepted}
use Rattle.label.specs.Put.{Wrote}
use Rattle.tally.specs.Tally.{tally, codes, counts}
use Rattle.tally.proofs.Tallies.{codes-length, counts-length, tally-few}
use Rattle.tally_count.specs.Counted.{Counted}
use Rattle.tally_bytes.specs.Entries.{roomed, entries_outcome}
use Rattle.changes_codes.specs.Codes.{all_codes, codes_in, pair_bytes}
use Rattle.changes_codes.proofs.Gathered.{all-few}
use Rattle.changes_codes.proofs.Pairs.{pairs-are}

-- a fresh array of so many numbers has room for all codes
pub fresh-room : (k : ℕ) (points : List ℕ) → Accepted point_format points → 20_000 ≤ k
    → length (all_codes points) ≤ length (replicate {A = ℕ} k 0)
fresh-room k points a h = rw (length-replicate {A = ℕ} k 0) (omega (arith, all-few points a))

-- the codes stand in the front of the first array
module _ {live fresh one : List ℕ} {n : ℕ} (w : Wrote live fresh n one) where
  pub front-is : take n one ≡ live
  front-is = ap (take n) w.is ∙ take_at live (drop (length live) fresh) n (sym w.size)

  pub front-within : n ≤ length one
  front-within = omega (arith, w.size, ap length w.is, length-append live (drop (length live) fresh))

  pub front-lent : n ≡ length (take n one)
  front-lent = sym (length-take-le n one front-within)

pub fresh-rooms : (k : ℕ) (points : List ℕ) → Accepted point_format points → 20_000 ≤ k → {fresh one : List ℕ} {n : ℕ}
    → Wrote (all_codes points) fresh n one
    → (length (take n one) ≤ length (replicate {A = ℕ} k 0)) × (length (take n one) < 4294967296)
fresh-rooms k points a h w =
    rw (front-is w) (fresh-room k points a h, omega (arith, all-few points a))

-- the entries stand in the fronts of both
module _ {list one two one' two' : List ℕ} {k : ℕ} (c : Counted list one two k one' two') where
  codes-long : length (codes (tally list)) ≡ k
  codes-long = codes-length (tally list) ∙ sym c.entries

  counts-long : length (counts (tally list)) ≡ k
  counts-long = counts-length (tally list) ∙ sym c.entries

  pub codes-are : (rest : List ℕ) → take k (one' ++ rest) ≡ codes (tally list)
  codes-are rest =
      ap (λ l. take k (l ++ rest)) c.its_codes
      ∙ (ap (take k) (append_assoc (codes (tally list)) (drop k one) rest)
      ∙ take_at (codes (tally list)) (drop k one ++ rest) k codes-long)

  pub codes-within : (rest : List ℕ) → k ≤ length (one' ++ rest)
  codes-within rest =
      omega (
        arith,
        codes-long,
        length-append one' rest,
        ap length c.its_codes,
        length-append (codes (tally list)) (drop k one),
      )

  pub codes-lent : (rest : List ℕ) → k ≡ length (take k (one' ++ rest))
  codes-lent rest = sym (length-take-le k (one' ++ rest) (codes-within rest))

  pub counts-are : take k two' ≡ counts (tally list)
  counts-are = ap (take k) c.its_counts ∙ take_at (counts (tally list)) (drop k two) k counts-long

  pub counts-within : k ≤ length two'
  counts-within =
      omega (arith, counts-long, ap length c.its_counts, length-append (counts (tally list)) (drop k two))

  pub counts-lent : k ≡ length (take k two')
  counts-lent = sym (length-take-le k two' counts-within)

  -- where the list is the codes of all live views
  module _ (points rest : List ℕ) (is : list ≡ all_codes points) where
    pub as_many : length (take k two') ≡ length (take k (one' ++ rest))
    as_many =
        ap length counts-are
        ∙ (counts-long ∙ (sym codes-long ∙ ap length (sym (codes-are rest))))

    pub few : Accepted point_format points → length (take k (one' ++ rest)) ≤ 20_000
    few a =
        omega (
          arith,
          ap length (codes-are rest),
          codes-length (tally list),
          tally-few list,
          ap length is,
          all-few points a,
        )

    pub told : (out : List ℕ)
        → roomed (length (take k (one' ++ rest))) (pair_bytes (take k (one' ++ rest)) (take k two')) out
        ≡ entries_outcome (codes_in points) out
    told out =
        let size = codes-length (codes_in points) in
        let bytes = pairs-are (codes_in points) in
        rw (codes-are rest, counts-are, is) (rw (size, bytes) refl)
