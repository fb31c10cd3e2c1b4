-- When a file is accepted: "Order for a file: 1, 2, 3, then record by record 4, 5, 6", and none of them is given.
-- Assumes nothing.
use Rattle.std.specs.Prelude.{ℕ, ◌-◌, ◌≤◌, ◌<◌, ◌≡◌, true, List}
use Rattle.file.specs.Check.{Format, records, whole, at, rises, in_place}

-- what a record that is judged fine is
pub record FineRecord (f : Format) (file : List ℕ) (i : ℕ) : Type 0 where
  pub well_formed : f.fault (at f file i) ≡ 0
  pub rising : rises f file i ≡ true
  pub in-place : in_place f file i ≡ true

-- an accepted file
pub record Accepted (f : Format) (file : List ℕ) : Type 0 where
  pub is_whole : whole f file ≡ true
  pub headed : f.headed (at f file 0) ≡ true
  pub ended : f.ended (records f file) (at f file (records f file - 1)) ≡ true
  pub each : (i : ℕ) → 1 ≤ i → i < records f file - 1 → FineRecord f file i
