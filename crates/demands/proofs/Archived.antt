-- Archived files, rewritten, are what they were.
-- Assumes nothing.
use mathlib.Core.Path.{◌≡◌, refl}
use mathlib.Core.List.{List}
use Prim.Native.Nat.{ℕ, ◌%◌, ◌≤◌}
use native.Mathlib.Omega.{arith}
use native.Mathlib.Nat.{mod-eq_of_lt}
use Rattle.file_record.specs.Names.Table
use Rattle.file_record.specs.Names.Point
use Rattle.unspace_file.specs.Unspaced.{unspaced_count}
use Rattle.unspace_file.proofs.Laws.{count-few}
use Rattle.unspace_sound.proofs.Sound.{sound}
use Rattle.demands.specs.Archived.{Archived}

-- so few fit the bits of a value
few-fit : (n : ℕ) → n ≤ 2 → n % 72_057_594_037_927_936 ≡ n
few-fit n h = mod-eq_of_lt (omega arith)

pub archived : (table points : List ℕ) → Archived table points
archived table points =
    record {
      table_left = λ bytes. refl;
      points_left = λ bytes. refl;
      kept = sound table points;
      table_told = λ bytes. few-fit (unspaced_count Table.width Table.identifier table) (count-few Table.width Table.identifier table);
      points_told = λ bytes. few-fit (unspaced_count Point.width Point.identifier points) (count-few Point.width Point.identifier points);
      table_few = count-few Table.width Table.identifier table;
      points_few = count-few Point.width Point.identifier points;
    }
