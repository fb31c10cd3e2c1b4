-- A table record of type 1: "filler 45, post town 30, dependent locality 35, double dependent locality 35".
-- Assumes nothing.
use Rattle.std.specs.Prelude.{ℕ}

abbrev pub town : ℕ
town = 69

abbrev pub dependent : ℕ
dependent = 99

abbrev pub double : ℕ
double = 134

abbrev pub end : ℕ
end = 169
