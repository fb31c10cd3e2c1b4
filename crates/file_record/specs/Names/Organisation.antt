-- A point record of type 2 or 3: "organisation 60, department 60".
-- Assumes nothing.
use Rattle.std.specs.Prelude.{ℕ}

abbrev pub name : ℕ
name = 42

abbrev pub department : ℕ
department = 102

abbrev pub department_end : ℕ
department_end = 162
