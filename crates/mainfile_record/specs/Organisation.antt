-- A record of the Mainfile's organisations file: "Organisation Key 8, Postcode Type 1, Organisation Name 60, Department
-- Name 60, Filler 24".
-- Assumes nothing.
use Rattle.std.specs.Prelude.{ℕ}

abbrev pub width : ℕ
width = 153

abbrev pub key : ℕ
key = 0

abbrev pub type : ℕ
type = 8

abbrev pub name : ℕ
name = 9

abbrev pub department : ℕ
department = 69

abbrev pub department_end : ℕ
department_end = 129
