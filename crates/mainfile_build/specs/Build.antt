-- The pack of a code from a set whose files are accepted.
-- Assumes nothing.
use Rattle.std.specs.Prelude.{ℕ, List}
use Rattle.refusal.specs.Outcome.{Outcome}
use Rattle.ask.specs.Source.{in_code}
use Rattle.pack.specs.Cutting.{cut_outcome}
use Rattle.pack.specs.Layout.{pack_of}
use Rattle.mainfile.specs.Set.{Set}
use Rattle.mainfile.specs.Rows.{set_lookup}
use Rattle.mainfile.specs.Addresses.{addresses_in}
use Rattle.refusal.specs.Answer.{Answer}

-- "the live views of that outward code in file order": "Every address counts as live."
abbrev pub set_pack : Set → (code : List ℕ) → List ℕ
set_pack s code = pack_of (set_lookup s) (in_code code (addresses_in s)) code

-- or the refusal
abbrev pub set_cut : Set → (code out : List ℕ) → Outcome Answer
set_cut s code out = cut_outcome (set_lookup s) (in_code code (addresses_in s)) code out
