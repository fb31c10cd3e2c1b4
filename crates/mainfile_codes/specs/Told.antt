-- What entries say of an address file.
-- Assumes nothing.
use Rattle.std.specs.Prelude.{ℕ, List}
use Rattle.mainfile_views.specs.Range.{live_answer}
use Rattle.tally.specs.Tally.{Entry}
use Rattle.tally_bytes.specs.Tells.{Tells}
use Rattle.mainfile_codes.specs.Codes.{all_codes}

-- each code has the addresses that `ttw_main_live` answers for it, and there are no others
abbrev pub Told : (file : List ℕ) → List Entry → Type 0
Told file es = Tells (live_answer file) (all_codes file) es
