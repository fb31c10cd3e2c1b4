-- What entries say of a point file.
-- Assumes nothing.
use Rattle.std.specs.Prelude.{ℕ, List}
use Rattle.changes_list.specs.Listing.{live_answer}
use Rattle.tally.specs.Tally.{Entry}
use Rattle.tally_bytes.specs.Tells.{Tells}
use Rattle.changes_codes.specs.Codes.{all_codes}

-- each code has the live views that `ttw_live` answers for it, and there are no others
abbrev pub Told : (points : List ℕ) → List Entry → Type 0
Told points es = Tells (live_answer points) (all_codes points) es
