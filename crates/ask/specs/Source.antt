-- A source that is asked: what is lent comes to this, whichever files it is.
-- Assumes nothing.
use Rattle.std.specs.Prelude.{ℕ, cond, List, [], ◌∷◌}
use Rattle.file_compare.specs.Order.{same}
use Rattle.source.specs.Address.{Lookup, Address}
use Rattle.refusal.specs.Answer.{Answer}

pub record Source : Type 0 where
  -- whether it is accepted at all, or the first refusal of its files
  pub judged : Answer
  -- what its keys find
  pub look : Lookup
  -- its delivery points, "numbered from 1 in file order", and those of them that count as live
  pub views : List Address
  pub live : List Address
  -- the line that stands before one of them in a listing
  pub heading : Address → List ℕ

-- "the live views of that outward code in file order"
abbrev pub in_code : List ℕ → List Address → List Address
in_code code [] = []
in_code code (a ∷ more) = cond (same a.outward code) (a ∷ in_code code more) (in_code code more)
