-- The rows that addresses use: "each row that its views refer to, and no other".
-- Assumes nothing.
use Rattle.std.specs.Prelude.{ℕ, ◌≤◌, ◌<◌, ◌≡◌, Bool, false, ◌&&◌, ◌||◌, List, [], ◌∷◌, eqb}
use Rattle.std.proofs.Math.Option.{some}
use Rattle.source.specs.Address.{Lookup, Address, present, Asked, keys_of, ref, kind_of, key_of}
use Rattle.pack.specs.Sound.{RowSound}

-- whether one of these keys, not zero, refers to a row
abbrev pub refers_in : ℕ → List Asked → Bool
refers_in r [] = false
refers_in r (a ∷ more) = (present a.key && eqb r (ref a.kind a.key)) || refers_in r more

-- whether one of these addresses does
abbrev pub refers : ℕ → List Address → Bool
refers r [] = false
refers r (a ∷ more) = refers_in r (keys_of a) || refers r more

-- each number above the one before, the first above low
abbrev pub Rises : ℕ → List ℕ → Type 0
Rises low [] = Unit {0}
Rises low (r ∷ rs) = (low < r) × Rises r rs

-- what a number stands for: a row of a table that is found, and sound
pub record RowFound (look : Lookup) (r : ℕ) : Type 0 where
  pub low : 1 ≤ kind_of r
  pub high : kind_of r ≤ 5
  pub texts : List (List ℕ)
  pub found : look (kind_of r) (key_of r) ≡ some texts
  pub sound : RowSound (kind_of r) texts
