-- Places marked on the way over the slots.
-- Assumes nothing.
use Rattle.std.specs.Prelude.{ℕ, suc, ◌≤◌, ◌≡◌, Bool, cond, not, List, eqb, ltb, length, get_or}
use Rattle.book.specs.Layout.{slots}
use Rattle.book.specs.Search.{first_from}
use Rattle.book.specs.Book.{has_place}

-- whether one of the first n slots has a place
abbrev pub held_in : (slot : ℕ → List ℕ) → (n p : ℕ) → Bool
held_in slot n p = ltb (first_from (has_place slot p) n 0) n

-- the places that the first n slots have are marked by 1, the others by 0
pub record Marked (slot : ℕ → List ℕ) (n : ℕ) (marks : List ℕ) : Type 0 where
  pub size : length marks ≡ suc slots
  pub mark : (p : ℕ) → 1 ≤ p → p ≤ slots → get_or marks p 0 ≡ cond (held_in slot n p) 1 0

abbrev pub is_marked : (marks : List ℕ) → ℕ → Bool
is_marked marks p = not (eqb (get_or marks p 0) 0)
