-- What is asked for labels one by one.
-- Assumes nothing.
use Rattle.std.specs.Prelude.{◌≡◌, ℕ, ◌+◌}
use Rattle.run.specs.Series.{Asking}

-- behind the label of number k the next number is next, and the same is asked
pub record GoesOn {S : Type 0} (asking : S → Asking) (is_next : S → ℕ → Type 0) (old new : S) (k : ℕ) : Type 0 where
  pub next : is_next new (k + 1)
  pub same : asking new ≡ asking old
