-- What a writer does to a lent buffer where the text may be longer than the buffer.
-- Assumes nothing.
use Rattle.std.specs.Prelude.{ℕ, ◌-◌, ◌≤◌, List, length, take}
use Rattle.label.specs.Put.{Put}

-- as much of a text as goes into a buffer
abbrev pub fitting : List ℕ → List ℕ → List ℕ
fitting text out = take (length out) text

-- `text` stands at `at` as far as the buffer goes, and all else is as it was; the answer is the place after it
pub record Fed (text entry : List ℕ) (at r : ℕ) (exit : List ℕ) : Type 0 where
  pub start : at ≤ length entry
  pub put : Put (take (length entry - at) text) entry at r exit
  pub room : r ≤ length exit
