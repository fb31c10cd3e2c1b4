-- What is known of the codes of a point file by the answer: a value is how many there are, they stand in the buffer, and they
-- are all there are.
-- Assumes nothing.
use Prim.Native.Nat.{ℕ, ◌*◌, ◌≤◌}
use mathlib.Core.Path.{◌≡◌, refl, ◌∙◌}
use mathlib.Core.List.{List, ◌++◌}
use native.Mathlib.Omega.{arith}
use lib.ListN.{length, drop}
use Rattle.refusal.proofs.Answers.{refused-value}
use Rattle.file.specs.Check.{checked}
use Rattle.file.specs.Formats.{point_format}
use Rattle.refusal.specs.Outcome.{afterwards}
use Rattle.refusal.proofs.Outcomes.{answer-of, afterwards-value}
use Rattle.file.specs.Accepted.{Accepted}
use Rattle.file.proofs.Accepted.{accepted, accepts}
use Rattle.tally.proofs.Tallies.{tally-few}
use Rattle.tally_bytes.specs.Entries.{entry_bytes, entries_outcome}
use Rattle.tally_bytes.proofs.Entries.{entries-long, fits, entries-written}
use Rattle.changes_codes.specs.Codes.{all_codes, codes_in, codes_outcome}
use Rattle.changes_codes.specs.Told.{Told}
use Rattle.changes_codes.proofs.Gathered.{all-few}
use Rattle.changes_codes.proofs.Told.{codes-told}
use Rattle.std.specs.Prelude.{Ok, Err}
use Rattle.refusal.specs.Answer.{Answer, refusal}

-- no more codes than live views
pub entries-few : (points : List ℕ) → Accepted point_format points → length (codes_in points) ≤ 20_000
entries-few points p = omega (arith, tally-few (all_codes points), all-few points p)

pub record Answered (points out : List ℕ) (n : ℕ) : Type 0 where
  pub is-accepted : Accepted point_format points
  pub many : n ≡ length (codes_in points)
  pub written : (codes_outcome points out).memory ≡ entry_bytes (codes_in points) ++ drop (8 * n) out
  pub told : Told points (codes_in points)

module _ (points out : List ℕ) where
  pub answered : (n : ℕ) → (codes_outcome points out).answer ≡ Ok n → Answered points out n
  unfolding codes_outcome
  answered n e = by_answer (checked point_format points) refl e
    where
      by_answer : (first : Answer) → checked point_format points ≡ first
          → (afterwards refusal first out (entries_outcome (codes_in points) out)).answer ≡ Ok n
          → Answered points out n
      by_answer (Ok m) h e =
          let a = accepted point_format points m h in
          let w = entries-written (codes_in points) out n e in
          record { is-accepted = a; many = w.0; written = simp h w.1; told = codes-told points a }
      by_answer (Err r) h e = absurd (refused-value r.file n r.reason e)

  -- an accepted file and room enough are answered with a value
  pub answers : Accepted point_format points → 8 * length (codes_in points) ≤ length out
      → (codes_outcome points out).answer ≡ Ok (length (codes_in points))
  unfolding codes_outcome
  answers a room =
      answer-of
      (afterwards-value refusal out _ (accepts point_format points a)
      ∙ fits (length (codes_in points)) (entry_bytes (codes_in points)) out (omega (arith, entries-long (codes_in points))))
