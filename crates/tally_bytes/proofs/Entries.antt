-- Laws of entries as bytes: how many bytes there are, those that fit and those that do not.
-- Assumes nothing.
use Prim.Native.Nat.{ℕ, ◌*◌, ◌≤◌, ◌<◌}
use mathlib.Core.Path.{◌≡◌, refl, sym, ap, ◌∙◌}
use mathlib.Core.Bool.{Bool, true, false, cond}
use mathlib.Core.List.{List, [], ◌∷◌, ◌++◌}
use native.Mathlib.Omega.{arith}
use borrow.Author.Tests.{le-leb, lt-leb}
use lib.Dec.{leb}
use lib.ListN.{length, drop}
use Rattle.refusal.specs.declared.Reason.TheVariants.{Room}
use Rattle.refusal.specs.Outcome.{said}
use Rattle.refusal.proofs.Answers.{refused-value, same-value}
use Rattle.tally.specs.Tally.{Entry}
use Rattle.tally_bytes.specs.Entries.{entry_bytes, roomed, entries_outcome}
use Rattle.std.specs.Prelude.{Ok}
use Rattle.refusal.specs.Answer.{refusal}

-- eight bytes for each code
pub entries-long : (es : List Entry) → length (entry_bytes es) ≡ 8 * length es
entries-long [] = refl
entries-long (e ∷ es) = omega (arith, entries-long es)

-- bytes that fit, and bytes that do not
module _ (n : ℕ) (bytes out : List ℕ) where
  pub fits : length bytes ≤ length out → roomed n bytes out ≡ said (Ok n) (bytes ++ drop (length bytes) out)
  unfolding roomed
  fits h = rw (le-leb (length bytes) (length out) h)

  pub falls-short : length out < length bytes → roomed n bytes out ≡ said (refusal 0 (Room (length bytes))) out
  unfolding roomed
  falls-short h = rw (lt-leb (length bytes) (length out) h)

-- entries in a buffer, by the answer: how many there are, and that they stand there
pub entries-written : (es : List Entry) (out : List ℕ) (n : ℕ) → (entries_outcome es out).answer ≡ Ok n
    → (n ≡ length es) × ((entries_outcome es out).memory ≡ entry_bytes es ++ drop (8 * n) out)
unfolding roomed
entries-written es out n e = by-test (leb (length (entry_bytes es)) (length out)) e
  where
    by-test : (t : Bool)
        → (cond t (said (Ok (length es)) (entry_bytes es ++ drop (length (entry_bytes es)) out))
        (said (refusal 0 (Room (length (entry_bytes es)))) out)
        ).answer
        ≡ Ok n
        → (n ≡ length es)
        × ((cond t (said (Ok (length es)) (entry_bytes es ++ drop (length (entry_bytes es)) out))
        (said (refusal 0 (Room (length (entry_bytes es)))) out)
        ).memory
        ≡ entry_bytes es ++ drop (8 * n) out)
    by-test true e =
        let many : n ≡ length es = sym (same-value (length es) n e) in
        let size : length (entry_bytes es) ≡ 8 * n = entries-long es ∙ ap (8 *◌) (sym many) in
        (many, ap (λ k. entry_bytes es ++ drop k out) size)
    by-test false e = absurd (refused-value 0 n (Room (length (entry_bytes es))) e)
