-- Entries as bytes: "the outward codes .. rising, each 4 bytes and its count in 4 bytes, most significant first; value:
-- how many codes; refusals .., then 10".
-- Assumes nothing.
use Rattle.std.specs.Prelude.{ℕ, cond, List, [], ◌∷◌, ◌++◌, leb, length, drop}
use Rattle.refusal.specs.declared.Reason.TheVariants.{Room}
use Rattle.refusal.specs.Outcome.{Outcome, said}
use Rattle.pack.specs.Numbers.{bytes_of}
use Rattle.tally.specs.Tally.{Entry}
use Rattle.std.specs.Prelude.{Ok}
use Rattle.refusal.specs.Answer.{Answer, refusal}

-- "each 4 bytes and its count in 4 bytes, most significant first"
abbrev pub one_entry : (code count : ℕ) → List ℕ
one_entry code count = bytes_of 4 code ++ bytes_of 4 count

abbrev pub entry_bytes : List Entry → List ℕ
entry_bytes [] = []
entry_bytes (e ∷ es) = one_entry e.code e.count ++ entry_bytes es

-- a value and the bytes where they fit; "10: lent buffer shorter .. bytes needed", and "A refusal leaves lent buffers
-- unwritten"
unfoldable pub roomed : ℕ → (bytes out : List ℕ) → Outcome Answer
roomed n bytes out =
    cond (leb (length bytes) (length out))
    (said (Ok n) (bytes ++ drop (length bytes) out))
    (said (refusal 0 (Room (length bytes))) out)

-- "value: how many codes"
abbrev pub entries_outcome : List Entry → List ℕ → Outcome Answer
entries_outcome es out = roomed (length es) (entry_bytes es) out
