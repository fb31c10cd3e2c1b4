-- Entries as bytes, computed: of the codes AB1, EC1N and AB1, two entries with 2 and 1.
-- Assumes nothing.
use mathlib.Core.Path.{◌≡◌, refl}
use mathlib.Core.List.{[], ◌∷◌, ◌++◌}
use Rattle.refusal.specs.declared.Reason.TheVariants.{Room}
use Rattle.refusal.specs.Outcome.{said}
use Rattle.tally.specs.Tally.{tally}
use Rattle.tally_bytes.specs.Entries.{entry_bytes, roomed, entries_outcome}
use Rattle.std.specs.Prelude.{Ok}
use Rattle.refusal.specs.Answer.{refusal}

bytes-of-two : entry_bytes (tally (0x41423120 ∷ 0x4543314E ∷ 0x41423120 ∷ []))
    ≡ (0x41 ∷ 0x42 ∷ 0x31 ∷ 0x20 ∷ 0 ∷ 0 ∷ 0 ∷ 2 ∷ []) ++ (0x45 ∷ 0x43 ∷ 0x31 ∷ 0x4E ∷ 0 ∷ 0 ∷ 0 ∷ 1 ∷ [])
bytes-of-two = refl

-- nine bytes are enough for one code, and one stays as it was; seven are refused, and stay as they were
nine : entries_outcome (tally (0x41423120 ∷ [])) (9 ∷ 9 ∷ 9 ∷ 9 ∷ 9 ∷ 9 ∷ 9 ∷ 9 ∷ 9 ∷ [])
    ≡ said (Ok 1) (0x41 ∷ 0x42 ∷ 0x31 ∷ 0x20 ∷ 0 ∷ 0 ∷ 0 ∷ 1 ∷ 9 ∷ [])
unfolding roomed
nine = refl

seven : entries_outcome (tally (0x41423120 ∷ [])) (9 ∷ 9 ∷ 9 ∷ 9 ∷ 9 ∷ 9 ∷ 9 ∷ [])
    ≡ said (refusal 0 (Room 8)) (9 ∷ 9 ∷ 9 ∷ 9 ∷ 9 ∷ 9 ∷ 9 ∷ [])
unfolding roomed
seven = refl

-- no code, and no byte is needed
none : entries_outcome (tally []) [] ≡ said (Ok 0) []
unfolding roomed
none = refl
