-- The answer of a run as C gets it: "reports how many were written and that label's own refusal".
-- Assumes nothing.
use Rattle.std.specs.Prelude.{ℕ, Ok, Err}
use Rattle.refusal.specs.Refusal.{number, detail}
use Rattle.refusal.specs.Packed.{word, packed}
use Rattle.run.specs.declared.Run.TheVariants.{Stopped, Done}
use Rattle.run.specs.Series.{Series}

-- of a stop, how many labels were written is the second detail
abbrev pub packed_series : Series → ℕ
packed_series (Ok (Stopped labels bytes why)) = word (number why) 0 labels (detail why)
packed_series (Ok (Done labels bytes)) = packed (Ok labels)
packed_series (Err r) = packed (Err r)

-- the bytes of the labels that were written; what was there before, where none was asked
abbrev pub series_bytes : Series → ℕ → ℕ
series_bytes (Ok (Stopped labels bytes why)) before = bytes
series_bytes (Ok (Done labels bytes)) before = bytes
series_bytes (Err r) before = before
