-- An answer as one number: from bit 56 the refusal's number, from 52 the file to blame, from 32 the second detail, from
-- 0 the detail; where nothing is refused, the number is 0 and the value stands below bit 56.
-- Assumes nothing.
use Rattle.std.specs.Prelude.{ℕ, Ok, Err, ◌+◌, ◌*◌, ◌%◌, ◌<◌}
use Rattle.refusal.specs.declared.Reason.{Reason}
use Rattle.refusal.specs.Answer.{Answer}
use Rattle.refusal.specs.Refusal.{number, detail, second}

-- number 8 bits, file 4, second detail 20, detail 32
unfoldable pub word : ℕ → ℕ → ℕ → ℕ → ℕ
word n file s d =
    n % 256 * 72_057_594_037_927_936 + file % 16 * 4_503_599_627_370_496
    + (s % 1_048_576 * 4_294_967_296 + d % 4_294_967_296)

abbrev pub packed : Answer → ℕ
packed (Ok value) = value % 72_057_594_037_927_936
packed (Err r) = word (number r.reason) r.file (second r.reason) (detail r.reason)

-- what fits its bits: a value below 2 to the 56; a file below 16, details below 2 to the 20 and 2 to the 32
pub record FitsRefusal (file : ℕ) (reason : Reason) : Type 0 where
  pub file_fits : file < 16
  pub second_fits : second reason < 1_048_576
  pub detail_fits : detail reason < 4_294_967_296

abbrev pub Fits : Answer → Type 0
Fits (Ok value) = value < 72_057_594_037_927_936
Fits (Err r) = FitsRefusal r.file r.reason
