-- The number that an exported call answers tells its whole answer: what the call says fits the bits of that number.
-- Assumes nothing.
use Rattle.std.specs.Prelude.{ℕ, ◌%◌, ◌<◌, ◌≡◌, List, length, get_or}
use Rattle.refusal.specs.Refusal.{detail, second}
use Rattle.refusal.specs.Packed.{packed, FitsRefusal, Fits}
use Rattle.run.specs.Packed.{packed_series, series_bytes}
use Rattle.csv_paf.specs.File.{rows_of}
use Rattle.pack.specs.Opening.{point_count}
use Rattle.call.specs.Call.{Call, of_pack, of_pack_labels, of_pack_list, of_sector, of_csv, of_csv_label, of_csv_labels, of_csv_list, Saying, one, run, outcome_of, number_of}
use Rattle.std.specs.Prelude.{Ok, Err}
use Rattle.refusal.specs.Answer.{refusal}
use Rattle.run.specs.Series.{Series}
use Rattle.run.specs.declared.Run.TheVariants.{Stopped, Done}

-- ---- what fits

-- of a run or a listing: where it is done, the labels below 2 to the 56; where it stopped, the labels before it below 2 to the 20, and the
-- refusal, which names no view
abbrev pub FitsSeries : Series → Type 0
FitsSeries (Err r) = FitsRefusal r.file r.reason
FitsSeries (Ok (Stopped labels bytes why)) = (labels < 1_048_576) × ((second why ≡ 0) × (detail why < 4_294_967_296))
FitsSeries (Ok (Done labels bytes)) = labels < 72_057_594_037_927_936

abbrev pub FitsSaying : Saying → Type 0
FitsSaying (one answer) = Fits answer
FitsSaying (run series) = FitsSeries series

-- what is told: of a stop, the labels before it modulo 2 to the 20
abbrev pub told_series : Series → Series
told_series (Err r) = refusal r.file r.reason
told_series (Ok (Stopped labels bytes why)) = Ok (Stopped (labels % 1_048_576) bytes why)
told_series (Ok (Done labels bytes)) = Ok (Done labels bytes)

abbrev pub as_told : Saying → Saying
as_told (one answer) = one answer
as_told (run series) = run (told_series series)

-- the exceptions, of which less is told than they say: a run or a listing over a pack of more than 1,048,575 points, or over
-- a CSV file of more than 1,048,575 rows
pub data Exception : Call → Type 0 where
  large_pack : {pack : List ℕ} {first count : ℕ} → 1_048_575 < point_count pack → Exception (of_pack_labels pack first count)
  large_list : {pack : List ℕ} {first count : ℕ} → 1_048_575 < point_count pack → Exception (of_pack_list pack first count)
  large_file : {csv : List ℕ} {first count : ℕ} → 1_048_575 < length (rows_of csv) → Exception (of_csv_labels csv first count)
  large_rows : {csv : List ℕ} {first count : ℕ} → 1_048_575 < length (rows_of csv) → Exception (of_csv_list csv first count)

-- ---- every call

-- the pack of a call that counts its points
pub data CountedIn : Call → List ℕ → Type 0 where
  to_open : {pack : List ℕ} → CountedIn (of_pack pack) pack
  to_run : {pack : List ℕ} {first count : ℕ} → CountedIn (of_pack_labels pack first count) pack
  to_list : {pack : List ℕ} {first count : ℕ} → CountedIn (of_pack_list pack first count) pack
  to_sector : {pack : List ℕ} {digit : ℕ} → CountedIn (of_sector pack digit) pack

-- the file of a call that numbers its rows
pub data NumberedIn : Call → List ℕ → Type 0 where
  to_check : {csv : List ℕ} → NumberedIn (of_csv csv) csv
  to_label : {csv : List ℕ} {row : ℕ} → NumberedIn (of_csv_label csv row) csv
  to_labels : {csv : List ℕ} {first count : ℕ} → NumberedIn (of_csv_labels csv first count) csv
  to_items : {csv : List ℕ} {first count : ℕ} → NumberedIn (of_csv_list csv first count) csv

-- what is asked of a call: that such a pack holds bytes, as the type of its slice says, and that such a file is shorter than
-- 4 GiB, so that 14 can name each row
pub record Typed (call : Call) : Type 0 where
  pub pack_bytes : (pack : List ℕ) → CountedIn call pack → (i : ℕ) → get_or pack i 0 < 256
  pub csv_short : (csv : List ℕ) → NumberedIn call csv → length csv < 4_294_967_296

-- what is told fits and has the number of what was said; and but for the exception it is what was said
pub record Tells (call : Call) (said : Saying) : Type 0 where
  pub fits : FitsSaying (as_told said)
  pub number : number_of said ≡ number_of (as_told said)
  pub all : (Exception call → ⊥) → as_told said ≡ said

abbrev pub TellsAll : Call → Type 0
TellsAll call = (out : List ℕ) → Tells call (outcome_of call out).answer

-- ---- two inputs of a call

-- what C is told of both is the same: the number, and of a run or a listing the bytes
abbrev pub SameTold : (before : ℕ) → Saying → Saying → Type 0
SameTold before (one a) (one b) = packed a ≡ packed b
SameTold before (one a) (run t) = ⊥
SameTold before (run s) (one b) = ⊥
SameTold before (run s) (run t) = (packed_series s ≡ packed_series t) × (series_bytes s before ≡ series_bytes t before)
