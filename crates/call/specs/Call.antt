-- The exported calls: what each says and what it leaves in lent memory. The contracts of `ttwibonal` cite this page, and so
-- do the demands.
-- Assumes nothing.
use Rattle.std.specs.Prelude.{ℕ, List}
use Rattle.refusal.specs.Outcome.{Outcome, said}
use Rattle.refusal.specs.Packed.{packed}
use Rattle.run.specs.Packed.{packed_series, series_bytes}
use Rattle.file_record.specs.Names.Table
use Rattle.file_record.specs.Names.Point
use Rattle.unspace_file.specs.Unspaced.{unspaced, unspaced_count}
use Rattle.file.specs.Check.{checked}
use Rattle.file.specs.Formats.{table_format, point_format}
use Rattle.ask.specs.Source.{Source}
use Rattle.ask.specs.Labels.{view_label, code_label}
use Rattle.ask.specs.Runs.{views_run, code_run}
use Rattle.ask.specs.Lists.{views_list, code_list}
use Rattle.csv_paf.specs.Row.{view_row, view_rows}
use Rattle.csv_paf.specs.File.{csv_judged}
use Rattle.csv_paf.specs.Ask.{csv_label, csv_labels, csv_list}
use Rattle.pack.specs.Opening.{opened}
use Rattle.pack.specs.Points.{pack_label, pack_suffix, pack_sector}
use Rattle.pack.specs.Cutting.{pack_built}
use Rattle.pack_runs.specs.Runs.{pack_run}
use Rattle.pack_items.specs.Lists.{pack_list}
use Rattle.changes_list.specs.Listing.{views_answer, letter_answer, live_answer}
use Rattle.changes_pair.specs.Pair.{pair_of}
use Rattle.changes_codes.specs.Codes.{codes_outcome}
use Rattle.mainfile.specs.Set.{Set}
use Rattle.mainfile.specs.Main.{main_of}
use Rattle.mainfile_views.specs.Range as Main
use Rattle.mainfile_list.specs.Listing as MainList
use Rattle.mainfile_codes.specs.Codes as MainCodes
use Rattle.book.specs.Book.{book_judged}
use Rattle.book.specs.Event.{event_outcome, tidy_outcome}
use Rattle.book_source.specs.Source.{book_of, book_live}
use Rattle.std.specs.Prelude.{Ok}
use Rattle.refusal.specs.Answer.{Answer}
use Rattle.run.specs.Series.{Series}

-- what is lent, of which labels are asked and packs are cut: a pair of Changes files, a Mainfile set, or a book and a table
-- file; "A pack may be built from either source"; "Labels may be asked and packs built from a book and an accepted table file"
pub data Lent : Type 0 where
  pair : (table points : List ℕ) → Lent
  set : (s : Set) → Lent
  a_book : (book table : List ℕ) → Lent

abbrev pub source_of : Lent → Source
source_of (pair table points) = pair_of table points
source_of (set s) = main_of s
source_of (a_book book table) = book_of book table

-- the files of which rows of CSV PAF are written
pub data Files : Type 0 where
  pair_files : (table points : List ℕ) → Files
  set_files : (s : Set) → Files

abbrev pub lent_of : Files → Lent
lent_of (pair_files table points) = pair table points
lent_of (set_files s) = set s

-- each with its arguments, but for what is written
pub data Call : Type 0 where
  of_table : (table : List ℕ) → Call
  of_points : (points : List ℕ) → Call
  of_views : (points : List ℕ) → Call
  of_letter : (points : List ℕ) (view : ℕ) → Call
  of_live : (points code : List ℕ) → Call
  of_codes : (points : List ℕ) → Call
  of_main : (s : Set) → Call
  of_main_live : (addresses code : List ℕ) → Call
  of_main_codes : (addresses : List ℕ) → Call
  of_label : (lent : Lent) (view : ℕ) → Call
  of_code_label : (lent : Lent) (code : List ℕ) (k : ℕ) → Call
  of_labels : (lent : Lent) (first count : ℕ) → Call
  of_code_labels : (lent : Lent) (code : List ℕ) (first count : ℕ) → Call
  of_list : (lent : Lent) (first count : ℕ) → Call
  of_code_list : (lent : Lent) (code : List ℕ) (first count : ℕ) → Call
  of_build : (lent : Lent) (code : List ℕ) → Call
  of_pack : (pack : List ℕ) → Call
  of_pack_label : (pack : List ℕ) (k : ℕ) → Call
  of_pack_labels : (pack : List ℕ) (first count : ℕ) → Call
  of_pack_list : (pack : List ℕ) (first count : ℕ) → Call
  of_pack_suffix : (pack : List ℕ) (k : ℕ) → Call
  of_sector : (pack : List ℕ) (digit : ℕ) → Call
  of_unspace_table : Call
  of_unspace_points : Call
  of_csv_row : (files : Files) (view : ℕ) → Call
  of_csv_rows : (files : Files) (first count : ℕ) → Call
  of_csv : (csv : List ℕ) → Call
  of_csv_label : (csv : List ℕ) (row : ℕ) → Call
  of_csv_labels : (csv : List ℕ) (first count : ℕ) → Call
  of_csv_list : (csv : List ℕ) (first count : ℕ) → Call
  of_book : (book : List ℕ) → Call
  of_book_live : (book code : List ℕ) → Call
  of_book_event : (points : List ℕ) (view : ℕ) → Call
  of_book_tidy : Call

-- what a call says: one answer, or that of a run or a listing
pub data Saying : Type 0 where
  one : Answer → Saying
  run : Series → Saying

-- a call that reads only, one that writes, and a run or a listing
abbrev pub reading : Answer → List ℕ → Outcome Saying
reading answer out = said (one answer) out

abbrev pub writing : Outcome Answer → Outcome Saying
writing o = said (one o.answer) o.memory

abbrev pub running : Outcome Series → Outcome Saying
running o = said (run o.answer) o.memory

-- a file that is lent to be rewritten where it stands: how many of its identifiers are, and the file then
abbrev pub rewriting : (width identifier : ℕ) → List ℕ → Outcome Saying
rewriting width identifier file = said (one (Ok (unspaced_count width identifier file))) (unspaced width identifier file)

-- what each comes to, `out` being the lent buffer at entry; of an event and of tidying it is the book
abbrev pub outcome_of : Call → (out : List ℕ) → Outcome Saying
outcome_of (of_table table) out = reading (checked table_format table) out
outcome_of (of_points points) out = reading (checked point_format points) out
outcome_of (of_views points) out = reading (views_answer points) out
outcome_of (of_letter points view) out = reading (letter_answer points view) out
outcome_of (of_live points code) out = reading (live_answer points code) out
outcome_of (of_codes points) out = writing (codes_outcome points out)
outcome_of (of_main s) out = reading (MainList.views_answer s) out
outcome_of (of_main_live addresses code) out = reading (Main.live_answer addresses code) out
outcome_of (of_main_codes addresses) out = writing (MainCodes.codes_outcome addresses out)
outcome_of (of_label lent view) out = writing (view_label (source_of lent) view out)
outcome_of (of_code_label lent code k) out = writing (code_label (source_of lent) code k out)
outcome_of (of_labels lent first count) out = running (views_run (source_of lent) first count out)
outcome_of (of_code_labels lent code first count) out = running (code_run (source_of lent) code first count out)
outcome_of (of_list lent first count) out = running (views_list (source_of lent) first count out)
outcome_of (of_code_list lent code first count) out = running (code_list (source_of lent) code first count out)
outcome_of (of_build lent code) out = writing (pack_built (source_of lent) code out)
outcome_of (of_pack pack) out = reading (opened pack) out
outcome_of (of_pack_label pack k) out = writing (pack_label pack k out)
outcome_of (of_pack_labels pack first count) out = running (pack_run pack first count out)
outcome_of (of_pack_list pack first count) out = running (pack_list pack first count out)
outcome_of (of_pack_suffix pack k) out = reading (pack_suffix pack k) out
outcome_of (of_sector pack digit) out = reading (pack_sector pack digit) out
outcome_of of_unspace_table out = rewriting Table.width Table.identifier out
outcome_of of_unspace_points out = rewriting Point.width Point.identifier out
outcome_of (of_csv_row files view) out = writing (view_row (source_of (lent_of files)) view out)
outcome_of (of_csv_rows files first count) out = running (view_rows (source_of (lent_of files)) first count out)
outcome_of (of_csv csv) out = reading (csv_judged csv) out
outcome_of (of_csv_label csv row) out = writing (csv_label csv row out)
outcome_of (of_csv_labels csv first count) out = running (csv_labels csv first count out)
outcome_of (of_csv_list csv first count) out = running (csv_list csv first count out)
outcome_of (of_book book) out = reading (book_judged book) out
outcome_of (of_book_live book code) out = reading (book_live book code) out
outcome_of (of_book_event points view) out = writing (event_outcome out points view)
outcome_of of_book_tidy out = writing (tidy_outcome out)

-- as C gets it: one number; and the bytes of a run or a listing, where they are asked for
abbrev pub number_of : Saying → ℕ
number_of (one answer) = packed answer
number_of (run series) = packed_series series

abbrev pub bytes_of : Saying → (before : ℕ) → ℕ
bytes_of (one answer) before = before
bytes_of (run series) before = series_bytes series before

pub record Called : Type 0 where
  pub number : ℕ
  pub memory : List ℕ
  pub bytes : ℕ

abbrev pub called : ℕ → List ℕ → ℕ → Called
called n m b = record { number = n; memory = m; bytes = b }

abbrev pub told : Outcome Saying → (before : ℕ) → Called
told o before = called (number_of o.answer) o.memory (bytes_of o.answer before)

-- `out` and `bytes` as they are lent
abbrev pub comes_to : Call → (out : List ℕ) → (bytes : ℕ) → Called
comes_to call out bytes = told (outcome_of call out) bytes
