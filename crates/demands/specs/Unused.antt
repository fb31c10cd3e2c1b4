-- Document 02, No. 13: "Unused rows must not matter."
-- Assumes nothing.
use Rattle.std.specs.Prelude.{ℕ, ◌≤◌, ◌≡◌, List}
use Rattle.source.specs.Same.{AllAgree}
use Rattle.ask.specs.Source.{Source}
use Rattle.ask.specs.Labels.{view_label, code_label}
use Rattle.ask.specs.Runs.{views_run, code_run}
use Rattle.ask.specs.Lists.{views_list, code_list}
use Rattle.pack.specs.Cutting.{pack_built}
use Rattle.changes_source.specs.Rows.{table_lookup}
use Rattle.changes_source.specs.Addresses.{addresses_in}
use Rattle.file_record.specs.Parts.{record_at}
use Rattle.mainfile_record.specs.Address.{width}
use Rattle.mainfile.specs.Set.{Set}
use Rattle.mainfile.specs.Rows.{set_lookup}
use Rattle.mainfile.specs.Addresses.{organisation_of}
use Rattle.mainfile.specs.Addresses as Main
use Rattle.mainfile_views.specs.Range.{views_in}

-- "two accepted table files which, for every key that any view refers to, have the same row or both none", a row being the
-- row in force
abbrev pub SameRows : (one other points : List ℕ) → Type 0
SameRows one other points = AllAgree (table_lookup one) (table_lookup other) (addresses_in points)

-- the same of two sets with one address file: for every key that an address refers to the same row or both none, and for
-- every address record the same organisation or both none
pub record SameInSets (one other : Set) : Type 0 where
  pub addresses : other.addresses ≡ one.addresses
  pub rows : AllAgree (set_lookup one) (set_lookup other) (Main.addresses_in one)
  pub organisations : (n : ℕ) → 1 ≤ n → n ≤ views_in one.addresses
      → organisation_of one.organisations (record_at width one.addresses n)
      ≡ organisation_of other.organisations (record_at width one.addresses n)

-- "Every label or its refusal, and every pack or refusal to build, must be the same under both": the answers, and the whole
-- lent buffer
pub record Unmoved (s t : Source) : Type 0 where
  pub labels : (view : ℕ) (out : List ℕ) → view_label s view out ≡ view_label t view out
  pub code_labels : (code : List ℕ) (k : ℕ) (out : List ℕ) → code_label s code k out ≡ code_label t code k out
  pub runs : (first count : ℕ) (out : List ℕ) → views_run s first count out ≡ views_run t first count out
  pub code_runs : (code : List ℕ) (first count : ℕ) (out : List ℕ)
      → code_run s code first count out ≡ code_run t code first count out
  pub lists : (first count : ℕ) (out : List ℕ) → views_list s first count out ≡ views_list t first count out
  pub code_lists : (code : List ℕ) (first count : ℕ) (out : List ℕ)
      → code_list s code first count out ≡ code_list t code first count out
  pub packs : (code out : List ℕ) → pack_built s code out ≡ pack_built t code out
