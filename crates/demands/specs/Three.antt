-- Demand 3, over any source: why a pack is not built, and what one that is built carries.
-- Assumes nothing.
use Rattle.std.specs.Prelude.{ℕ, ◌≤◌, ◌<◌, ◌≡◌, List, ◌∷◌, ◌++◌, length, drop}
use Rattle.field.specs.Test.{elem}
use Rattle.field_outward.specs.Outward.{outward_fault}
use Rattle.refusal.specs.Refusal.{with_view}
use Rattle.refusal.specs.declared.Reason.{Reason}
use Rattle.refusal.specs.declared.Reason.TheVariants.{Room, BadCode}
use Rattle.refusal.specs.Outcome.{said}
use Rattle.source.specs.Address.{Lookup, Address}
use Rattle.source.specs.Resolve.{refused, resolve}
use Rattle.source.specs.Same.{AllOf}
use Rattle.item.specs.Item.{Heading}
use Rattle.ask.specs.Source.{Source, in_code}
use Rattle.ask.specs.Labels.{code_label}
use Rattle.ask.specs.Runs.{code_run}
use Rattle.ask.specs.Lists.{code_listed}
use Rattle.pack.specs.Layout.{pack_of}
use Rattle.pack.specs.Opening.{edition, opened}
use Rattle.pack.specs.Points.{pack_label, pack_suffix, kth_suffix, pack_sector, address_sector}
use Rattle.pack.specs.Cutting.{first_bad, pack_built}
use Rattle.pack.specs.Sound.{Sound}
use Rattle.pack_runs.specs.Runs.{pack_run}
use Rattle.pack_items.specs.Lists.{pack_listed}
use Rattle.pack_carries.specs.Used.{refers, Rises}
use Rattle.pack_carries.specs.Rows.{rows_in, table_rows, organisation_rows}
use Rattle.demands.specs.Two.{Printed}
use Rattle.std.specs.Prelude.{Ok}
use Rattle.refusal.specs.Answer.{refusal}
use Rattle.refusal.specs.Verdict.{fine}

-- what a source has to be: where its files are accepted, a well formed code gives what a pack can be cut from, unless one
-- of the packed views is refused
pub record Packable (s : Source) : Type 0 where
  pub sound : {n : ℕ} → s.judged ≡ Ok n → (code : List ℕ) → outward_fault code ≡ 0
      → first_bad s.look (in_code code s.live) ≡ fine
      → Sound s.look (in_code code s.live) code

abbrev pub AllPrinted : Lookup → List Address → Type 0
AllPrinted look = AllOf (Printed look)

-- "the label's 8 or 9 of the first live view in that code that has one, together with its view number"
pub data FirstRefused (look : Lookup) : List Address → Reason → Type 0 where
  here : {a : Address} {more : List Address} {why : Reason} → resolve look a ≡ refused why
      → FirstRefused look (a ∷ more) (with_view a.view why)
  later : {a : Address} {more : List Address} {why : Reason} → Printed look a → FirstRefused look more why
      → FirstRefused look (a ∷ more) why

module _ (s : Source) (code : List ℕ) where
  abbrev pub packed : List Address
  packed = in_code code s.live

  abbrev pub whole : List ℕ
  whole = pack_of s.look packed code

-- "Building is refused exactly when a live view of that code has a missing key or a forbidden combination, or the buffer is
-- too short": what building comes to, case by case
pub data Building (s : Source) (code out : List ℕ) : Type 0 where
  files_refused : {file : ℕ} {why : Reason} → s.judged ≡ refusal file why
      → pack_built s code out ≡ said (refusal file why) out
      → Building s code out
  code_refused : {n : ℕ} → s.judged ≡ Ok n → (outward_fault code ≡ 0 → ⊥)
      → pack_built s code out ≡ said (refusal 0 BadCode) out
      → Building s code out
  view_refused : {n : ℕ} {why : Reason} → s.judged ≡ Ok n → outward_fault code ≡ 0
      → FirstRefused s.look (packed s code) why
      → pack_built s code out ≡ said (refusal 0 why) out
      → Building s code out
  too_short : {n : ℕ} → s.judged ≡ Ok n → outward_fault code ≡ 0 → AllPrinted s.look (packed s code)
      → length out < length (whole s code)
      → pack_built s code out ≡ said (refusal 0 (Room (length (whole s code)))) out
      → Building s code out
  built : {n : ℕ} → s.judged ≡ Ok n → outward_fault code ≡ 0 → AllPrinted s.look (packed s code)
      → length (whole s code) ≤ length out
      → pack_built s code out ≡ said (Ok (length (whole s code))) (whole s code ++ drop (length (whole s code)) out)
      → Building s code out

-- "It holds each table row that its views refer to once, and no other": the rows, read back from the pack's bytes, are
-- those of the numbers that rise, which are just the ones that a key of a packed view, not zero, refers to; then the
-- organisations, in view order (document 02: "Demands 2 and 3 read 'row' as 'row in force'", which is what the look-up finds)
pub record Rows (look : Lookup) (views : List Address) (pack : List ℕ) : Type 0 where
  pub numbers : List ℕ
  pub once : Rises 0 numbers
  pub no_other : (r : ℕ) → elem r numbers ≡ refers r views
  pub held : rows_in pack ≡ table_rows look numbers ++ organisation_rows views

-- "A pack built from accepted files opens, and for every number k and every buffer length answers label k as the files do
-- for the k-th live view of its code: same answer, same bytes written, same bytes untouched"; runs too: "demand 3 covers it";
-- and listings "but for the heading's words": under any heading, which that of the two calls are; and the suffix of point k
-- is the suffix of the k-th live view, and a sector has as many points as live views; "Demands 2 and 3 read edition 3"
pub record Carries (s : Source) (code pack : List ℕ) : Type 0 where
  pub of_edition : edition pack ≡ 3
  pub opens : opened pack ≡ Ok (length (in_code code s.live))
  pub labels : (k : ℕ) (out : List ℕ) → pack_label pack k out ≡ code_label s code k out
  pub runs : (first count : ℕ) (out : List ℕ) → pack_run pack first count out ≡ code_run s code first count out
  pub lists : (heading : Heading) (first count : ℕ) (out : List ℕ)
      → pack_listed heading pack first count out ≡ code_listed heading s code first count out
  pub suffixes : (k : ℕ) → pack_suffix pack k ≡ kth_suffix (in_code code s.live) k
  pub sectors : (digit : ℕ) → pack_sector pack digit ≡ address_sector (in_code code s.live) digit
  pub rows : Rows s.look (in_code code s.live) pack
