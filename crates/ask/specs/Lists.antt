-- Listings of a source: for each view its heading, then the label or the line of its refusal.
-- Assumes nothing.
use Rattle.std.specs.Prelude.{ℕ, List, []}
use Rattle.std.proofs.Math.Option.{Option, none, some}
use Rattle.refusal.specs.Outcome.{Outcome, afterwards}
use Rattle.source.specs.Address.{Lookup, Address}
use Rattle.source.specs.Resolve.{Resolved, resolve}
use Rattle.item.specs.Item.{Heading, item_outcome}
use Rattle.run.specs.Series.{run_from}
use Rattle.ask.specs.Source.{Source, in_code}
use Rattle.ask.specs.Labels.{kth, by_code}
use Rattle.refusal.specs.Answer.{Answer, refusal}
use Rattle.run.specs.Series.{Series}

-- ---- under any heading

abbrev pub resolved_of : Lookup → Option Address → Option Resolved
resolved_of look none = none
resolved_of look (some a) = some (resolve look a)

unfoldable pub kth_item : Heading → Lookup → List Address → ℕ → List ℕ → Outcome Answer
kth_item heading look addresses k out = item_outcome (heading k) (resolved_of look (kth addresses k)) out

-- the item of a view
unfoldable pub view_item : Heading → Source → (view : ℕ) → List ℕ → Outcome Answer
view_item heading s view out = afterwards refusal s.judged out (kth_item heading s.look s.views view out)

-- the item of the k-th live view in a code
unfoldable pub code_item : Heading → Source → List ℕ → (k : ℕ) → List ℕ → Outcome Answer
code_item heading s code k out =
    by_code refusal s code out (kth_item heading s.look (in_code code s.live) k out)

-- "answer, `*bytes` and memory as for runs"
unfoldable pub views_listed : Heading → Source → (first count : ℕ) → List ℕ → Outcome Series
views_listed heading s first count out = afterwards refusal s.judged out (run_from (view_item heading s) first count out)

unfoldable pub code_listed : Heading → Source → List ℕ → (first count : ℕ) → List ℕ → Outcome Series
code_listed heading s code first count out =
    by_code refusal s code out (run_from (code_item heading s code) first count out)

-- ---- under the source's own

-- the heading of the k-th of some addresses
abbrev pub heading_or : (Address → List ℕ) → Option Address → List ℕ
heading_or heading none = []
heading_or heading (some a) = heading a

abbrev pub headings : (Address → List ℕ) → List Address → Heading
headings heading addresses k = heading_or heading (kth addresses k)

-- "for `count` views from `first` on"
unfoldable pub views_list : Source → (first count : ℕ) → List ℕ → Outcome Series
views_list s = views_listed (headings s.heading s.views) s

-- "(live views of the code)"
unfoldable pub code_list : Source → List ℕ → (first count : ℕ) → List ℕ → Outcome Series
code_list s code = code_listed (headings s.heading (in_code code s.live)) s code
