-- A run of labels or a listing of a source, as asked.
-- Assumes nothing.
use Rattle.std.specs.Prelude.{ℕ, Bool, true, false, List}
use Rattle.refusal.specs.Outcome.{Outcome}
use Rattle.ask.specs.Source.{Source}
use Rattle.ask.specs.Runs.{views_run, code_run}
use Rattle.ask.specs.Lists.{views_list, code_list}
use Rattle.run.specs.Series.{Series}

abbrev pub views_shown : (listed : Bool) → Source → (first count : ℕ) → List ℕ → Outcome Series
views_shown true s first count out = views_list s first count out
views_shown false s first count out = views_run s first count out

abbrev pub code_shown : (listed : Bool) → Source → List ℕ → (first count : ℕ) → List ℕ → Outcome Series
code_shown true s code first count out = code_list s code first count out
code_shown false s code first count out = code_run s code first count out
