-- Runs of labels of a source: "One call takes a first view number, counted in a code where one is given, and a count".
-- "Only a refused file, pack or code refuses the whole."
-- Assumes nothing.
use Rattle.std.specs.Prelude.{ℕ, List}
use Rattle.refusal.specs.Outcome.{Outcome, afterwards}
use Rattle.run.specs.Series.{run_from}
use Rattle.ask.specs.Source.{Source}
use Rattle.ask.specs.Labels.{by_code, view_label, code_label}
use Rattle.refusal.specs.Answer.{refusal}
use Rattle.run.specs.Series.{Series}

-- "equal to asking for each in turn"
unfoldable pub views_run : Source → (first count : ℕ) → List ℕ → Outcome Series
views_run s first count out = afterwards refusal s.judged out (run_from (view_label s) first count out)

unfoldable pub code_run : Source → List ℕ → (first count : ℕ) → List ℕ → Outcome Series
code_run s code first count out = by_code refusal s code out (run_from (code_label s code) first count out)
