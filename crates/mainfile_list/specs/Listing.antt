-- What a set lists: its views.
-- Assumes nothing.
use Rattle.refusal.specs.Outcome.{after}
use Rattle.mainfile.specs.Set.{Set, set_judged}
use Rattle.mainfile_views.specs.Range.{views_in}
use Rattle.std.specs.Prelude.{Ok}
use Rattle.refusal.specs.Answer.{Answer}

-- "A view is an address record": how many views a set has, behind the refusals of its files
abbrev pub views_answer : Set → Answer
views_answer s = after (set_judged s) (Ok (views_in s.addresses))
