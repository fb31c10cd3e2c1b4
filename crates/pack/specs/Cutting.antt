-- Building the pack of a code from a source. Of a pair of files: "table file, point file, 12, then the label's 8 or 9 of the first live view in
-- that code that has one, together with its view number, then 10."
-- Assumes nothing.
use Rattle.std.specs.Prelude.{ℕ, List, [], ◌∷◌}
use Rattle.refusal.specs.Refusal.{with_view}
use Rattle.refusal.specs.Outcome.{Outcome, said}
use Rattle.refusal.specs.Verdict.{or_else}
use Rattle.source.specs.Address.{Lookup, Address}
use Rattle.source.specs.Resolve.{Resolved, elements, refused, resolve}
use Rattle.label.specs.Label.{room_outcome}
use Rattle.ask.specs.Source.{Source, in_code}
use Rattle.ask.specs.Labels.{by_code}
use Rattle.pack.specs.Layout.{pack_of}
use Rattle.std.specs.Prelude.{Ok, Err}
use Rattle.refusal.specs.Answer.{Answer, refusal}
use Rattle.refusal.specs.Verdict.{Verdict, fine}

-- a label's refusal "together with its view number"
abbrev pub bad_of : ℕ → Resolved → Verdict
bad_of view (elements e) = fine
bad_of view (refused why) = Err (with_view view why)

-- "of the first live view in that code that has one"
abbrev pub first_bad : Lookup → List Address → Verdict
first_bad look [] = fine
first_bad look (a ∷ more) = or_else (bad_of a.view (resolve look a)) (first_bad look more)

abbrev pub cut_with : Verdict → (pack out : List ℕ) → Outcome Answer
cut_with (Ok _) pack out = room_outcome pack out
cut_with (Err why) pack out = said (refusal 0 why) out

-- the bytes of the pack of these views, or the refusal; "then 10"
unfoldable pub cut_outcome : Lookup → List Address → (code out : List ℕ) → Outcome Answer
cut_outcome look views code out = cut_with (first_bad look views) (pack_of look views code) out

-- the pack of a source for a code: "the live views of that outward code in file order"
unfoldable pub pack_built : Source → (code out : List ℕ) → Outcome Answer
pack_built s code out = by_code refusal s code out (cut_outcome s.look (in_code code s.live) code out)
