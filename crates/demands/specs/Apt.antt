-- What a source has to be, so that each call over it is told by its number and no label is longer than document 01 says:
-- proved of a pair of files, of a set and of a book with a table file, whichever is lent.
-- Assumes nothing.
use Rattle.std.specs.Prelude.{ℕ, ◌≤◌, ◌<◌, ◌≡◌, List, length}
use Rattle.refusal.specs.Packed.{FitsRefusal}
use Rattle.refusal.specs.declared.Reason.{Reason}
use Rattle.source.specs.Address.{Lookup, Address}
use Rattle.source.specs.Same.{AllOf}
use Rattle.ask.specs.Source.{Source}
use Rattle.demands.specs.Two.{AllBounded, ViewsCapital}
use Rattle.demands.specs.Three.{Packable}
use Rattle.demands.specs.Apart.{OfWhole, AnswerIs}
use Rattle.std.specs.Prelude.{Ok}
use Rattle.refusal.specs.Answer.{Answer}

-- a refusal of the whole, of those that may refuse it: a file's, a pack's, that of a code; a book's where one is lent
pub record WholeBy (Whole : Reason → Type 0) (file : ℕ) (why : Reason) : Type 0 where
  pub apart : Whole why
  pub fits : FitsRefusal file why

abbrev pub WholeSays : ℕ → Reason → Type 0
WholeSays = WholeBy OfWhole

-- what judges the whole says one of these, or a value
abbrev pub Judging : Answer → Type 0
Judging = AnswerIs WholeSays

-- a view whose number the second detail can hold
abbrev pub Numbered : Address → Type 0
Numbered a = a.view < 1_048_576

-- views with bounded labels, no line of which begins with a small letter; no more of them than the second detail can count
pub record AptViews (look : Lookup) (views : List Address) : Type 0 where
  pub bounded : AllBounded look views
  pub capital : ViewsCapital look views
  pub numbered : AllOf Numbered views
  pub few : length views ≤ 1_048_575

-- its own refusals are of the whole; where it is accepted its views are apt, and so are the live ones; the line before one in
-- a listing is short; and a pack can be cut from it
pub record AptBy (Whole : Reason → Type 0) (s : Source) : Type 0 where
  pub judges : AnswerIs (WholeBy Whole) s.judged
  pub views : {n : ℕ} → s.judged ≡ Ok n → AptViews s.look s.views
  pub live : {n : ℕ} → s.judged ≡ Ok n → AptViews s.look s.live
  pub headed : (a : Address) → Numbered a → length (s.heading a) ≤ 80
  pub packable : Packable s

-- where no book is lent
abbrev pub Apt : Source → Type 0
Apt = AptBy OfWhole
