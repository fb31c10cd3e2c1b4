-- What a row says beside texts and number.
-- Assumes nothing.
use Rattle.std.specs.Prelude.{ℕ, ◌+◌, ◌≡◌, List, [], ◌∷◌}
use Rattle.field.specs.Text.{part}
use Rattle.refusal.specs.Outcome.{Outcome}
use Rattle.source.specs.declared.DeliveryPoint.{DeliveryPoint}
use Rattle.source.specs.Address.{Elements}
use Rattle.csv_paf.specs.Row.{row_text, written_outcome}
use Rattle.csv_write.specs.declared.Ending.{Ending}
use Rattle.refusal.specs.Answer.{Answer}

abbrev pub suffix_of : Ending → List ℕ
suffix_of x = x.digit ∷ x.letter ∷ []

-- the row of elements with this ending, and what writing it comes to
abbrev pub row_by : Ending → Elements → List ℕ
row_by x e = row_text x.kind x.indicator (suffix_of x) e

abbrev pub written_by : Ending → Elements → List ℕ → Outcome Answer
written_by x e out = written_outcome (row_by x e) e out

-- the ending of a delivery point, whose suffix stands in `own`
pub record EndingOf (own : List ℕ) (p : DeliveryPoint) (x : Ending) : Type 0 where
  pub kind : x.kind ≡ p.postcode_type
  pub indicator : x.indicator ≡ p.indicator
  pub suffix : suffix_of x ≡ part own p.suffix (p.suffix + 2)
