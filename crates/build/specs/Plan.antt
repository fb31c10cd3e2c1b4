-- What a builder finds out of the delivery points that are packed: the first refusal, the rows referred to, the organisations.
-- Assumes nothing.
use Rattle.std.specs.Prelude.{ℕ, zero, suc, ◌+◌, Bool, false, cond, ◌||◌, List, [], ◌∷◌, ◌++◌, eqb, set}
use Rattle.field.specs.Test.{elem}
use Rattle.field.specs.Text.{text_in}
use Rattle.refusal.specs.Refusal.{with_view}
use Rattle.refusal.specs.Verdict.{or_else}
use Rattle.source.specs.declared.DeliveryPoint.{DeliveryPoint}
use Rattle.source.specs.Delivery.{asked_of, rows_for, refusal_in}
use Rattle.shelf.specs.Stock.{Stock}
use Rattle.pack.specs.Layout.{texts_bytes}
use Rattle.std.specs.Prelude.{Ok, Err}
use Rattle.refusal.specs.Verdict.{Verdict, fine}

-- a delivery point that is packed, with its number among the views
pub record Packed : Type 0 where
  pub view : ℕ
  pub point : DeliveryPoint

-- the rows that a delivery point refers to, "in offset order"
abbrev pub rows_of : Stock → DeliveryPoint → List ℕ
rows_of st p = rows_for st.row (asked_of p)

-- a refusal "together with its view number"
abbrev pub numbered_refusal : ℕ → Verdict → Verdict
numbered_refusal view (Ok _) = fine
numbered_refusal view (Err why) = Err (with_view view why)

-- refusal 8 or 9 of a delivery point that is packed
abbrev pub refusal_of : Stock → Packed → Verdict
refusal_of st d = numbered_refusal d.view (refusal_in d.point (rows_of st d.point))

-- "of the first live view in that code that has one"
abbrev pub first_refused : Stock → List Packed → Verdict
first_refused st [] = fine
first_refused st (d ∷ ds) = or_else (refusal_of st d) (first_refused st ds)

-- whether one of these refers to row i
abbrev pub refers_to : Stock → List Packed → ℕ → Bool
refers_to st [] i = false
refers_to st (d ∷ ds) i = elem i (rows_of st d.point) || refers_to st ds i

-- marks for rows, 0 being none: a row is marked, unless it is 0
abbrev pub mark_row : ℕ → List ℕ → List ℕ
mark_row row marks = cond (eqb row 0) marks (set marks row 1)

abbrev pub mark_rows : List ℕ → List ℕ → List ℕ
mark_rows [] marks = marks
mark_rows (row ∷ rows) marks = mark_rows rows (mark_row row marks)

-- all that these refer to
abbrev pub mark_all : Stock → List Packed → List ℕ → List ℕ
mark_all st [] marks = marks
mark_all st (d ∷ ds) marks = mark_all st ds (mark_rows (rows_of st d.point) marks)

-- "one row of type 6 (organisation, department) for each packed view with a follower": that of a delivery point, if any
unfoldable pub organisation_bytes : List ℕ → (there : Bool) → (at : ℕ) → List ℕ
organisation_bytes others there at =
    cond there (6 ∷ texts_bytes (text_in others at (at + 60) ∷ text_in others (at + 60) (at + 120) ∷ [])) []

abbrev pub organisation_row : List ℕ → DeliveryPoint → List ℕ
organisation_row others p = organisation_bytes others p.organised p.organisation

abbrev pub organisation_rows : List ℕ → List Packed → List ℕ
organisation_rows others [] = []
organisation_rows others (d ∷ ds) = organisation_row others d.point ++ organisation_rows others ds

-- how many there are
abbrev pub organisation_count : List Packed → ℕ
organisation_count [] = zero
organisation_count (d ∷ ds) = cond d.point.organised (suc (organisation_count ds)) (organisation_count ds)
