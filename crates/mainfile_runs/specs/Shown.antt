-- What is shown of the addresses of a set, one behind the other: their labels alone, or their items in a listing.
-- Assumes nothing.
use Rattle.std.specs.Prelude.{ℕ, ◌+◌, Bool, true, false, cond, List, ◌++◌, eqb, ltb}
use Rattle.refusal.specs.declared.Reason.TheVariants.{NoSuchNumber}
use Rattle.refusal.specs.Outcome.{Outcome, said}
use Rattle.source.specs.Resolve.{Resolved}
use Rattle.label.specs.Label.{room_outcome, resolved_outcome}
use Rattle.item.specs.Item.{resolved_text}
use Rattle.run.specs.Series.{Asking}
use Rattle.mainfile.specs.Set.{Set}
use Rattle.mainfile.specs.Main.{number_line}
use Rattle.mainfile_label.specs.Places.{place_among, resolved_at}
use Rattle.refusal.specs.Answer.{Answer, refusal}

-- of an address: its label; in a listing "the line `view N`, no letter", then the label or the line of its refusal
abbrev pub shown_of : (listed : Bool) → (view : ℕ) → Resolved → List ℕ → Outcome Answer
shown_of true view r out = room_outcome (number_line view ++ resolved_text r) out
shown_of false view r out = resolved_outcome r out

-- of a record, whose number is its view's; "7 where no such view is left"
unfoldable pub shown_at : (listed : Bool) → Set → (place : ℕ) → List ℕ → Outcome Answer
shown_at listed s place out =
    cond (eqb place 0) (said (refusal 0 NoSuchNumber) out) (shown_of listed place (resolved_at s place) out)

-- of the k-th of so many records that stand together
abbrev pub shown_among : (listed : Bool) → Set → (first many : ℕ) → Asking
shown_among listed s first many = λ k out. shown_at listed s (place_among first many k) out

-- the next of them, 0 where there is none
abbrev pub place_behind : (first many place : ℕ) → ℕ
place_behind first many place = cond (ltb (place + 1) (first + many)) (place + 1) 0
