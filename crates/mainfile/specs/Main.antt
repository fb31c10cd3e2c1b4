-- The source that a Mainfile set is.
-- Assumes nothing.
use Rattle.std.specs.Prelude.{ℕ, List, [], ◌∷◌, ◌++◌}
use Rattle.item.specs.Lines.{view_word, spaced_number}
use Rattle.ask.specs.Source.{Source}
use Rattle.mainfile.specs.Set.{Set, set_judged}
use Rattle.mainfile.specs.Rows.{set_lookup}
use Rattle.mainfile.specs.Addresses.{addresses_in}

-- "the line `view N`, no letter"
abbrev pub number_line : ℕ → List ℕ
number_line view = view_word ++ (spaced_number view ++ (10 ∷ []))

-- "Every address counts as live."
abbrev pub main_of : Set → Source
main_of s =
    record {
      judged = set_judged s;
      look = set_lookup s;
      views = addresses_in s;
      live = addresses_in s;
      heading = λ a. number_line a.view;
    }
