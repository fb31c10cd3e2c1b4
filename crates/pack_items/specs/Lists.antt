-- Listings of a pack: "`ttw_pack_list(pack, first, count, out, bytes)`: the line `point K` and the label".
-- Assumes nothing.
use Rattle.std.specs.Prelude.{ℕ, List}
use Rattle.refusal.specs.Outcome.{Outcome, afterwards}
use Rattle.item.specs.Lines.{point_line}
use Rattle.item.specs.Item.{Heading}
use Rattle.pack.specs.Opening.{opened}
use Rattle.pack.specs.Points.{pack_item}
use Rattle.run.specs.Series.{run_from}
use Rattle.refusal.specs.Answer.{refusal}
use Rattle.run.specs.Series.{Series}

-- an accepted pack first; under any heading
unfoldable pub pack_listed : Heading → List ℕ → (first count : ℕ) → List ℕ → Outcome Series
pack_listed heading pack first count out =
    afterwards refusal (opened pack) out (run_from (pack_item heading pack) first count out)

-- under its own
unfoldable pub pack_list : List ℕ → (first count : ℕ) → List ℕ → Outcome Series
pack_list pack = pack_listed point_line pack
