-- What a builder has before it writes: good rows, delivery points of which none is refused, and the starts of the rows.
-- Assumes nothing.
use Rattle.std.specs.Prelude.{ℕ, ◌≤◌, ◌<◌, ◌≡◌, List, [], ◌∷◌, length, get_or}
use Rattle.source.specs.Address.{Address}
use Rattle.source.specs.Delivery.{Says}
use Rattle.shelf.specs.Stock.{Stock, Good}
use Rattle.build.specs.Plan.{Packed, first_refused, mark_all}
use Rattle.build.specs.Placed.{Placed}
use Rattle.build_exact.specs.Within.{AllWithin}
use Rattle.refusal.specs.Verdict.{fine}

-- a delivery point that is packed, and the address that it says
pub record PackedSays (own others : List ℕ) (d : Packed) (a : Address) : Type 0 where
  pub says : Says own others d.point a
  pub view : d.view ≡ a.view

-- each of them, in order
pub data AllSay (own others : List ℕ) : List Packed → List Address → Type 0 where
  none_says : AllSay own others [] []
  one_says : {d : Packed} {a : Address} {ds : List Packed} {as' : List Address} → PackedSays own others d a
      → AllSay own others ds as'
      → AllSay own others (d ∷ ds) (a ∷ as')

-- the numbers of the views rise, and fit the key of a row
abbrev pub Rising : ℕ → List Packed → Type 0
Rising low [] = Unit {0}
Rising low (d ∷ ds) = (low < d.view) × ((d.view < 100_000_000) × Rising d.view ds)

pub record Started (st : Stock) (own others : List ℕ) (ds : List Packed) (as' : List Address) (fresh starts : List ℕ) :
    Type 0 where
  pub good : Good st
  pub said : AllSay own others ds as'
  pub within : AllWithin own ds
  pub rising : Rising 0 ds
  pub none_refused : first_refused st ds ≡ fine
  -- the marks before a row was marked
  pub no_marks : (i : ℕ) → get_or fresh i 0 ≡ 0
  pub long : st.last ≤ length fresh
  pub placed : Placed st (mark_all st ds fresh) starts
