-- How long a pack of a set may be.
-- Assumes nothing.
use Prim.Native.Nat.{ℕ, ◌<◌}
use mathlib.Core.Path.{◌≡◌}
use mathlib.Core.List.{List}
use native.Mathlib.Omega.{arith}
use lib.ListN.{length}
use Rattle.field_outward.specs.Outward.{outward_fault}
use Rattle.file.specs.Mainfile as Format
use Rattle.file.proofs.Laws.{within-limit}
use Rattle.shelf.specs.Stock.{Stock, joined}
use Rattle.ask.specs.Source.{in_code}
use Rattle.ask.proofs.Laws.{in-code-all}
use Rattle.mainfile.specs.Set.{Set}
use Rattle.mainfile.specs.Rows.{shelf_of, file_of, kind_stock, set_stock, set_lookup}
use Rattle.mainfile.specs.Addresses.{addresses_in}
use Rattle.mainfile.specs.Accepted.{AcceptedSet}
use Rattle.mainfile_views.proofs.Together.{in-code-many, range-high}
use Rattle.pack.specs.Layout.{pack_of}
use Rattle.pack_sound.proofs.Fields.{FieldsSound}
use Rattle.pack_sound.proofs.Size.{ShortRows, shelf-short, joined-short, pack-small as few-small}
use Rattle.mainfile_sound.proofs.Addresses.{views-fields}

rows_short : (s : Set) → ShortRows (set_stock s)
unfolding set_stock
rows_short s =
    let k : ℕ → Stock = kind_stock s in
    let from₄ = joined (k 4) (k 5) in
    let from₃ = joined (k 3) from₄ in
    let from₂ = joined (k 2) from₃ in
    joined-short (k 1) from₂ (short 1)
    (joined-short (k 2) from₃ (short 2)
    (joined-short (k 3) from₄ (short 3) (joined-short (k 4) (k 5) (short 4) (short 5))))
  where
    short : (kind : ℕ) → ShortRows (kind_stock s kind)
    short kind = shelf-short (shelf_of kind) (file_of s kind)

-- an offset in a pack of an accepted set is told from an absent one
pub pack-small : (s : Set) (code : List ℕ) → AcceptedSet s → outward_fault code ≡ 0
    → length (pack_of (set_lookup s) (in_code code (addresses_in s)) code) < 4_294_967_295
pack-small s code ok e =
    few-small (set_stock s) (rows_short s) (in_code code (addresses_in s))
    (in-code-all FieldsSound code (addresses_in s) (views-fields s ok)) code e
    (omega (
      arith,
      in-code-many s code ok.addresses,
      range-high s code ok.addresses,
      within-limit Format.addresses s.addresses ok.addresses.is_whole,
    ))
