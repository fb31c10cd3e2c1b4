-- The texts of a row, one behind the other.
-- Assumes nothing.
use Prim.Native.Nat.{ℕ}
use mathlib.Core.Path.{◌≡◌, sym, ap}
use mathlib.Core.List.{List, [], ◌∷◌, append-nil}
use lib.ListN.{length}
use Rattle.pack.specs.Layout.{texts_bytes}
use Rattle.build.specs.Bytes.{sized}

-- the last text of a row
pub texts-last : (t : List ℕ) → sized t ≡ texts_bytes (t ∷ [])
texts-last t = ap (length t ∷◌) (sym (append-nil t))
