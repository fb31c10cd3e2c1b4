-- Rows looked for in the file of their kind.
-- Assumes nothing.
use Rattle.std.specs.Prelude.{ℕ, ◌+◌, cond, List, [], ◌∷◌, eqb}
use Rattle.source.specs.Address.{present, Asked, ref}
use Rattle.shelf.specs.Search.{found}
use Rattle.shelf.specs.Stock.{ahead}
use Rattle.mainfile.specs.Set.{Set}
use Rattle.mainfile.specs.Rows.{shelf_of, file_of, kind_stock}

-- a set of which the five files of rows are looked at
abbrev pub row_files : (localities thoroughfares descriptors buildings sub_buildings : List ℕ) → Set
row_files localities thoroughfares descriptors buildings sub_buildings =
    record {
      localities = localities;
      thoroughfares = thoroughfares;
      descriptors = descriptors;
      buildings = buildings;
      sub_buildings = sub_buildings;
      organisations = [];
      addresses = [];
    }

-- by a way from a kind and a number to a place in the file of that kind: 0 too where a key is zero
abbrev pub rows_by : (ℕ → ℕ → ℕ) → List Asked → List ℕ
rows_by row [] = []
rows_by row (a ∷ more) = cond (present a.key) (row a.kind (ref a.kind a.key)) 0 ∷ rows_by row more

-- what the search in the file of a kind finds for a number
abbrev pub kind_found : Set → (kind r : ℕ) → ℕ
kind_found s kind r = found (shelf_of kind) (file_of s kind) r

-- how many rows of a set go before those of a kind
abbrev pub rows_ahead : Set → (kind : ℕ) → ℕ
rows_ahead s kind =
    cond (eqb kind 1) 0
    (cond (eqb kind 2) (ahead (kind_stock s 1))
    (cond (eqb kind 3) (ahead (kind_stock s 1) + ahead (kind_stock s 2))
    (cond (eqb kind 4) (ahead (kind_stock s 1) + ahead (kind_stock s 2) + ahead (kind_stock s 3))
    (ahead (kind_stock s 1) + ahead (kind_stock s 2) + ahead (kind_stock s 3) + ahead (kind_stock s 4)))))

-- a row behind so many others; 0 stays none
abbrev pub behind_by : (before row : ℕ) → ℕ
behind_by before row = cond (eqb row 0) 0 (before + row)
