-- `mainfile_source::inner::rows_in` meets its contract. Assumes nothing.
use borrow.Author.Rules.{rules}
use Prim.Native.Nat.{ℕ, ◌≤◌, ◌<◌}
use mathlib.Core.Bool.{Bool, true, false, cond}
use mathlib.Core.List.{List}
use native.Mathlib.Omega.{arith}
use lib.Dec.{eqb}
use lib.ListN.{length, get_or}
use Rattle.source.specs.Address.{key_kinds, asked_by}
use Rattle.mainfile.specs.Set.{Set}
use Rattle.mainfile.specs.Rows.{file_of}
use Rattle.mainfile_source.specs.Rows.{row_files}
use Rattle.mainfile_source.proofs.Seven.{rows_short, set-rows}
use Rattle.mainfile_source.proofs.inner.rows_in.Statement.{statement}
use Rattle.mainfile_source.proofs.inner.rows_in.Tie as tie

-- once the rows of the first four files are counted
module _ (c : tie.After-rows_of-3) where
  abbrev looked : tie.After-kind_rows-found
  looked = c.before.before.before.before.before

  abbrev start : tie.Start
  start = looked.before.before.before.before.before.before

  abbrev files : Set
  files =
      let a = start.args in
      row_files a.localities.now a.thoroughfares.now a.descriptors.now a.buildings.now a.sub_buildings.now

  -- counts are small beside a number, and so are rows
  one : c.rows_of-two.result < 400_000_000_000_000_000
  one = omega (arith, c.rows_of-two.ensures, start.well_formed.0.1)

  two : c.rows_of.result < 400_000_000_000_000_000
  two = omega (arith, c.rows_of.ensures, start.well_formed.1.0.1)

  three : c.rows_of-2.result < 400_000_000_000_000_000
  three = omega (arith, c.rows_of-2.ensures, start.well_formed.1.1.0.1)

  four : c.rows_of-3.result < 400_000_000_000_000_000
  four = omega (arith, c.rows_of-3.ensures, start.well_formed.1.1.1.0.1)

  short : (i : ℕ) → get_or looked.kind_rows-found.result.rows i 0 ≤ 9_223_372_036_854_775_808
  short i =
      rw looked.kind_rows-found.ensures
      (rows_short files 9_223_372_036_854_775_808
      (λ kind. by_tests (eqb kind 1) (eqb kind 2) (eqb kind 3) (eqb kind 4)) (asked_by key_kinds start.args.keys) i)
    where
      by_tests : (t u v w : Bool)
          → length
          (cond t (file_of files 1) (cond u (file_of files 2) (cond v (file_of files 3) (cond w (file_of files 4) (file_of files 5)))))
          ≤ 9_223_372_036_854_775_808
      by_tests true u v w = omega (arith, start.well_formed.0.1)
      by_tests false true v w = omega (arith, start.well_formed.1.0.1)
      by_tests false false true w = omega (arith, start.well_formed.1.1.0.1)
      by_tests false false false true = omega (arith, start.well_formed.1.1.1.0.1)
      by_tests false false false false = omega (arith, start.well_formed.1.1.1.1.0.1)

add_five : tie.Need-overflow_add-five
add_five c = omega (arith, one c, two c, three c, four c)

behind-requires : tie.Need-behind-thoroughfare-requires
behind-requires c κs = omega (arith, one c, short c 1)

behind-requires-2 : tie.Need-behind-descriptor-requires
behind-requires-2 c κs = let k = c.before in omega (arith, one k, two k, short k 2)

behind-requires-3 : tie.Need-behind-dependent-requires
behind-requires-3 c κs = let k = c.before.before in omega (arith, one k, short k 3)

behind-requires-4 : tie.Need-behind-second-requires
behind-requires-4 c κs = let k = c.before.before.before in omega (arith, one k, two k, short k 4)

behind-requires-5 : tie.Need-behind-building-requires
behind-requires-5 c κs = let k = c.before.before.before.before in omega (arith, one k, two k, three k, short k 5)

behind-requires-6 : tie.Need-behind-sub_building-requires
behind-requires-6 c κs = let k = c.before.before.before.before.before in omega (arith, one k, two k, three k, four k, short k 6)

returns : tie.Need-returns
returns c =
    let k = c in
    rw (
      c.behind-sub_building.ensures,
      c.behind-building.ensures,
      c.behind-second.ensures,
      c.behind-dependent.ensures,
      c.behind-descriptor.ensures,
      c.behind-thoroughfare.ensures,
      k.rows_of-3.ensures,
      k.rows_of-2.ensures,
      k.rows_of.ensures,
      k.rows_of-two.ensures,
    )
    (set-rows (files k.before.before.before.before.before.before) (start k.before.before.before.before.before.before).requires.0 (start k.before.before.before.before.before.before).args.keys (start k.before.before.before.before.before.before).well_formed.1.1.1.1.1.0.1.0.1 (start k.before.before.before.before.before.before).requires.1
    (looked k.before.before.before.before.before.before).kind_rows-found.result.rows (looked k.before.before.before.before.before.before).kind_rows-found.ensures)

pub rows_in_spec : {M : Type 1} → statement M
rows_in_spec = tie.close (tie.spec (λ c κs. search rules) (λ c κs. search rules) (λ c κs. search rules) (λ c. search rules) (λ c κs. search rules) (λ c. search rules) (λ c κs. search rules) add_five (λ c. search rules) behind-requires (λ c. search rules) behind-requires-2 (λ c. search rules) behind-requires-3 (λ c. search rules) behind-requires-4 (λ c. search rules) behind-requires-5 (λ c. search rules) behind-requires-6 (λ c. search rules) returns)
