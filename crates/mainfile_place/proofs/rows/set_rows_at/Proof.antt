-- `mainfile_place::rows::set_rows_at` meets its contract. Assumes nothing.
use borrow.Author.Rules.{rules}
use Prim.Native.Nat.{ℕ}
use mathlib.Core.Path.{◌∙◌}
use mathlib.Core.List.{List, ◌++◌}
use Rattle.label.proofs.Going.{Going, going-room, going-left, going_step, going-last}
use Rattle.mainfile.specs.Set.{Set}
use Rattle.mainfile_source.specs.Rows.{row_files}
use Rattle.mainfile_mark.specs.Marks.{used_in_set}
use Rattle.mainfile_place.proofs.Written.{used_of, room_of, put_of, used_start}
use Rattle.mainfile_place.proofs.rows.set_rows_at.Statement.{statement}
use Rattle.mainfile_place.proofs.rows.set_rows_at.Tie as tie

-- from the start
module _ (b : tie.Start) where
  abbrev files : Set
  files =
      row_files b.args.localities.now b.args.thoroughfares.now b.args.descriptors.now b.args.buildings.now
      b.args.sub_buildings.now

  abbrev whole : List ℕ
  whole =
      used_in_set files b.args.of_localities.now b.args.of_thoroughfares.now b.args.of_descriptors.now
      b.args.of_buildings.now b.args.of_sub_buildings.now

  abbrev u₁ : List ℕ
  u₁ = used_of files 1 b.args.of_localities.now

  abbrev u₂ : List ℕ
  u₂ = used_of files 2 b.args.of_thoroughfares.now

  abbrev u₃ : List ℕ
  u₃ = used_of files 3 b.args.of_descriptors.now

  abbrev u₄ : List ℕ
  u₄ = used_of files 4 b.args.of_buildings.now

  abbrev u₅ : List ℕ
  u₅ = used_of files 5 b.args.of_sub_buildings.now

  begun : Going whole (u₁ ++ (u₂ ++ (u₃ ++ (u₄ ++ u₅)))) b.args.out.now b.args.at b.args.at b.args.out.now
  begun =
      used_start files b.args.of_localities.now b.args.of_thoroughfares.now b.args.of_descriptors.now
      b.args.of_buildings.now b.args.of_sub_buildings.now b.requires.0 b.args.out.now b.args.at

-- behind the localities
module _ (c : tie.After-rows_at-i) where
  abbrev b₁ : tie.Start
  b₁ = c.before.before.before.before.before.before.before.before.before.before.before.before.before.before

  after₁ : Going (whole b₁) (u₂ b₁ ++ (u₃ b₁ ++ (u₄ b₁ ++ u₅ b₁))) b₁.args.out.now b₁.args.at c.rows_at-i.result
      c.rows_at-i.new.out
  after₁ =
      going_step (u₂ b₁ ++ (u₃ b₁ ++ (u₄ b₁ ++ u₅ b₁))) (begun b₁)
      (put_of 1 c.row_shelf.ensures b₁.args.localities.now b₁.args.of_localities.now
      c.rows_at-i.ensures) b₁.requires.1

module _ (c : tie.After-rows_at-j) where
  abbrev c₁ : tie.After-rows_at-i
  c₁ = c.before.before.before.before.before

  abbrev b₂ : tie.Start
  b₂ = b₁ c₁

  after₂ : Going (whole b₂) (u₃ b₂ ++ (u₄ b₂ ++ u₅ b₂)) b₂.args.out.now b₂.args.at c.rows_at-j.result
      c.rows_at-j.new.out
  after₂ =
      going_step (u₃ b₂ ++ (u₄ b₂ ++ u₅ b₂)) (after₁ c₁)
      (put_of 2 c.row_shelf-2.ensures b₂.args.thoroughfares.now b₂.args.of_thoroughfares.now
      c.rows_at-j.ensures) b₂.requires.1

module _ (c : tie.After-rows_at-k) where
  abbrev c₂ : tie.After-rows_at-j
  c₂ = c.before.before.before.before.before

  abbrev b₃ : tie.Start
  b₃ = b₂ c₂

  after₃ : Going (whole b₃) (u₄ b₃ ++ u₅ b₃) b₃.args.out.now b₃.args.at c.rows_at-k.result
      c.rows_at-k.new.out
  after₃ =
      going_step (u₄ b₃ ++ u₅ b₃) (after₂ c₂)
      (put_of 3 c.row_shelf-3.ensures b₃.args.descriptors.now b₃.args.of_descriptors.now
      c.rows_at-k.ensures) b₃.requires.1

module _ (c : tie.After-rows_at-l) where
  abbrev c₃ : tie.After-rows_at-k
  c₃ = c.before.before.before.before.before

  abbrev b₄ : tie.Start
  b₄ = b₃ c₃

  after₄ : Going (whole b₄) (u₅ b₄) b₄.args.out.now b₄.args.at c.rows_at-l.result
      c.rows_at-l.new.out
  after₄ =
      going_step (u₅ b₄) (after₃ c₃)
      (put_of 4 c.row_shelf-4.ensures b₄.args.buildings.now b₄.args.of_buildings.now
      c.rows_at-l.ensures) b₄.requires.1

rows-at-requires : tie.Need-rows_at-i-requires
rows-at-requires c κs =
    let b = c in
    room_of 1 c.row_shelf.ensures b.args.localities.now b.args.of_localities.now
    b.args.at _ (going-room (u₁ b.before.before.before.before.before.before.before.before.before.before.before.before.before) (u₂ b.before.before.before.before.before.before.before.before.before.before.before.before.before ++ (u₃ b.before.before.before.before.before.before.before.before.before.before.before.before.before ++ (u₄ b.before.before.before.before.before.before.before.before.before.before.before.before.before ++ u₅ b.before.before.before.before.before.before.before.before.before.before.before.before.before))) (begun b.before.before.before.before.before.before.before.before.before.before.before.before.before) b.requires.1)

rows-at-requires-2 : tie.Need-rows_at-j-requires
rows-at-requires-2 c κs =
    let w = c in
    let b = b₁ w.before.before.before.before in
    room_of 2 c.row_shelf-2.ensures b.args.thoroughfares.now b.args.of_thoroughfares.now
    w.rows_at-i.result _ (going-room (u₂ b) (u₃ b ++ (u₄ b ++ u₅ b)) (after₁ w.before.before.before.before) b.requires.1)

rows-at-requires-3 : tie.Need-rows_at-k-requires
rows-at-requires-3 c κs =
    let w = c in
    let b = b₂ w.before.before.before.before in
    room_of 3 c.row_shelf-3.ensures b.args.descriptors.now b.args.of_descriptors.now
    w.rows_at-j.result _ (going-room (u₃ b) (u₄ b ++ u₅ b) (after₂ w.before.before.before.before) b.requires.1)

rows-at-requires-4 : tie.Need-rows_at-l-requires
rows-at-requires-4 c κs =
    let w = c in
    let b = b₃ w.before.before.before.before in
    room_of 4 c.row_shelf-4.ensures b.args.buildings.now b.args.of_buildings.now
    w.rows_at-k.result _ (going-room (u₄ b) (u₅ b) (after₃ w.before.before.before.before) b.requires.1)

rows-at-requires-5 : tie.Need-rows_at-requires
rows-at-requires-5 c κs =
    let w = c in
    let b = b₄ w.before.before.before.before in
    room_of 5 c.row_shelf-5.ensures b.args.sub_buildings.now b.args.of_sub_buildings.now
    w.rows_at-l.result _ (going-left (after₄ w.before.before.before.before) b.requires.1)

same_length : tie.Need-shape_of-out
same_length c =
    let fifth = c in
    let fourth = fifth in
    let third = c₃ fourth.before.before.before.before.before.before.before in
    let second = c₂ third in
    let first = c₁ second in
    fifth.rows_at.auto.out
    ∙ (fourth.rows_at-l.auto.out
    ∙ (third.rows_at-k.auto.out
    ∙ (second.rows_at-j.auto.out ∙ first.rows_at-i.auto.out)))

returns : tie.Need-returns
returns c =
    let l = c in
    let w = l in
    let b = b₄ w.before.before.before.before.before.before.before in
    going-last (after₄ w.before.before.before.before.before.before.before)
    (put_of 5 l.row_shelf-5.ensures b.args.sub_buildings.now b.args.of_sub_buildings.now
    l.rows_at.ensures) b.requires.1

pub set_rows_at_spec : {M : Type 1} → statement M
set_rows_at_spec =
    tie.close
    (tie.spec (search rules) rows-at-requires (search rules) rows-at-requires-2 (search rules) rows-at-requires-3
    (search rules) rows-at-requires-4 (search rules) rows-at-requires-5 same_length returns)
