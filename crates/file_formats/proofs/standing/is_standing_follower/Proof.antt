-- `file_formats::standing::is_standing_follower` meets its contract. Assumes nothing.
use borrow.Author.Rules.{rules}
use Prim.Native.Nat.{ℕ, ◌+◌, ◌-◌}
use mathlib.Core.Path.{◌≡◌}
use mathlib.Core.Bool.{true, false, false≢true}
use mathlib.Core.List.{List}
use native.Mathlib.Omega.{arith}
use borrow.Author.Tests.{eqb-false}
use lib.Dec.{eqb}
use Rattle.file_record.proofs.Records.{record-length}
use Rattle.file_fault.proofs.AtOnce.{neither}
use Rattle.file.specs.Check.{at}
use Rattle.file.specs.Formats.{needed, follows, point_format}
use Rattle.file.specs.Accepted.{FineRecord}
use Rattle.file.proofs.Accepted.{judged-record}
use Rattle.file.proofs.Laws.{judged-fine}
use Rattle.file_formats.proofs.Places.{owned, above-owner, owner-placed, follower-placed, risen}
use Rattle.file_formats.proofs.standing.is_standing_follower.Statement.{statement}
use Rattle.file_formats.proofs.standing.is_standing_follower.Tie as tie

returns : tie.Need-returns-then-i-needed_next
returns c = λ e. absurd (false≢true e)

-- the record before needs one behind it, stands as it must, and so this is the one
module _ (here : tie.After-whole_record) where
  abbrev start : tie.Start
  start = here.before.before.before.before.before

  abbrev file : List ℕ
  file = start.args.file.now

  abbrev i : ℕ
  i = start.args.i

  abbrev owner : List ℕ
  owner = at point_format file (i - 1)

  neither-was : (eqb i 1 ≡ false) × (eqb here.needed_next.result 0 ≡ false)
  neither-was = neither (eqb i 1) (eqb here.needed_next.result 0) here.if-i-needed_next.false

  needing : needed owner ≡ 0 → ⊥
  needing =
      let need = here in
      rw (need.needed_next.ensures, need.whole_record-before.ensures) at (eqb-false need.needed_next.result 0 neither-was.1)

  was : FineRecord point_format file (i - 1)
  was = judged-record point_format file (i - 1) (start.requires.0.last_fine (eqb-false i 1 neither-was.0))

  follower : follows owner (at point_format file i) ≡ true
  follower = owner-placed file i start.requires.0.low was.in-place needing

is-fine-follower-requires : tie.Need-is_fine_follower-requires
is-fine-follower-requires here κs =
    rw (here.whole_record-before.ensures, here.whole_record.ensures)
    (owned (owner here) (at point_format (file here) (i here)) (needing here) (follower here) (was here).well_formed)

returns-2 : tie.Need-returns
returns-2 c =
    let here = c in
    let rec = at point_format (file here.before) (i here.before) in
    let high = (start here.before).requires.0.high in
    λ e.
    judged-fine point_format (file here.before) (i here.before) (rw here.whole_record.ensures at (c.is_fine_follower.ensures e))
    (risen (eqb (i here.before) 1) _
    (above-owner (owner here.before) rec (needing here.before) (follower here.before) (record-length 168 (file here.before) (i here.before - 1) (omega (arith, high)))
    (record-length 168 (file here.before) (i here.before) (omega (arith, high)))))
    (follower-placed (owner here.before) rec (at point_format (file here.before) (i here.before + 1)) (start here.before).requires.1 (follower here.before))

pub is_standing_follower_spec : {M : Type 1} → statement M
is_standing_follower_spec =
    tie.close
    (tie.spec
    (search rules)
    (search rules)
    (search rules)
    returns
    (search rules)
    is-fine-follower-requires
    returns-2)
