-- `report::feed::text_at` meets its contract. Assumes nothing.
use borrow.Author.Rules.{rules}
use mathlib.Core.Path.{refl, sym}
use native.Mathlib.Omega.{arith}
use native.Mathlib.Nat.{le_of_lt}
use lib.Seq.{length-take-le, take_all}
use Rattle.report.proofs.Feeds.{fed-put}
use Rattle.report.proofs.feed.text_at.Statement.{statement}
use Rattle.report.proofs.feed.text_at.Tie as tie

returns : tie.Need-returns-then-t-room
returns c =
    let b = c in
    let i = b in
    fed-put i.requires (take_all _ _ i.if-t-room.true) b.bytes_at.ensures

slice-aggregate-bytes-at : tie.Need-slice_bounds-bytes_at-end
slice-aggregate-bytes-at c = sym (length-take-le _ _ (le_of_lt c.if-t-room.false))

bytes-at-requires-2 : tie.Need-bytes_at-requires-2
bytes-at-requires-2 c κs =
    let i = c in
    let s = i in
    omega (arith, s.requires, length-take-le _ s.args.t.now (le_of_lt i.if-t-room.false))

returns-2 : tie.Need-returns
returns-2 c =
    let b = c in
    fed-put b.requires refl b.bytes_at-2.ensures

pub text_at_spec : {M : Type 1} → statement M
text_at_spec =
    tie.close
    (tie.spec (search rules) (search rules) (search rules) returns slice-aggregate-bytes-at bytes-at-requires-2
    (search rules) returns-2)
