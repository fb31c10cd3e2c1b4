use Rattle.std.proofs.Common.{◌+◌, arith}
use Rattle.label.proofs.Puts.{room_as, room_after, put-none, put_then, put_as}
use Rattle.pack.specs.Layout.{texts_bytes}
use Rattle.build.specs.Bytes.{two_texts}
use Rattle.build.proofs.Laws.{no-organisation, some-organisation}
use Rattle.build_rows.proofs.organisations.organisation_at.Goals as goal

pub returns-then-not-there : goal.returns-then-not-there
returns-then-not-there c =
    let a = c.args in
    put_as (no-organisation a.others.now a.there a.texts c.if-not-there.true) (put-none a.out.now a.at)

pub byte_at-i-requires : goal.byte_at-i-requires
byte_at-i-requires c =
    let a = c.args in
    omega (arith, room_as a.out.now a.at (some-organisation a.others.now a.there a.texts c.if-not-there.false) c.requires.texts_in_bounds_2)

pub two_texts_at-requires : goal.two_texts_at-requires
two_texts_at-requires c =
    let a = c.args in
    let some = some-organisation a.others.now a.there a.texts c.if-not-there.false in
    let texts = texts_bytes (two_texts a.others.now a.texts (a.texts + 60) (a.texts + 120)) in
    ((omega arith, omega arith), room_after texts c.byte_at-i.ensures (room_as a.out.now a.at some c.requires.texts_in_bounds_2))

pub returns : goal.returns
returns c =
    let a = c.args in
    let some = some-organisation a.others.now a.there a.texts c.if-not-there.false in
    put_as some (put_then c.byte_at-i.ensures c.two_texts_at.ensures (room_as a.out.now a.at some c.requires.texts_in_bounds_2))
