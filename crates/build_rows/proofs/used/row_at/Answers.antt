use Rattle.std.proofs.Common.{arith}
use Rattle.source.specs.Address.{kind_of}
use Rattle.label.proofs.Puts.{room_after, room_as, put_then, put_as}
use Rattle.pack.specs.Layout.{texts_bytes}
use Rattle.shelf.specs.Shelf.{texts_in}
use Rattle.shelf.specs.Stock.{stock_of}
use Rattle.build.proofs.Laws.{row-has-bytes}
use Rattle.build_rows.proofs.Texts.{row_is}
use Rattle.build_rows.proofs.used.row_at.Goals as goal

pub byte_at-j-requires : goal.byte_at-j-requires
byte_at-j-requires c = omega (arith, c.requires.1, row-has-bytes (stock_of c.args.s c.args.file.now) c.args.i)

pub texts_at-requires : goal.texts_at-requires
texts_at-requires c =
    let a = c.args in
    let ref = c.ref_at-kind in
    let rec = c.record_of in
    let same = row_is a.s a.file.now rec.result.now a.i ref.result ref.ensures.0 rec.ensures in
    let texts = texts_bytes (texts_in a.s (kind_of ref.result) rec.result.now) in
    (c.requires.0, room_after texts c.byte_at-j.ensures (room_as a.out.now a.at same c.requires.1))

pub returns : goal.returns
returns c =
    let a = c.args in
    let ref = c.ref_at-kind in
    let rec = c.record_of in
    let same = row_is a.s a.file.now rec.result.now a.i ref.result ref.ensures.0 rec.ensures in
    put_as same (put_then c.byte_at-j.ensures c.texts_at.ensures (room_as a.out.now a.at same c.requires.1))
