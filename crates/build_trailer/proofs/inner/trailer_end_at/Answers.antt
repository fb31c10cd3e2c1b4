use Rattle.std.proofs.Common.{[], ◌∷◌}
use Rattle.pack.specs.Names.{newest}
use Rattle.pack.specs.Numbers.{bytes_of}
use Rattle.pack.specs.Sectors.{counts_bytes}
use Rattle.label.proofs.Puts.{room-first}
use Rattle.label.proofs.Going.{going-left, going-room, going-last}
use Rattle.build_trailer.proofs.End.{behind_code, behind_length, after-code, after-length, after-counts}
use Rattle.build_trailer.proofs.inner.trailer_end_at.Goals as goal

pub bytes_at-i-requires : goal.bytes_at-i-requires
bytes_at-i-requires c =
    let a = c.args in
    room-first a.code.now (behind_code a.code.now a.bytes (counts_bytes a.of_digits)) a.out.now a.at c.requires

pub word_at-j-requires : goal.word_at-j-requires
word_at-j-requires c =
    let a = c.args in
    let counts = counts_bytes a.of_digits in
    going-room (bytes_of 4 a.bytes) (behind_length a.code.now a.bytes counts)
    (after-code a.code.now a.bytes counts c.requires c.bytes_at-i.ensures) c.requires

pub words_at-k-requires : goal.words_at-k-requires
words_at-k-requires c =
    let a = c.args in
    let counts = counts_bytes a.of_digits in
    going-room counts (newest ∷ [])
    (after-length a.code.now a.bytes counts c.requires c.bytes_at-i.ensures c.word_at-j.ensures) c.requires

pub byte_at-requires : goal.byte_at-requires
byte_at-requires c =
    let a = c.args in
    going-left
    (after-counts a.code.now a.bytes (counts_bytes a.of_digits) c.requires c.bytes_at-i.ensures c.word_at-j.ensures c.words_at-k.ensures)
    c.requires

pub returns : goal.returns
returns c =
    let a = c.args in
    going-last
    (after-counts a.code.now a.bytes (counts_bytes a.of_digits) c.requires c.bytes_at-i.ensures c.word_at-j.ensures c.words_at-k.ensures)
    c.byte_at.ensures c.requires
