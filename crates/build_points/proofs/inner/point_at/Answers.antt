use Rattle.std.proofs.Common.{ap, ◌++◌}
use Rattle.label.proofs.Puts.{put_as}
use Rattle.label.proofs.Going.{going-room, going-left, going-last}
use Rattle.pack.specs.Numbers.{bytes_of}
use Rattle.pack.specs.Sectors.{counts_bytes}
use Rattle.build.specs.Bytes.{front_in, plain_in}
use Rattle.build_points.proofs.Point.{last_offset, offsets_of, point-start, after_front, after-plain, after-keys}
use Rattle.build_points.proofs.inner.point_at.Goals as goal

pub front_at-i-requires : goal.front_at-i-requires
front_at-i-requires c =
    let a = c.args in
    let own = a.own.now in
    let keys = a.offsets.of_keys in
    (c.requires.fields_within, going-room (front_in own a.p) (plain_in own a.p ++ offsets_of own a.p keys a.row) (point-start own a.p keys a.row c.requires.row_in_bounds) c.requires.row_in_bounds)

pub plain_at-j-requires : goal.plain_at-j-requires
plain_at-j-requires c =
    let a = c.args in
    let own = a.own.now in
    let keys = a.offsets.of_keys in
    let room = c.requires.row_in_bounds in
    (c.requires.fields_within, going-room (plain_in own a.p) (offsets_of own a.p keys a.row) (after_front own a.p keys a.row room c.front_at-i.ensures) room)

pub words_at-k-requires : goal.words_at-k-requires
words_at-k-requires c =
    let a = c.args in
    let own = a.own.now in
    let keys = a.offsets.of_keys in
    let room = c.requires.row_in_bounds in
    going-room (counts_bytes keys) (last_offset own a.p keys a.row) (after-plain own a.p keys a.row room c.front_at-i.ensures c.plain_at-j.ensures) room

pub word_at-requires : goal.word_at-requires
word_at-requires c =
    let a = c.args in
    let room = c.requires.row_in_bounds in
    going-left (after-keys a.own.now a.p a.offsets.of_keys a.row room c.front_at-i.ensures c.plain_at-j.ensures c.words_at-k.ensures) room

pub returns : goal.returns
returns c =
    let a = c.args in
    let room = c.requires.row_in_bounds in
    going-last (after-keys a.own.now a.p a.offsets.of_keys a.row room c.front_at-i.ensures c.plain_at-j.ensures c.words_at-k.ensures)
    (put_as (ap (bytes_of 4) c.organisation_offset.ensures) c.word_at.ensures) room
