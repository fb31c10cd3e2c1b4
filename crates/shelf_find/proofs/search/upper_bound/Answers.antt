use Rattle.shelf.specs.Shelf.{ref_at, last_of}
use Rattle.shelf.proofs.Search.{left-all}
use Rattle.shelf_find.proofs.search.upper_bound.Goals as goal

pub upper_from-requires : goal.upper_from-requires
upper_from-requires c =
    let a = c.args in
    (c.requires, rw c.last_of.ensures (left-all (ref_at a.s a.file.now) a.r (last_of a.s a.file.now)))
