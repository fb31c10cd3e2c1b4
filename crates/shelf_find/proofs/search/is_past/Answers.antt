use Rattle.shelf_find.proofs.Nine.{past-nine}
use Rattle.shelf_find.proofs.search.is_past.Goals as goal

pub returns : goal.returns
returns c = λ r nine digits. past-nine r c.args.first c.args.others nine c.args.rec.now c.args.at _ c.requires c.weight_at.ensures digits
