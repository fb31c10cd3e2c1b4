use Rattle.std.proofs.Common.{rules}
use Rattle.std.proofs.iter.runs.Sources.{ranges}
use Rattle.van_fold.proofs.Spaces.{Looked, looked}
use Rattle.van_fold.proofs.inner.space_in.Goals as goal

-- src/inner.rt:22:1
pub returns : goal.returns
returns c =
    let r : Looked c.args.bytes.now c.find.result = search (rules, ranges) in
    looked c.args.bytes.now c.find.result r
