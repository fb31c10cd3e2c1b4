use mathlib.Core.Path.{refl}
use Rattle.refusal.proofs.Passed.{after-passed}
use Rattle.mainfile_check.proofs.then_file.Goals as goal

pub returns : goal.returns
returns c = rw c.in_ok-found.was c.check_main.ensures

pub returns-in_err-found : goal.returns-in_err-found
returns-in_err-found c = after-passed _ _ refl c.in_err-found.was c.from_residual.ensures.1
