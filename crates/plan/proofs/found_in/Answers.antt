use Rattle.plan.proofs.Walks.{found_here}
use Rattle.plan.proofs.found_in.Goals as goal

pub returns : goal.returns
returns c = found_here c.args.s.now c.args.e _ c.keep-unit.ensures
