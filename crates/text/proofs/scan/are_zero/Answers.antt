use Rattle.text.proofs.Fronts.{run_all}
use Rattle.text.specs.Bytes.{is}
use Rattle.text.proofs.scan.are_zero.Goals as goal

pub returns : goal.returns
returns c = rw c.run.ensures (run_all (is 0) c.args.s.now)
