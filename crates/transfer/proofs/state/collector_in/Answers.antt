use Rattle.transfer.specs.States.{collector_in}
use Rattle.transfer.proofs.state.collector_in.Goals as goal

pub returns : goal.returns
unfolding collector_in
returns c = rw (c.turn_in.ensures, c.two.ensures, c.three.ensures, c.two-2.ensures, c.two-3.ensures, c.two-4.ensures, c.two-5.ensures)
