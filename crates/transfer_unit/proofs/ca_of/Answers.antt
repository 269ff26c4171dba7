use Rattle.transfer_unit.specs.Units.{ca_of}
use borrow.Author.Rules.{rules}
use Rattle.transfer_unit.proofs.ca_of.Goals as goal

pub returns : goal.returns
unfolding ca_of
returns c = search rules
