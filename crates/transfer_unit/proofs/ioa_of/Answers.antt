use Rattle.transfer_unit.specs.Units.{ioa_of}
use borrow.Author.Rules.{rules}
use Rattle.transfer_unit.proofs.ioa_of.Goals as goal

pub returns : goal.returns
unfolding ioa_of
returns c = search rules
