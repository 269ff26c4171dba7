use Rattle.record_rules.specs.Rules.{broken_in}
use borrow.Author.Rules.{rules}
use Rattle.record_rules.proofs.lowest_broken.Goals as goal

pub returns : goal.returns
unfolding broken_in
returns c = search rules
