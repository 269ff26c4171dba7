use Rattle.record_rules.proofs.Told.{none_zero}
use Rattle.record_rules.specs.Rules.{broken_in}
use Rattle.record_check.proofs.Unused.{sized}
use Rattle.record_check.specs.Validity.{is_valid}
use borrow.Author.Rules.{rules}
use Rattle.record_check.proofs.is_valid.Goals as goal

pub returns : goal.returns
unfolding broken_in is_valid
returns c =
    rw (
      sized c.args.r (search rules) (search rules) (search rules) (search rules) (search rules),
      none_zero _ _ c.is_none.ensures,
      c.lowest_of.ensures,
      c.has_no_triples.ensures,
      c.are_clear.ensures,
      c.are_blank.ensures,
      c.size.ensures,
      c.all_hold.ensures,
    )
