use Rattle.book.proofs.Holding.{tally_malformed, tally_none, tally_untrue, tally_true}
use borrow.Author.Rules.{rules}
use mathlib.Core.Bool.{not}
use mathlib.Core.Path.{ap, ◌∙◌}
use Rattle.book.proofs.Book.tally.Goals as goal

pub returns-then-not-is_formed_unit : goal.returns-then-not-is_formed_unit
returns-then-not-is_formed_unit c = search (tally_malformed, rules)

pub returns-in_err-count : goal.returns-in_err-count
returns-in_err-count c =
    c.from_residual.ensures
    ∙ tally_none c.args.self _ c.is_formed_unit.ensures (ap not c.if-not-is_formed_unit.false) _ c.count_held.ensures c.in_err-count.was

pub returns-then-self-count : goal.returns-then-self-count
returns-then-self-count c =
    tally_untrue c.args.self _ c.is_formed_unit.ensures (ap not c.if-not-is_formed_unit.false) _ c.count_held.ensures _ c.in_ok-count.was (search rules)

pub returns : goal.returns
returns c =
    tally_true c.args.self _ c.is_formed_unit.ensures (ap not c.if-not-is_formed_unit.false) _ c.count_held.ensures _ c.in_ok-count.was (search rules)
