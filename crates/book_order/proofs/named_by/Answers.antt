use Rattle.book_order.specs.Messages.{strike_of}
use mathlib.Core.Path.{◌∙◌}
use Rattle.book_order.proofs.named_by.Goals as goal

pub returns : goal.returns
unfolding strike_of
returns c = c.count_in.ensures ∙ rw c.field.ensures
