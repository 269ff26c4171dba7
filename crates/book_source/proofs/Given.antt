-- THE THEOREM: the test holds exactly of the orders that a valid CB record gives. Assumes nothing.
use Rattle.book_source.proofs.Comes.{comes}
use Rattle.book_source.proofs.Witness.{witness}
use Rattle.book_source.specs.Given.{as_brought, Given}
use Rattle.book_order.specs.Orders.{could_come}
use Rattle.book_order.specs.declared.Order.{Order}
use Rattle.text.proofs.Tests.{Tells}
use Rattle.record_check.proofs.Decides.{valid_tells}
use mathlib.Core.Path.{◌≡◌, refl, sym, ap, ◌∙◌}

-- whether it was struck is not asked
brought : (o : Order) → could_come o ≡ could_come (as_brought o)
unfolding could_come
brought o = refl

pub given_tells : (o : Order) → Tells (could_come o) (Given o)
given_tells o = (
  witness o,
  λ g. brought o ∙ ap could_come (sym g.gives) ∙ comes g.command ((valid_tells g.command).1 g.valid) g.is_command_so,
)
