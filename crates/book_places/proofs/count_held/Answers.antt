use Rattle.book_places.proofs.Leading.{held_malformed, held_count, rest_empty}
use borrow.Author.Rules.{rules}
use mathlib.Core.Path.{sym, ◌∙◌}
use Rattle.book_places.proofs.count_held.Goals as goal

pub returns-then-not-are_empty : goal.returns-then-not-are_empty
returns-then-not-are_empty c =
    let told = c.count_leading-count.ensures in
    held_malformed _ _ _ told.1 (sym (rest_empty _ c.args.orders (search rules) _ c.are_empty.ensures) ∙ c.if-not-are_empty.true)

pub returns : goal.returns
returns c =
    let told = c.count_leading-count.ensures in
    held_count _ _ _ told.1 _ told.2 (sym (rest_empty _ c.args.orders (search rules) _ c.are_empty.ensures) ∙ c.if-not-are_empty.false)
