use Rattle.book_order.proofs.Tested.{number_out, start_out, end_out, first_out, rest_decides}
use Rattle.book_order.proofs.Untimely.{ends_first}
use borrow.Author.Rules.{rules}
use mathlib.Core.Path.{sym, ◌∙◌}
use mir.Syntax.{w32}
use mir.Val.{SFits}
use Rattle.book_order.proofs.could_come.Goals as goal

pub returns-then-o : goal.returns-then-o
returns-then-o c = ends_first c.args.o c.if-o.true

pub returns-then-o-gt-MOST_NUMBER : goal.returns-then-o-gt-MOST_NUMBER
returns-then-o-gt-MOST_NUMBER c = search (number_out, rules)

pub returns-then-not-is_instant : goal.returns-then-not-is_instant
returns-then-not-is_instant c = start_out _ c.if-o-gt-MOST_NUMBER.false (sym c.is_instant.ensures ∙ c.if-not-is_instant.true)

pub returns-then-not-is_instant-2 : goal.returns-then-not-is_instant-2
returns-then-not-is_instant-2 c =
    end_out _ c.if-o-gt-MOST_NUMBER.false (sym c.is_instant.ensures ∙ c.if-not-is_instant.false)
    (sym c.is_instant-2.ensures ∙ c.if-not-is_instant-2.true)

pub returns-then-not-is_amount : goal.returns-then-not-is_amount
returns-then-not-is_amount c =
    let first_fits : SFits w32 c.args.o.first = search rules in
    let starts = sym c.is_instant.ensures ∙ c.if-not-is_instant.false in
    let ends = sym c.is_instant-2.ensures ∙ c.if-not-is_instant-2.false in
    first_out _ c.if-o-gt-MOST_NUMBER.false starts ends first_fits _ c.is_amount.ensures
    c.if-not-is_amount.true

pub returns : goal.returns
returns c =
    let first_fits : SFits w32 c.args.o.first = search rules in
    let second_fits : SFits w32 c.args.o.second = search rules in
    let starts = sym c.is_instant.ensures ∙ c.if-not-is_instant.false in
    let ends = sym c.is_instant-2.ensures ∙ c.if-not-is_instant-2.false in
    rest_decides _ c.if-o-gt-MOST_NUMBER.false starts ends first_fits _ c.is_amount.ensures
    c.if-not-is_amount.false second_fits _ c.fits_layout.ensures
