use Rattle.saved_lines.proofs.Nexts.{next_line}
use borrow.Author.Rules.{rules}
use lib.ListN.{length}
use mathlib.Core.Path.{◌≡◌}
use Rattle.saved_lines.proofs.tables.next_of.Goals as goal

pub returns-in-Form : goal.returns-in-Form
returns-in-Form c =
    let eighteen : length c.args.v ≡ 18 = search rules in
    next_line _ _ _ _ _ _ eighteen c.requires.0 c.in-Form.is c.form_line.ensures

pub returns-in-Head : goal.returns-in-Head
returns-in-Head c =
    let eighteen : length c.args.v ≡ 18 = search rules in
    next_line _ _ _ _ _ _ eighteen c.requires.0 c.in-Head.is c.head_line.ensures

pub returns-in-Order : goal.returns-in-Order
returns-in-Order c =
    let eighteen : length c.args.v ≡ 18 = search rules in
    next_line _ _ _ _ _ _ eighteen c.requires.0 c.in-Order.is c.order_line.ensures
