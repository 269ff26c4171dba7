use Rattle.saved.proofs.Valued.{first_asked, second_asked, values_are}
use borrow.Author.Rules.{rules}
use mir.Syntax.{w32}
use mir.Val.{SFits}
use Rattle.saved.proofs.orders.values_of.Goals as goal

-- the variations are of 32 bits
pub raised-requires : goal.raised-requires
raised-requires c =
    let first_fits : SFits w32 c.args.o.first = search rules in
    search (first_asked, first_fits, rules)

pub raised-requires-2 : goal.raised-requires-2
raised-requires-2 c =
    let second_fits : SFits w32 c.args.o.second = search rules in
    search (second_asked, second_fits, rules)

pub returns : goal.returns
returns c =
    let first_fits : SFits w32 c.args.o.first = search rules in
    let second_fits : SFits w32 c.args.o.second = search rules in
    search (values_are, first_fits, second_fits, rules)
