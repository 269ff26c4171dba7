use Rattle.value_ask.proofs.Others.{filled_blank}
use Rattle.value_ask.proofs.is_filled.Goals as goal

pub returns-in-Blank : goal.returns-in-Blank
returns-in-Blank c = filled_blank c.args.v c.in-Blank.is
