use Rattle.value_date.proofs.Laws.{field_read, field_refused}
use Rattle.value_date.proofs.field.Goals as goal

pub returns-in-Some : goal.returns-in-Some
returns-in-Some c = field_read c.args.s.now c.args.at c.args.n _ c.read_digits.ensures c.requires.0 c.requires.2 c.requires.3 _ c.in-Some.is

pub returns-in-None : goal.returns-in-None
returns-in-None c =
    absurd (field_refused c.args.s.now c.args.at c.args.n _ c.read_digits.ensures c.requires.0 c.requires.2 c.requires.3 c.in-None.is)
