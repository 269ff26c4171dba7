use Rattle.record.proofs.Fields.{field_at}
use mathlib.Core.Path.{sym}
use Rattle.record.proofs.field.Goals as goal

pub returns : goal.returns
returns c = sym (field_at c.args.cells c.args.k c.requires.0)
