use Rattle.value_name.proofs.Readers.{with_dash}
use Rattle.value_name.proofs.identifier.prefix.Goals as goal

pub returns : goal.returns
returns c = with_dash c.args.t _ c.code-code.ensures
