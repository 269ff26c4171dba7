use Rattle.value_name.proofs.Writers.{identifier_put}
use Rattle.value_name.proofs.identifier.put.Goals as goal

pub returns : goal.returns
returns c =
    identifier_put _ _ _ _ _ _ _ _ _ c.prefix-code.ensures c.put_text-from.ensures c.put_digits.ensures
