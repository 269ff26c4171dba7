use Rattle.text_keyline.proofs.Values.{value_at}
use Rattle.text_keyline.proofs.value.Goals as goal

pub returns : goal.returns
returns c = value_at _ _ _ _ c.args.n c.first-e.ensures c.front.ensures c.rest.ensures
