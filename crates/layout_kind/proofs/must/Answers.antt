use mathlib.Core.Path.{refl}
use Rattle.layout_kind.proofs.must.Goals as goal

-- The kind is the definition's own: written out, so that a wrong version is refused by what differs.
pub returns : goal.returns
returns c = refl
