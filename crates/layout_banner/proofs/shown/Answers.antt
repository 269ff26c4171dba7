use Rattle.layout_banner.proofs.Arms.{front_put}
use native.Mathlib.Omega.{arith}
use Rattle.layout_banner.proofs.shown.Goals as goal

pub returns : goal.returns
returns c =
    let a = c.args in
    front_put _ a.text _ a.size _ _ (omega arith) c.put_text.ensures
