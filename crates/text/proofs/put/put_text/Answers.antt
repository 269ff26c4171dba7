-- As many bytes as there is room for: the others change nothing.
use Rattle.text.proofs.Runs.{text_clip, text_none}
use mathlib.Core.Path.{refl, ◌∙◌}
use native.Mathlib.Omega.{arith}
use Rattle.text.proofs.put.put_text.Goals as goal
use Rattle.text.proofs.put.put_text.Goals.{then-n-ne0, else-n-ne0}

pub returns : goal.returns
returns c =
    let r = c.room_for-n in
    let a = c.args in
    let put = text_clip a.out.now a.at a.t.now r.result r.ensures in
    let none = text_none a.out.now a.at a.t.now r.result r.ensures in
    (refl, elim c.if-n-ne0.branch [ then-n-ne0 w ↦ w.out-is ∙ w.put_first.ensures ∙ put | else-n-ne0 w ↦ w.out-is ∙ none (omega arith) ])
