use Rattle.layout_label.proofs.Texts.{length_text, text_room}
use Rattle.layout_label.specs.Labels.{label_text}
use Rattle.text.proofs.Runs.{puts, same_puts}
use lib.ListN.{replicate}
use mathlib.Core.Path.{refl}
use native.Mathlib.Omega.{arith}
use Rattle.layout_label.proofs.put.Goals as goal

pub returns : goal.returns
returns c =
    let l = c.args.l in
    let p = same_puts (label_text l) (text_room l (replicate 36 0) _ refl c.put_label-2.ensures) (puts c.put_text.ensures) in
    (omega (arith, p.0, length_text l), p.1)
