use Prim.Native.Nat.{◌≤◌, ◌<◌}
use Rattle.layout.specs.Layouts.{size_of}
use Rattle.reader_line.proofs.Labels.{label_here, label_on, label_none}
use Rattle.text_lines.proofs.Standing.{later_zero}
use mathlib.Core.Path.{sym, ◌∙◌}
use native.Mathlib.Omega.{arith}
use Rattle.reader_line.proofs.field_of.Goals as goal

pub loop-k-init : goal.loop-k-init
loop-k-init c = later_zero _

pub returns-then-is_label : goal.returns-then-is_label
returns-then-is_label c =
    let h : c.loop-k.k < size_of c.args.l = omega arith in
    label_here _ _ _ h (sym c.is_label.ensures ∙ c.if-is_label.true) ∙ sym c.loop-k.invariant

pub loop-k-preserved : goal.loop-k-preserved
loop-k-preserved c =
    let h : c.loop-k.k < size_of c.args.l = omega arith in
    c.loop-k.invariant ∙ label_on _ _ _ h (sym c.is_label.ensures ∙ c.if-is_label.false)

pub returns : goal.returns
returns c =
    let h : size_of c.args.l ≤ c.loop-k.k = omega arith in
    label_none _ _ _ h ∙ sym c.loop-k.invariant
