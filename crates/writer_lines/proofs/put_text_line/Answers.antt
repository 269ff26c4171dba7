use Rattle.writer_lines.proofs.Lines.{label_short, put_said, put_empty, line_put}
use Rattle.layout_label.proofs.Texts.{label_text_lem}
use Rattle.layout.specs.Layouts.{label_at}
use mathlib.Core.Path.{refl}
use native.Mathlib.Omega.{arith}
use Rattle.writer_lines.proofs.put_text_line.Goals as goal

pub returns-then-text-eq0 : goal.returns-then-text-eq0
returns-then-text-eq0 c =
    let a = c.args in
    line_put (label_at a.l a.k) a.text.now _ (label_short a.l a.k c.requires.1 c.requires.2) refl
    _ _ _ c.put-named.new.out _ c.put_byte-equals.new.out _ _ _ _
    _ c.put-named.ensures (label_text_lem a.l a.k c.of_field.ensures) c.put_byte-equals.ensures
    (put_empty a.text.now c.if-text-eq0.true _ _) c.put_byte.ensures

pub returns : goal.returns
returns c =
    let a = c.args in
    line_put (label_at a.l a.k) a.text.now _ (label_short a.l a.k c.requires.1 c.requires.2) refl
    _ _ _ c.put-named.new.out _ c.put_byte-equals.new.out _ c.put_text-said.new.out _ _
    _ c.put-named.ensures (label_text_lem a.l a.k c.of_field.ensures) c.put_byte-equals.ensures
    (put_said a.text.now (omega (arith, c.if-text-eq0.false)) _ _ _ c.put_byte-from.new.out _ _ c.put_byte-from.ensures c.put_text-said.ensures)
    c.put_byte-2.ensures
