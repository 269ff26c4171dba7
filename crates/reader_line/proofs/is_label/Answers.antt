use Prim.Native.Nat.{ℕ}
use Rattle.layout_label.proofs.Texts.{label_size, label_front}
use Rattle.layout.specs.Layouts.{label_at}
use Rattle.text.proofs.Cuts.{same_lengths}
use Rattle.text.specs.Bytes.{same}
use mathlib.Core.List.{List}
use mathlib.Core.Path.{ap, ◌∙◌}
use Rattle.reader_line.proofs.is_label.Goals as goal

pub returns-then-m-s : goal.returns-then-m-s
returns-then-m-s c =
    let a = c.args in
    same_lengths (label_at a.l a.k) a.s.now (λ e. c.if-m-s.true (label_size a.l a.k c.of_field-m.ensures ∙ e))

pub returns : goal.returns
returns c =
    let a = c.args in
    let e = label_front a.l a.k c.of_field-m.ensures c.put_label.ensures c.front.ensures in
    c.same.ensures ∙ ap (λ (t : List ℕ). same t a.s.now) e
