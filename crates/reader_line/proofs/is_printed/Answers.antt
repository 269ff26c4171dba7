use Rattle.reader_line.proofs.Heads.{short_printed, other_printed, no_printed, is_printed_lem}
use Rattle.layout_label.proofs.Texts.{label_short, label_size, label_text_lem, length_padded}
use native.Mathlib.Omega.{arith}
use Rattle.reader_line.proofs.is_printed.Goals as goal

-- The length, the byte behind the padded label, and the label.
pub returns-then-s-lt37 : goal.returns-then-s-lt37
returns-then-s-lt37 c = short_printed _ _ (label_short _ _) c.if-s-lt37.true

pub returns-then-s-ne61 : goal.returns-then-s-ne61
returns-then-s-ne61 c = other_printed _ _ (length_padded _ _) (omega arith) c.if-s-ne61.true

pub returns-then-m-eq0 : goal.returns-then-m-eq0
returns-then-m-eq0 c = no_printed _ _ (length_padded _ _) (omega arith) _ (label_size _ _ c.of_field-m.ensures) c.if-m-eq0.true

pub returns : goal.returns
returns c =
    is_printed_lem _ _ (length_padded _ _) (omega arith) _ (label_size _ _ c.of_field-m.ensures) c.if-m-eq0.false c.if-s-ne61.false
    (label_text_lem _ _ c.of_field-m.ensures) c.is_printed.ensures
