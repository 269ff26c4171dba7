use Rattle.reader_line.proofs.Meanings.{held, separator_is, field_is, below_one, passed_over}
use Rattle.text.specs.Bytes.{part, trim}
use Rattle.text_lines.specs.Lines.{is_sep}
use Rattle.text_lines.specs.Places.{HoldsText}
use mathlib.Core.Path.{sym, ap, ◌∙◌}
use Rattle.reader_line.proofs.other_item.Goals as goal

pub returns-then-seps-eq1 : goal.returns-then-seps-eq1
returns-then-seps-eq1 c =
    below_one _ _ _ _ c.requires.0 c.requires.1 _ c.if-seps-eq1.true c.row_item.ensures

pub returns-then-is_foreign : goal.returns-then-is_foreign
returns-then-is_foreign c =
    passed_over c.args.t _ _ _ c.requires.0 c.requires.1 _ c.nothing.ensures (sym c.is_foreign.ensures ∙ c.if-is_foreign.true) c.if-seps-eq1.false

pub text-requires : goal.text-requires
text-requires c =
    let placed : HoldsText c.args.s.now c.trim_span-p.result (trim (part c.args.at c.args.end c.args.s.now)) = held c.args.t _ _ _ c.requires.0 c.requires.1 _ c.trim_span-p.ensures in
    (placed.ordered, placed.inside)

pub returns-then-is_separator : goal.returns-then-is_separator
returns-then-is_separator c =
    separator_is c.args.t _ _ _ c.requires.0 c.requires.1 _ c.trim_span-p.ensures _ (c.is_separator.ensures ∙ ap is_sep c.text.ensures) c.if-is_separator.true

pub returns : goal.returns
returns c =
    field_is c.args.t _ _ _ c.requires.0 c.requires.1 _ c.trim_span-p.ensures _ (c.is_separator.ensures ∙ ap is_sep c.text.ensures) c.if-is_separator.false
    c.if-seps-eq1.false c.param_item.ensures
