use Rattle.reader_line.proofs.Meanings.{held, row_is}
use Rattle.text.specs.Bytes.{part, trim}
use Rattle.text_lines.specs.Lines.{is_sep}
use Rattle.text_lines.specs.Places.{HoldsText}
use mathlib.Core.Path.{ap, ◌∙◌}
use Rattle.reader_line.proofs.row_item.Goals as goal

pub text-requires : goal.text-requires
text-requires c =
    let placed : HoldsText c.args.s.now c.trim_span-p.result (trim (part c.args.at c.args.end c.args.s.now)) = held c.args.t _ _ _ c.requires.0 c.requires.1 _ c.trim_span-p.ensures in
    (placed.ordered, placed.inside)

pub returns : goal.returns
returns c =
    row_is _ _ _ _ c.requires.0 c.requires.1 _ c.trim_span-p.ensures _ (c.is_separator.ensures ∙ ap is_sep c.text.ensures)
