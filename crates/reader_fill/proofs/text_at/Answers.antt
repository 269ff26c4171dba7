use Rattle.layout.proofs.Labels.{few}
use Rattle.text_lines.proofs.Columns.{column_at_lem}
use mathlib.Core.Path.{sym, ◌∙◌}
use native.Mathlib.Omega.{arith}
use Rattle.reader_fill.proofs.text_at.Goals as goal

pub offset_bounds-spans-k : goal.offset_bounds-spans-k
offset_bounds-spans-k c = omega (arith, few c.args.l, c.requires.0)

pub bounds-spans-k : goal.bounds-spans-k
bounds-spans-k c = omega (arith, few c.args.l, c.requires.0)

pub text-requires : goal.text-requires
text-requires c = (c.requires.1.ordered _ (omega arith) c.requires.0, c.requires.1.inside _ (omega arith) c.requires.0)

pub returns : goal.returns
returns c =
    c.text.ensures ∙ sym (column_at_lem _ _ _ _ (omega arith) c.requires.0 (omega (arith, few c.args.l, c.requires.1.long)))
