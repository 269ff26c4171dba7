use Rattle.writer_lines.proofs.Lines.{put_none, put_some}
use Rattle.writer_form.proofs.Columns.{told_blank, told_filled}
use mathlib.Core.Bool.{not}
use mathlib.Core.Path.{ap}
use Rattle.writer_lines.proofs.put_after.Goals as goal

pub returns-then-not-is_filled : goal.returns-then-not-is_filled
returns-then-not-is_filled c =
    let a = c.args in
    put_none a.t _ a.v _ a.at (told_blank a.v _ c.is_filled.ensures (ap not c.if-not-is_filled.true))

pub returns : goal.returns
returns c =
    let byte = c.put_byte-from in
    let filled = told_filled c.args.v _ c.is_filled.ensures (ap not c.if-not-is_filled.false) in
    put_some c.args.t _ c.args.v _ c.args.at c.requires.1 filled _ byte.new.out _ _ byte.ensures c.put_value.ensures
