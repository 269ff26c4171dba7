use Rattle.writer_row.proofs.Rows.{put_no_halves, put_two_halves}
use Rattle.writer_form.proofs.Columns.{told_blank, told_filled}
use mathlib.Core.Bool.{not}
use mathlib.Core.Path.{ap}
use Rattle.writer_row.proofs.put_halves.Goals as goal

pub returns-then-not-is_filled : goal.returns-then-not-is_filled
returns-then-not-is_filled c =
    let a = c.args in
    let byte = c.put_byte-from in
    let blank = told_blank a.v _ c.is_filled.ensures (ap not c.if-not-is_filled.true) in
    put_no_halves a.t _ a.v _ a.at _ byte.new.out _ _ byte.ensures blank c.put_byte.ensures

pub returns : goal.returns
returns c =
    let byte = c.put_byte-from in
    let filled = told_filled c.args.v _ c.is_filled.ensures (ap not c.if-not-is_filled.false) in
    put_two_halves c.args.t _ c.args.v _ c.args.at _ byte.new.out _ _ byte.ensures c.requires.1 filled c.put_value.ensures
