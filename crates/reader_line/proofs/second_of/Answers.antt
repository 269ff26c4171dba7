use Rattle.reader_line.proofs.Turns.{second_is, no_second}
use Rattle.reader_line.proofs.second_of.Goals as goal

pub returns-in-Cb : goal.returns-in-Cb
returns-in-Cb c = second_is _ _ _ c.in-Cb.is c.field_of.ensures

pub returns-in_default : goal.returns-in_default
returns-in_default c = no_second c.args.t c.args.s.now c.in_default.not-Cb
