use Rattle.reader_accent.proofs.Table.{no_accent}
use Rattle.reader_accent.proofs.field_of.Goals as goal

-- By the type, and what the call of its arm answers.
pub returns-in-Vq : goal.returns-in-Vq
returns-in-Vq c = cc

pub returns-in-Qr : goal.returns-in-Qr
returns-in-Qr c = cc

pub returns-in_default : goal.returns-in_default
returns-in_default c = let z = c.args in no_accent z.s.now z.t c.in_default.not-Vq c.in_default.not-Qr
