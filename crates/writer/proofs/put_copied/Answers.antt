use Rattle.writer.proofs.Ends.{put_end, full_end, roomy_end}
use native.Mathlib.Omega.{arith}
use Rattle.writer.proofs.put_copied.Goals as goal

pub returns-then-room-ge8192 : goal.returns-then-room-ge8192
returns-then-room-ge8192 c = put_end _ _ _ _ c.put_copied.ensures (omega (arith, c.requires.small, c.if-room-ge8192.true))

pub returns-then-room-length : goal.returns-then-room-length
returns-then-room-length c = full_end _ _ _ _ c.put_copied-length.ensures c.if-room-length.true

pub returns : goal.returns
returns c = roomy_end _ _ _ _ c.put_copied-length.ensures c.if-room-length.false _ _ c.put_copied-2.ensures
