use Rattle.writer.proofs.Ends.{put_end, full_end, roomy_end}
use Rattle.writer_form.proofs.Sizes.{message_small}
use native.Mathlib.Omega.{arith}
use Rattle.writer.proofs.put_file.Goals as goal

pub returns-then-room-ge8192 : goal.returns-then-room-ge8192
returns-then-room-ge8192 c =
    put_end _ _ _ _ c.put_message-whole.ensures (omega (arith, message_small _ _ _ c.requires.hold, c.if-room-ge8192.true))

pub returns-then-room-len : goal.returns-then-room-len
returns-then-room-len c = full_end _ _ _ _ c.put_message-len.ensures c.if-room-len.true

pub returns : goal.returns
returns c =
    roomy_end _ _ _ _ c.put_message-len.ensures c.if-room-len.false _ _ c.put_message-put.ensures
