use Rattle.transfer.specs.States.{state_of}
use Rattle.transfer.proofs.state.state_of.Goals as goal

pub returns : goal.returns
unfolding state_of
returns c =
    rw (
      c.turn_no-turn.ensures,
      c.to_le_bytes-ended.ensures,
      c.to_le_bytes-ca.ensures,
      c.to_le_bytes-ioa.ensures,
      c.to_le_bytes-announced.ensures,
      c.to_le_bytes-start.ensures,
      c.to_le_bytes-due.ensures,
      c.to_le_bytes-count.ensures,
    )
