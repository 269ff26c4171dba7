use Rattle.record_check.proofs.Unused.{few_texts}
use Rattle.record_check.specs.Validity.{are_clear}
use native.Mathlib.Omega.{arith}
use Rattle.record_check.proofs.rooms.are_clear.Goals as goal

pub value_at-requires : goal.value_at-requires
value_at-requires c =
    omega (arith, c.reason_field.ensures, (few_texts c.args.l).0)

pub value_at-requires-2 : goal.value_at-requires-2
value_at-requires-2 c =
    omega (arith, c.note_field.ensures, (few_texts c.args.l).1)

pub returns : goal.returns
unfolding are_clear
returns c = cc
