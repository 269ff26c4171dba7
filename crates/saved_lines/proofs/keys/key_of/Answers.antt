use Rattle.text.specs.Puts.{room_of}
use Rattle.saved_lines.proofs.keys.key_of.Goals as goal

pub returns-in-Form : goal.returns-in-Form
unfolding room_of
returns-in-Form c = rw c.in-Form.is c.keyed.ensures

pub returns-in-Floor : goal.returns-in-Floor
unfolding room_of
returns-in-Floor c = rw c.in-Floor.is c.keyed-in-Floor.ensures

pub returns-in-Count : goal.returns-in-Count
unfolding room_of
returns-in-Count c = rw c.in-Count.is c.keyed-in-Count.ensures

pub returns-in-Number : goal.returns-in-Number
unfolding room_of
returns-in-Number c = rw c.in-Number.is c.keyed-in-Number.ensures

pub returns-in-Kind : goal.returns-in-Kind
unfolding room_of
returns-in-Kind c = rw c.in-Kind.is c.keyed-in-Kind.ensures

pub returns-in-Start : goal.returns-in-Start
unfolding room_of
returns-in-Start c = rw c.in-Start.is c.keyed-in-Start.ensures

pub returns-in-End : goal.returns-in-End
unfolding room_of
returns-in-End c = rw c.in-End.is c.keyed-in-End.ensures

pub returns-in-Var1 : goal.returns-in-Var1
unfolding room_of
returns-in-Var1 c = rw c.in-Var1.is c.keyed-in-Var1.ensures

pub returns-in-Var2 : goal.returns-in-Var2
unfolding room_of
returns-in-Var2 c = rw c.in-Var2.is c.keyed-in-Var2.ensures

pub returns-in-Struck : goal.returns-in-Struck
unfolding room_of
returns-in-Struck c = rw c.in-Struck.is c.keyed-in-Struck.ensures
