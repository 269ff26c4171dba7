use Rattle.text.proofs.Cuts.{upto_length}
use Rattle.text.specs.Bytes.{is}
use native.Mathlib.Omega.{arith}
use Rattle.times_sheet.proofs.after_key.Goals as goal

pub overflow_add-result : goal.overflow_add-result
overflow_add-result c = omega (arith, upto_length (is 10) c.args.t.now, c.requires)

pub overflow_add-result-2 : goal.overflow_add-result-2
overflow_add-result-2 c = omega (arith, upto_length (is 10) c.args.t.now, c.requires, c.first.ensures)

pub returns : goal.returns
returns c = rw c.first.ensures
