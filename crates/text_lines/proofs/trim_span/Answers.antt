use Prim.Native.Nat.{◌+◌, ◌≤◌}
use Rattle.text_lines.proofs.Leaves.{trim_fits, trimmed_is}
use native.Mathlib.Omega.{arith}
use Rattle.text_lines.proofs.trim_span.Goals as goal

pub overflow_add-to : goal.overflow_add-to
overflow_add-to c =
    let ends : c.args.at + c.lead.result + c.filled.result ≤ c.args.end = trim_fits _ _ _ _ _ c.requires.0 c.requires.1 c.lead.ensures c.filled.ensures in
    omega (arith, ends)

pub overflow_cast-result-2 : goal.overflow_cast-result-2
overflow_cast-result-2 c =
    let ends : c.args.at + c.lead.result + c.filled.result ≤ c.args.end = trim_fits _ _ _ _ _ c.requires.0 c.requires.1 c.lead.ensures c.filled.ensures in
    omega (arith, ends, c.requires.2)

pub returns : goal.returns
returns c =
    trimmed_is _ _ _ _ _ c.requires.0 c.requires.1 c.lead.ensures c.filled.ensures
