use Prim.Native.Nat.{ℕ, ◌+◌}
use Rattle.text.proofs.Cuts.{tail, upto_length}
use Rattle.text.specs.Bytes.{is, first_of}
use lib.ListN.{length-drop, drop}
use mathlib.Core.Path.{◌≡◌, ap}
use native.Mathlib.Omega.{arith}
use Rattle.value_list.proofs.part_end.Goals as goal

pub overflow_add-result : goal.overflow_add-result
overflow_add-result c =
    let found : c.first.result ≡ first_of c.args.sep (drop c.args.at c.args.s.now) = let a = c.args in rw (tail a.s.now a.at) at c.first.ensures in
    let a = c.args in
    omega (arith, found, upto_length (is a.sep) (drop a.at a.s.now), length-drop a.at a.s.now)

pub returns : goal.returns
returns c =
    let found : c.first.result ≡ first_of c.args.sep (drop c.args.at c.args.s.now) = let a = c.args in rw (tail a.s.now a.at) at c.first.ensures in
    ap (λ (k : ℕ). c.args.at + k) found
