use Rattle.value_name.proofs.Readers.{identifier_sized, identifier_other, identifier_read}
use Rattle.text.proofs.Cuts.{front_count}
use native.Mathlib.Omega.{arith}
use Rattle.value_name.proofs.identifier.read.Goals as goal

-- Another length, another prefix, or ten digits past the prefix.
pub returns-then-s-ne13 : goal.returns-then-s-ne13
returns-then-s-ne13 c = identifier_sized _ _ c.if-s-ne13.true

pub slice_bounds-same-end : goal.slice_bounds-same-end
slice_bounds-same-end c = front_count c.args.s.now 3 (omega arith)

pub returns-then-not-same : goal.returns-then-not-same
returns-then-not-same c = identifier_other _ _ _ _ c.prefix-code.ensures c.same.ensures c.if-not-same.true

pub returns : goal.returns
returns c =
    identifier_read _ _ _ _ c.prefix-code.ensures c.same.ensures _ c.if-s-ne13.false c.if-not-same.false
    c.read_digits.ensures
