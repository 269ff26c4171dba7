use Rattle.layout_label.proofs.Texts.{printed_short, printed_is}
use native.Mathlib.Omega.{arith}
use Rattle.layout_label.proofs.is_printed.Goals as goal

-- The words of the text against those of the label.
pub returns-then-s-lt36 : goal.returns-then-s-lt36
returns-then-s-lt36 c = printed_short _ _ c.if-s-lt36.true

pub returns : goal.returns
returns c =
    let a = c.args in
    let fits = c.struct_known-5-1.given in
    printed_is a.l a.s.now c.shared_slice_known-1.given (omega arith)
    (omega (arith, fits)) (omega (arith, fits)) (omega (arith, fits)) (omega (arith, fits)) (omega (arith, fits))
    c.eight.ensures c.eight-2.ensures c.eight-3.ensures c.eight-4.ensures c.four.ensures
