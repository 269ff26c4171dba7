use Rattle.std.specs.Prelude.{Some}
use Rattle.value_list.proofs.Cuts.{begin, too_many, ends, bad_part, next_part}
use Rattle.value_list.proofs.Lines.{no_gradients, are_gradients}
use Rattle.value_list.specs.Forms.{triple_is, triple_in, no_triple}
use Rattle.text.specs.Bytes.{part, trim}
use lib.ListN.{length-set}
use mathlib.Core.Path.{◌≡◌, refl, sym, ap, ◌∙◌}
use native.Mathlib.Omega.{arith}
use Rattle.value_list.proofs.triples.read.Goals as goal

pub loop-n-init : goal.loop-n-init
loop-n-init c = (refl, begin triple_in 59 no_triple c.args.s.now 16)

pub slice_bounds-part_triple-end : goal.slice_bounds-part_triple-end
slice_bounds-part_triple-end c =
    ends triple_in _ _ _ _ _ _ _ c.loop-n.invariant.1 c.part_end-e.ensures

pub returns-in_err-values : goal.returns-in_err-values
returns-in_err-values c =
    c.from_residual.ensures ∙ no_gradients _ (bad_part triple_in _ _ _ _ _ _ _ c.loop-n.invariant.1 c.part_end-e.ensures _ _
    (ap triple_is (sym c.part_triple.ensures ∙ c.in_err-values.was)))

pub returns-then-e-s : goal.returns-then-e-s
returns-then-e-s c =
    let was_read : triple_in (trim (part c.loop-n.at c.part_end-e.result c.args.s.now)) ≡ Some c.in_ok-values.field-0 = ap triple_is (sym c.part_triple.ensures ∙ c.in_ok-values.was) in
    are_gradients _ _ _ _ _ c.in_ok-values.field-0 c.loop-n.invariant.0 c.loop-n.invariant.1 c.part_end-e.ensures was_read c.if-e-s.true
    (omega arith)

pub overflow_add-at : goal.overflow_add-at
overflow_add-at c =
    omega (arith, ends triple_in 59 no_triple c.args.s.now c.loop-n.at c.loop-n.n c.loop-n.values c.part_end-e.result c.loop-n.invariant.1 c.part_end-e.ensures)

pub loop-n-preserved : goal.loop-n-preserved
loop-n-preserved c =
    let was_read : triple_in (trim (part c.loop-n.at c.part_end-e.result c.args.s.now)) ≡ Some c.in_ok-values.field-0 = ap triple_is (sym c.part_triple.ensures ∙ c.in_ok-values.was) in (
      length-set c.loop-n.values c.loop-n.n c.in_ok-values.field-0 ∙ c.loop-n.invariant.0,
      next_part triple_in _ _ _ _ _ _ _ c.loop-n.invariant.1 c.part_end-e.ensures c.in_ok-values.field-0 (omega arith) was_read c.if-e-s.false,
    )

pub returns : goal.returns
returns c =
    no_gradients _ (too_many triple_in _ _ _ _ _ _ _ _ c.loop-n.invariant.1 (omega arith))
