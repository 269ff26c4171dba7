use Rattle.text.proofs.Cuts.{tail, chunk_rest, chunk_within, chunk_skipped}
use Rattle.text.proofs.Fronts.{run_on, taken_length}
use lib.ListN.{drop, length-drop}
use mathlib.Core.Path.{sym, ◌∙◌}
use native.Mathlib.Omega.{arith}
use Rattle.text.proofs.scan.run.Goals as goal

pub loop-eight-preserved : goal.loop-eight-preserved
loop-eight-preserved g c =
    let s = c.args.s.now in
    let l = c.loop-eight in
    let eight = c.in-Some.eight.now in
    let steps = c.in-Some.ensures.steps in
    let cut = sym l.invariant.rest ∙ steps.1.0 in
    let size = steps.1.1 ∙ l.invariant.size in
    record {
      next = omega arith;
      ends = tt;
      size = steps.0 ∙ l.invariant.size;
      rest = chunk_rest s l.n 8 eight _ cut size;
      within = chunk_within s l.n 8 eight _ cut size l.invariant.within;
      skips =
          l.invariant.skips
          ∙ chunk_skipped s l.n 8 eight _ cut size (g.T.ByteTest.passes c.args.test.now) (sym c.eight_pass.ensures ∙ c.if-not-eight_pass.false);
    }

pub overflow_add-result : goal.overflow_add-result
overflow_add-result g c =
    let rest = drop c.loop-eight.n c.args.s.now in
    let few = rw (tail c.args.s.now c.loop-eight.n) at c.few_run.ensures in
    omega (arith, taken_length (g.T.ByteTest.passes c.args.test.now) rest, few, length-drop c.loop-eight.n c.args.s.now)

pub returns : goal.returns
returns g c =
    let s = c.args.s.now in
    let l = c.loop-eight in
    run_on (g.T.ByteTest.passes c.args.test.now) s l.n _ l.invariant.within l.invariant.skips (rw (tail s l.n) at c.few_run.ensures)
