use Prim.Native.Nat.{◌+◌, ◌-◌, ◌≤◌, ◌<◌}
use Rattle.saved_lines.proofs.Going.{Going, wrong_here, over_here, says_here, full_here}
use Rattle.saved_lines.specs.Tables.{next_of}
use Rattle.saved_lines.specs.Values.{met_of}
use Rattle.saved_lines.specs.Values.{Next}
use lib.ListN.{length, take, drop, set}
use mathlib.Core.Path.{◌≡◌, refl, ap, ◌∙◌}
use native.Mathlib.Omega.{arith}
use Rattle.saved_lines.proofs.read_item.Goals as goal

pub next_of-x-requires : goal.next_of-x-requires
next_of-x-requires c = let g = c.loop-n.invariant in (g.few, g.small)

pub returns-in-Wrong : goal.returns-in-Wrong
returns-in-Wrong c =
    let met : c.meet.result ≡ met_of ((next_of c.args.t c.args.a) (take c.loop-n.n c.loop-n.v)) c.loop-n.rest.now = c.meet.ensures ∙ ap (λ (x : Next). met_of x c.loop-n.rest.now) c.next_of-x.ensures in
    wrong_here _ _ _ _ _ c.loop-n.invariant _ met c.loop-n-test.true c.in-Wrong.is _ refl

pub returns-in-Over : goal.returns-in-Over
returns-in-Over c =
    let met : c.meet.result ≡ met_of ((next_of c.args.t c.args.a) (take c.loop-n.n c.loop-n.v)) c.loop-n.rest.now = c.meet.ensures ∙ ap (λ (x : Next). met_of x c.loop-n.rest.now) c.next_of-x.ensures in
    over_here _ _ _ _ _ c.loop-n.invariant _ met c.loop-n-test.true c.in-Over.is

pub overflow_add-below : goal.overflow_add-below
overflow_add-below c =
    let met : c.meet.result ≡ met_of ((next_of c.args.t c.args.a) (take c.loop-n.n c.loop-n.v)) c.loop-n.rest.now = c.meet.ensures ∙ ap (λ (x : Next). met_of x c.loop-n.rest.now) c.next_of-x.ensures in
    let said : let l = c.loop-n in (c.in-Says.e < length c.loop-n.rest.now) × Going (next_of c.args.t c.args.a) c.args.s.now (set l.v l.n c.in-Says.value) (l.n + 1) (take (length c.loop-n.rest.now - (c.in-Says.e + 1)) (drop (c.in-Says.e + 1) c.loop-n.rest.now)) = says_here _ _ _ _ _ c.loop-n.invariant _ met c.loop-n-test.true _ _ c.in-Says.is in
    record { fits = omega (arith, said.0) }

pub slice_bounds-below-count : goal.slice_bounds-below-count
slice_bounds-below-count c =
    let met : c.meet.result ≡ met_of ((next_of c.args.t c.args.a) (take c.loop-n.n c.loop-n.v)) c.loop-n.rest.now =
    c.meet.ensures ∙ ap (λ (x : Next). met_of x c.loop-n.rest.now) c.next_of-x.ensures in
    let said = says_here _ _ _ _ _ c.loop-n.invariant _ met c.loop-n-test.true _ _ c.in-Says.is in
    omega (arith, said.0)

pub slice_bounds-below-start : goal.slice_bounds-below-start
slice_bounds-below-start c =
    let met : c.meet.result ≡ met_of ((next_of c.args.t c.args.a) (take c.loop-n.n c.loop-n.v)) c.loop-n.rest.now =
    c.meet.ensures ∙ ap (λ (x : Next). met_of x c.loop-n.rest.now) c.next_of-x.ensures in
    let said = says_here _ _ _ _ _ c.loop-n.invariant _ met c.loop-n-test.true _ _ c.in-Says.is in
    let inside : c.in-Says.e + 1 ≤ length c.loop-n.rest.now = omega (arith, said.0) in
    inside

pub loop-n-preserved : goal.loop-n-preserved
loop-n-preserved c =
    let met : c.meet.result ≡ met_of ((next_of c.args.t c.args.a) (take c.loop-n.n c.loop-n.v)) c.loop-n.rest.now = c.meet.ensures ∙ ap (λ (x : Next). met_of x c.loop-n.rest.now) c.next_of-x.ensures in
    let said : let l = c.loop-n in (c.in-Says.e < length c.loop-n.rest.now) × Going (next_of c.args.t c.args.a) c.args.s.now (set l.v l.n c.in-Says.value) (l.n + 1) (take (length c.loop-n.rest.now - (c.in-Says.e + 1)) (drop (c.in-Says.e + 1) c.loop-n.rest.now)) = says_here _ _ _ _ _ c.loop-n.invariant _ met c.loop-n-test.true _ _ c.in-Says.is in
    said.1

pub returns : goal.returns
returns c = full_here _ _ _ _ _ c.loop-n.invariant c.loop-n-test.false _ refl
