use Prim.Native.Nat.{◌≤◌, ◌<◌}
use Rattle.plan_row.proofs.Addresses.{none_more}
use Rattle.plan.proofs.Walks.{empty, begin, finish, too_many, none_there, bad_line, unit_inside, row_inside, next_row}
use Rattle.text.specs.Bytes.{any}
use borrow.Author.Rules.{rules}
use lib.ListN.{length}
use mathlib.Core.Logic.{inl, inr}
use mathlib.Core.Path.{refl, ap, ◌∙◌}
use Rattle.std.specs.Prelude.{Ok}
use native.Mathlib.Omega.{arith}
use Rattle.plan.proofs.seek.Goals as goal
use Rattle.plan.proofs.seek.Goals.{else-e-sought, then-e-sought}

pub returns-then-plan-eq0 : goal.returns-then-plan-eq0
returns-then-plan-eq0 c = search empty

pub loop-rest-init : goal.loop-rest-init
unfolding any
loop-rest-init c = (refl, begin _ _ _ _ c.if-plan-eq0.false, refl)

pub returns-then-count-eq64 : goal.returns-then-count-eq64
returns-then-count-eq64 c = search too_many

pub row_at-requires : goal.row_at-requires
row_at-requires c = let l = c.loop-rest in none_there l.keys l.count l.greatest l.invariant.2

pub returns-in-Err : goal.returns-in-Err
returns-in-Err c = search bad_line

pub found_in-requires : goal.found_in-requires
found_in-requires c =
    unit_inside _ _ _ _ _ _ _ c.loop-rest.invariant.1 c.loop-rest-test.true _ c.if-count-eq64.false c.row_at.ensures
    _ c.in-Ok.is

pub slice_bounds-next-count : goal.slice_bounds-next-count
slice_bounds-next-count c =
    let end_inside : c.in-Ok.e.end ≤ length c.loop-rest.rest.now = row_inside _ _ _ _ _ _ _ c.loop-rest.invariant.1 c.loop-rest-test.true _ c.if-count-eq64.false c.row_at.ensures
    _ c.in-Ok.is in
    end_inside

pub slice_bounds-next-start : goal.slice_bounds-next-start
slice_bounds-next-start c =
    let end_inside : c.in-Ok.e.end ≤ length c.loop-rest.rest.now = row_inside _ _ _ _ _ _ _ c.loop-rest.invariant.1 c.loop-rest-test.true _ c.if-count-eq64.false c.row_at.ensures
    _ c.in-Ok.is in
    end_inside

pub loop-rest-preserved : goal.loop-rest-preserved
loop-rest-preserved c =
    let h : c.loop-rest.count < length c.loop-rest.keys = omega arith in (
      search rules,
      next_row _ _ _ _ _ _ _ c.loop-rest.invariant.1 c.loop-rest-test.true _ c.if-count-eq64.false c.row_at.ensures
          _ c.in-Ok.is _ _ c.sought_key-sought.ensures
          (elim c.if-e-sought.branch [ then-e-sought w ↦ inl (w.if-e-sought.true, w.found-is ∙ ap Ok w.found_in.ensures) | else-e-sought w ↦ inr (w.if-e-sought.false, w.found-is) ]) h,
      none_more _ _ _ _ _ c.loop-rest.invariant.2 (cc) h,
    )

pub returns : goal.returns
returns c = search finish
