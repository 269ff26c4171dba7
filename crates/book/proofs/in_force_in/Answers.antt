use Prim.Native.Nat.{◌<◌}
use Rattle.book.specs.Answers.{in_force_by}
use Rattle.book.proofs.Asking.{none_live, some_live}
use Rattle.book_places.proofs.Staying.{place_inside}
use mathlib.Core.Path.{sym, ap, ◌∙◌}
use native.Mathlib.Omega.{arith}
use Rattle.book.proofs.in_force_in.Goals as goal

-- The place of the last one that is in force tells its number.
pub last_live-requires : goal.last_live-requires
last_live-requires c = (omega arith, c.requires.0)

pub returns-in_err-i : goal.returns-in_err-i
returns-in_err-i c =
    ap in_force_by c.from_residual.ensures
    ∙ none_live c.args.t c.args.count c.args.orders c.requires.1 _ c.last_live.ensures c.in_err-i.was

pub offset_bounds-orders-i : goal.offset_bounds-orders-i
offset_bounds-orders-i c =
    let inside : c.in_ok-i.i < c.args.count = place_inside c.args.t 0 c.args.count _ c.args.orders (omega arith) (sym c.in_ok-i.was ∙ c.last_live.ensures) in
    omega (arith, inside, c.requires.0)

pub bounds-orders-i : goal.bounds-orders-i
bounds-orders-i c =
    let inside : c.in_ok-i.i < c.args.count = place_inside c.args.t 0 c.args.count _ c.args.orders (omega arith) (sym c.in_ok-i.was ∙ c.last_live.ensures) in
    omega (arith, inside, c.requires.0)

pub returns : goal.returns
returns c =
    some_live c.args.t c.args.count c.args.orders c.requires.1 _ c.last_live.ensures _ c.in_ok-i.was
