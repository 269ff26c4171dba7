use Prim.Native.Nat.{◌<◌}
use Rattle.std.specs.Prelude.{Ok}
use Rattle.book_order.specs.Orders.{struck_as}
use Rattle.book_places.specs.Places.{seat_in, seat_by}
use Rattle.book.proofs.Calls.{strike_unheld, strike_refused, strike_done, at_inside, plain}
use Rattle.book.proofs.Holding.{Holding, holds}
use Rattle.book.proofs.Sizes.{sized}
use Rattle.book.specs.Answers.{outcome_by}
use Rattle.refusal.proofs.Some.{not_none}
use borrow.Author.Rules.{rules}
use mathlib.Core.Path.{◌≡◌, refl, sym, ap, ◌∙◌}
use native.Mathlib.Omega.{arith}
use Rattle.book.proofs.Book.strike_in.Goals as goal

pub seat_of-requires : goal.seat_of-requires
seat_of-requires c =
    let holding : Holding c.args.self c.args.count = holds c.args.self _ refl _ (sized c.args.self (search rules) (search rules)) c.requires.0 in
    (omega arith, holding.few)

pub returns-in_default : goal.returns-in_default
returns-in_default c =
    let holding : Holding c.args.self c.args.count = holds c.args.self _ refl _ (sized c.args.self (search rules) (search rules)) c.requires.0 in
    ap outcome_by c.hand_back.ensures
    ∙ strike_unheld c.args.self _ holding c.args.n c.args.over c.requires.1 _ (ap seat_by (sym c.in_default.is) ∙ c.seat_of.ensures) refl

pub offset_bounds-orders-at : goal.offset_bounds-orders-at
offset_bounds-orders-at c =
    let holding : Holding c.args.self c.args.count = holds c.args.self _ refl _ (sized c.args.self (search rules) (search rules)) c.requires.0 in
    let seated : seat_by (Ok c.in-Ok.at) ≡ seat_in c.args.n 0 c.args.count c.args.self.orders = ap seat_by (sym c.in-Ok.is) ∙ c.seat_of.ensures in
    let inside : c.in-Ok.at < 96 = at_inside c.args.self _ holding c.args.n c.args.over c.requires.1 _ seated refl in
    omega (arith, inside)

pub bounds-orders-at : goal.bounds-orders-at
bounds-orders-at c =
    let holding : Holding c.args.self c.args.count = holds c.args.self _ refl _ (sized c.args.self (search rules) (search rules)) c.requires.0 in
    let seated : seat_by (Ok c.in-Ok.at) ≡ seat_in c.args.n 0 c.args.count c.args.self.orders = ap seat_by (sym c.in-Ok.is) ∙ c.seat_of.ensures in
    let inside : c.in-Ok.at < 96 = at_inside c.args.self _ holding c.args.n c.args.over c.requires.1 _ seated refl in
    omega (arith, inside)

pub returns-in-Err : goal.returns-in-Err
returns-in-Err c =
    let holding : Holding c.args.self c.args.count = holds c.args.self _ refl _ (sized c.args.self (search rules) (search rules)) c.requires.0 in
    let seated : seat_by (Ok c.in-Ok.at) ≡ seat_in c.args.n 0 c.args.count c.args.self.orders = ap seat_by (sym c.in-Ok.is) ∙ c.seat_of.ensures in
    ap outcome_by c.hand_back-in-Err.ensures
    ∙ plain _ _ c.in-Err.is c.strike.ensures.1 c.args.self
    ∙ strike_refused c.args.self _ holding c.args.n c.args.over c.requires.1 _ seated refl _ (ap (struck_as _) (sym c.in-Err.is) ∙ c.strike.ensures.0)
    (not_none _)

pub offset_bounds-orders-at-2 : goal.offset_bounds-orders-at-2
offset_bounds-orders-at-2 c =
    let holding : Holding c.args.self c.args.count = holds c.args.self _ refl _ (sized c.args.self (search rules) (search rules)) c.requires.0 in
    let seated : seat_by (Ok c.in-Ok.at) ≡ seat_in c.args.n 0 c.args.count c.args.self.orders = ap seat_by (sym c.in-Ok.is) ∙ c.seat_of.ensures in
    let inside : c.in-Ok.at < 96 = at_inside c.args.self _ holding c.args.n c.args.over c.requires.1 _ seated refl in
    omega (arith, inside)

pub bounds-orders-at-2 : goal.bounds-orders-at-2
bounds-orders-at-2 c =
    let holding : Holding c.args.self c.args.count = holds c.args.self _ refl _ (sized c.args.self (search rules) (search rules)) c.requires.0 in
    let seated : seat_by (Ok c.in-Ok.at) ≡ seat_in c.args.n 0 c.args.count c.args.self.orders = ap seat_by (sym c.in-Ok.is) ∙ c.seat_of.ensures in
    let inside : c.in-Ok.at < 96 = at_inside c.args.self _ holding c.args.n c.args.over c.requires.1 _ seated refl in
    omega (arith, inside)

pub returns : goal.returns
returns c =
    let holding : Holding c.args.self c.args.count = holds c.args.self _ refl _ (sized c.args.self (search rules) (search rules)) c.requires.0 in
    let seated : seat_by (Ok c.in-Ok.at) ≡ seat_in c.args.n 0 c.args.count c.args.self.orders = ap seat_by (sym c.in-Ok.is) ∙ c.seat_of.ensures in
    ap outcome_by c.hand_back-2.ensures
    ∙ strike_done c.args.self _ holding c.args.n c.args.over c.requires.1 _ seated refl _ (ap (struck_as _) (sym c.in-Ok-strike.is) ∙ c.strike.ensures.0) refl
    _ c.made.ensures
