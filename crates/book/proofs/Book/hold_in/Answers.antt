use Rattle.std.specs.Prelude.{Err}
use Rattle.book_places.proofs.Seats.{seat_within}
use Rattle.book_places.specs.Places.{seat_in, seat_by}
use Rattle.book.proofs.Calls.{hold_late, hold_held, hold_full, hold_done}
use Rattle.book.proofs.Holding.{Holding, holds}
use Rattle.book.proofs.Sizes.{sized}
use Rattle.book.specs.Answers.{outcome_by}
use borrow.Author.Rules.{rules}
use mathlib.Core.Path.{◌≡◌, refl, sym, ap, ◌∙◌}
use native.Mathlib.Omega.{arith}
use Rattle.book.proofs.Book.hold_in.Goals as goal

pub returns-then-o-self : goal.returns-then-o-self
returns-then-o-self c =
    let holding : Holding c.args.self c.args.count = holds c.args.self _ refl _ (sized c.args.self (search rules) (search rules)) c.requires.0 in
    ap outcome_by c.hand_back.ensures ∙ hold_late c.args.self _ holding c.args.o c.requires.1 c.if-o-self.true

pub seat_of-requires : goal.seat_of-requires
seat_of-requires c =
    let holding : Holding c.args.self c.args.count = holds c.args.self _ refl _ (sized c.args.self (search rules) (search rules)) c.requires.0 in
    (omega arith, holding.few)

pub returns-in_default : goal.returns-in_default
returns-in_default c =
    let holding : Holding c.args.self c.args.count = holds c.args.self _ refl _ (sized c.args.self (search rules) (search rules)) c.requires.0 in
    ap outcome_by c.hand_back-in_default.ensures
    ∙ hold_held c.args.self _ holding c.args.o c.requires.1 c.if-o-self.false _ (ap seat_by (sym c.in_default.is) ∙ c.seat_of.ensures) refl

pub returns-then-count-eq96 : goal.returns-then-count-eq96
returns-then-count-eq96 c =
    let holding : Holding c.args.self c.args.count = holds c.args.self _ refl _ (sized c.args.self (search rules) (search rules)) c.requires.0 in
    let seated : seat_by (Err c.in-Err.at) ≡ seat_in c.args.o.number 0 c.args.count c.args.self.orders = ap seat_by (sym c.in-Err.is) ∙ c.seat_of.ensures in
    ap outcome_by c.hand_back-then-count-eq96.ensures
    ∙ hold_full c.args.self _ holding c.args.o c.requires.1 c.if-o-self.false _ seated refl c.if-count-eq96.true

pub overflow_add-count : goal.overflow_add-count
overflow_add-count c =
    let holding : Holding c.args.self c.args.count = holds c.args.self _ refl _ (sized c.args.self (search rules) (search rules)) c.requires.0 in
    record { fits = omega (arith, holding.few) }

pub put_in-requires : goal.put_in-requires
put_in-requires c =
    let holding : Holding c.args.self c.args.count = holds c.args.self _ refl _ (sized c.args.self (search rules) (search rules)) c.requires.0 in
    let seated : seat_by (Err c.in-Err.at) ≡ seat_in c.args.o.number 0 c.args.count c.args.self.orders = ap seat_by (sym c.in-Err.is) ∙ c.seat_of.ensures in
    (seat_within _ _ _ _ _ seated (omega arith), omega (arith, holding.few, c.if-count-eq96.false))

pub returns : goal.returns
returns c =
    let holding : Holding c.args.self c.args.count = holds c.args.self _ refl _ (sized c.args.self (search rules) (search rules)) c.requires.0 in
    let seated : seat_by (Err c.in-Err.at) ≡ seat_in c.args.o.number 0 c.args.count c.args.self.orders = ap seat_by (sym c.in-Err.is) ∙ c.seat_of.ensures in
    ap outcome_by c.hand_back-2.ensures
    ∙ hold_done c.args.self _ holding c.args.o c.requires.1 c.if-o-self.false _ seated refl
    c.if-count-eq96.false _ c.put_in.ensures _ c.sooner-next.ensures _ c.made.ensures
