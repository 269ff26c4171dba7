use Rattle.book_stretch.proofs.Arms.{turn_stays, turn_adds, turn_places, turn_grows, room_one, room_two}
use borrow.Author.Rules.{rules}
use Rattle.book_stretch.proofs.joining.turn.Goals as goal

-- Each arm is one of `turned`, and finds the places that it uses. That of a stretch that comes after is written out, so that a wrong version is refused by
-- what differs.
pub returns-then-c-eq0 : goal.returns-then-c-eq0
returns-then-c-eq0 c = search (turn_stays, rules)

pub add-requires : goal.add-requires
add-requires c = search (room_one, rules)

pub returns-then-j-c : goal.returns-then-j-c
returns-then-j-c c = search (turn_adds, rules)

pub place-requires : goal.place-requires
place-requires c = search (room_one, rules)

pub add-requires-then-s-c : goal.add-requires-then-s-c
add-requires-then-s-c c = search (room_two, rules)

pub returns-then-s-c : goal.returns-then-s-c
returns-then-s-c c =
    turn_places _ _ c.if-c-eq0.false c.if-j-c.false _ _ c.if-s-c.true c.place.ensures c.add-then-s-c.ensures

pub returns : goal.returns
returns c = search (turn_grows, rules)
