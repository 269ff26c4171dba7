-- What a seat says tells which answer it is. Assumes nothing.
use Rattle.std.specs.Prelude.{ℕ, Result, Ok, Err}
use Rattle.book_places.specs.Places.{Seat, seat_by}
use mathlib.Core.Bool.{cond}
use mathlib.Core.Path.{◌≡◌, refl, sym, ap, ◌∙◌}

seat_as : Seat → Result ℕ ℕ
seat_as s = cond s.held (Ok s.at) (Err s.at)

seat_back : (x : Result ℕ ℕ) → seat_as (seat_by x) ≡ x
unfolding seat_as
seat_back (Ok i) = refl
seat_back (Err i) = refl

pub one_seat : (x y : Result ℕ ℕ) → seat_by x ≡ seat_by y → x ≡ y
one_seat x y e = sym (seat_back x) ∙ ap seat_as e ∙ seat_back y
