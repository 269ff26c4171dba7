-- Tests joined by `&` from the left are those joined by `&&` from the right. Assumes nothing.
use mathlib.Core.Bool.{Bool, true, false, ◌&&◌}
use mathlib.Core.Path.{◌≡◌, refl}

pub three : (a b c : Bool) → (a && b) && c ≡ a && (b && c)
three true b c = refl
three false b c = refl

pub four : (a b c d : Bool) → ((a && b) && c) && d ≡ a && (b && (c && d))
four true b c d = three b c d
four false b c d = refl

five : (a b c d e : Bool) → (((a && b) && c) && d) && e ≡ a && (b && (c && (d && e)))
five true b c d e = four b c d e
five false b c d e = refl

six : (a b c d e f : Bool) → ((((a && b) && c) && d) && e) && f ≡ a && (b && (c && (d && (e && f))))
six true b c d e f = five b c d e f
six false b c d e f = refl

pub seven : (a b c d e f g : Bool) → (((((a && b) && c) && d) && e) && f) && g ≡ a && (b && (c && (d && (e && (f && g)))))
seven true b c d e f g = six b c d e f g
seven false b c d e f g = refl
