-- What a strike's answer says tells which answer it is. Assumes nothing.
use Rattle.std.specs.Prelude.{Result, Ok, Err}
use Rattle.book_order.specs.Orders.{Struck, struck_as}
use Rattle.book_order.specs.declared.Order.{Order}
use Rattle.refusal.proofs.Told.{same_result}
use Rattle.refusal.specs.Results.{number_in, detail_in}
use Rattle.refusal.specs.declared.Refusal.{Refusal}
use mathlib.Core.Path.{◌≡◌, refl, sym, ap, ◌∙◌}

number_told : (o : Order) (x : Result Order Refusal) → (struck_as o x).number ≡ number_in x
number_told o (Ok s) = refl
number_told o (Err e) = refl

pub one_strike : (o : Order) (x y : Result Order Refusal) → struck_as o x ≡ struck_as o y → detail_in x ≡ detail_in y → x ≡ y
one_strike o x y e d =
    same_result x y (sym (number_told o x) ∙ ap (λ (s : Struck). s.number) e ∙ number_told o y) d
    (λ u v p q. ap (λ (s : Struck). s.order) (sym (ap (struck_as o) p) ∙ e ∙ ap (struck_as o) q))
