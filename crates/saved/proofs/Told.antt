-- What an answer says tells which answer it is. Assumes nothing.
use Rattle.std.specs.Prelude.{ℕ, Result, Ok, Err}
use Rattle.refusal.proofs.Told.{same_result}
use Rattle.refusal.specs.Results.{number_in, detail_in}
use Rattle.refusal.specs.declared.Refusal.{Refusal}
use Rattle.saved.specs.Saved.{OrderRead, order_read_by, Saved, To, Refused, saved_by}
use Rattle.saved.specs.declared.OrderRead.{OrderRead as GoodOrder}
use mathlib.Core.Bool.{cond}
use mathlib.Core.Path.{◌≡◌, refl, sym, ap, ◌∙◌}

abbrev number_of : Saved → ℕ
number_of (To n) = 0
number_of (Refused n d) = n

abbrev detail_of : Saved → ℕ
detail_of (To n) = 0
detail_of (Refused n d) = d

abbrev length_of : Saved → ℕ
length_of (To n) = n
length_of (Refused n d) = 0

number_told : (x : Result ℕ Refusal) → number_of (saved_by x) ≡ number_in x
number_told (Ok n) = refl
number_told (Err e) = refl

detail_told : (x : Result ℕ Refusal) → detail_of (saved_by x) ≡ detail_in x
detail_told (Ok n) = refl
detail_told (Err e) = refl

pub one_saved : (x y : Result ℕ Refusal) → saved_by x ≡ saved_by y → x ≡ y
one_saved x y e =
    same_result x y (sym (number_told x) ∙ ap number_of e ∙ number_told y) (sym (detail_told x) ∙ ap detail_of e ∙ detail_told y)
    (λ u v p q. ap length_of (sym (ap saved_by p) ∙ e ∙ ap saved_by q))

-- ---- an order

order_as : OrderRead → Result GoodOrder ℕ
order_as x = cond x.good (Ok (record { order = x.order; lines = x.lines; end = x.end })) (Err x.lines)

order_back : (x : Result GoodOrder ℕ) → order_as (order_read_by x) ≡ x
unfolding order_as
order_back (Ok x) = refl
order_back (Err k) = refl

pub one_order : (x y : Result GoodOrder ℕ) → order_read_by x ≡ order_read_by y → x ≡ y
one_order x y e = sym (order_back x) ∙ ap order_as e ∙ order_back y
