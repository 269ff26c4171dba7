-- A rule's number is never 0, and the number of the lowest broken rule tells which it is. Assumes nothing.
use Rattle.record_rules.specs.Broken.{rule_number, broken_number}
use Rattle.record_rules.specs.declared.Rule.TheVariants.{Order, Update, Profile, Gradients, Exclusion, Limitation, HalfBands, VoltVar, Quantities}
use Rattle.record_rules.specs.declared.Rule.{Rule}
use Rattle.std.specs.Option.{is_some}
use Rattle.std.specs.Prelude.{ℕ, eqb, cond, not, true, false, Bool, Option, Some, None}
use borrow.Author.Tests.{ne_eqb}
use mathlib.Core.Bool.{false≢true}
use mathlib.Core.Path.{◌≡◌, refl, sym, ap, ◌∙◌}

-- the answer that has this number
told_as : ℕ → Option Rule
told_as n =
    cond (eqb n 0) None (
    cond (eqb n 1) (Some Order) (
    cond (eqb n 2) (Some Update) (
    cond (eqb n 3) (Some Profile) (
    cond (eqb n 4) (Some Gradients) (
    cond (eqb n 5) (Some Exclusion) (
    cond (eqb n 6) (Some Limitation) (
    cond (eqb n 7) (Some HalfBands) (
    cond (eqb n 8) (Some VoltVar) (
    Some Quantities)))))))))

told_back : (x : Option Rule) → told_as (broken_number x) ≡ x
unfolding told_as
told_back None = refl
told_back (Some Order) = refl
told_back (Some Update) = refl
told_back (Some Profile) = refl
told_back (Some Gradients) = refl
told_back (Some Exclusion) = refl
told_back (Some Limitation) = refl
told_back (Some HalfBands) = refl
told_back (Some VoltVar) = refl
told_back (Some Quantities) = refl

-- two answers of the same number are the same
pub broken_one : (x y : Option Rule) → broken_number x ≡ broken_number y → x ≡ y
broken_one x y e = sym (told_back x) ∙ ap told_as e ∙ told_back y

pub not_zero : (r : Rule) → rule_number r ≡ 0 → ⊥
not_zero r e = false≢true (sym (ap is_some (broken_one (Some r) None e)))

-- whether all hold, by the number
pub none_zero : (x : Option Rule) (b : Bool) → is_some x ≡ not b → b ≡ eqb (broken_number x) 0
none_zero None true e = refl
none_zero None false e = e
none_zero (Some r) true e = absurd (false≢true (sym e))
none_zero (Some r) false e = sym (ne_eqb (rule_number r) 0 (not_zero r))
