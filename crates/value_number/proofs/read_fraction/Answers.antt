use Rattle.std.specs.Prelude.{None, Some}
use Prim.Native.Nat.{◌+◌, ◌-◌, ◌^◌}
use Rattle.value_number.proofs.Laws.{fraction_none, fraction_at, thousandths}
use Rattle.value_number.specs.Number.{scaled}
use Rattle.text.proofs.Cuts.{tail}
use Rattle.text.proofs.Numerals.{told}
use Rattle.text.specs.Digits.{digits_of}
use lib.ListN.{length, drop}
use mathlib.Core.Path.{◌≡◌, sym, ap, ◌∙◌}
use native.Mathlib.Omega.{arith}
use Rattle.value_number.proofs.read_fraction.Goals as goal

-- The bytes past the point are the part that `read_digits` is lent.
pub returns-then-p-s : goal.returns-then-p-s
returns-then-p-s c = fraction_none _ _ c.if-p-s.true

pub returns-in_default : goal.returns-in_default
unfolding scaled
returns-in_default c =
    let a = c.args in
    let e : digits_of 3 (drop (a.p + 1) a.s.now) ≡ None = rw tail at (sym c.read_digits.ensures ∙ c.in_default.is) in
    ap (scaled (drop (a.p + 1) a.s.now)) (sym e) ∙ fraction_at a.s.now a.p (omega arith)

pub scale-requires : goal.scale-requires
scale-requires c =
    let read : digits_of 3 (drop (c.args.p + 1) c.args.s.now) ≡ Some c.in-Some.n = rw tail at (sym c.read_digits.ensures ∙ c.in-Some.is) in
    rw (tail c.args.s.now (c.args.p + 1)) (told 3 _ _ read).short

pub overflow_mul-result : goal.overflow_mul-result
overflow_mul-result c =
    let read : digits_of 3 (drop (c.args.p + 1) c.args.s.now) ≡ Some c.in-Some.n = rw tail at (sym c.read_digits.ensures ∙ c.in-Some.is) in
    let scale_is : c.scale.result ≡ 10 ^ (3 - length (drop (c.args.p + 1) c.args.s.now)) = rw tail at c.scale.ensures in
    let t = told 3 _ _ read in
    rw scale_is (omega (arith, thousandths _ _ t.low t.short))

pub returns : goal.returns
unfolding scaled
returns c =
    let scale_is : c.scale.result ≡ 10 ^ (3 - length (drop (c.args.p + 1) c.args.s.now)) = rw tail at c.scale.ensures in
    let read : digits_of 3 (drop (c.args.p + 1) c.args.s.now) ≡ Some c.in-Some.n = rw tail at (sym c.read_digits.ensures ∙ c.in-Some.is) in
    let s = c.args.s.now in
    let p = c.args.p in
    rw scale_is (ap (scaled (drop (p + 1) s)) (sym read) ∙ fraction_at s p (omega arith))
