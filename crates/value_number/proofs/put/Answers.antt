use Prim.Native.Nat.{◌+◌, ◌/◌}
use Rattle.value_number.proofs.Texts.{sign_short, text_is}
use Rattle.value_number.specs.Number.{decimals_text, sign_text, number_text}
use Rattle.text.proofs.Numerals.{whole_length}
use Rattle.text.proofs.Runs.{puts, then, same_puts}
use Rattle.text.specs.Digits.{whole_text}
use borrow.Author.Rules.{rules}
use lib.IntN.{nat_abs}
use lib.ListN.{length}
use mathlib.Core.Path.{◌≡◌}
use mir.Syntax.{w32}
use mir.ValLaws.{to_z-of_z}
use Rattle.value_number.proofs.put.Goals as goal

pub put_whole-b-requires : goal.put_whole-b-requires
put_whole-b-requires c =
    let sign_end : c.put_sign-a.result ≡ c.args.at + length (sign_text c.args.v) = rw (to_z-of_z w32 c.args.v c.ranges.v) at c.put_sign-a.ensures.0 in
    let e = sign_end in
    let h = sign_short c.args.v in
    search rules

pub put_decimals-requires : goal.put_decimals-requires
put_decimals-requires c =
    let sign_end : c.put_sign-a.result ≡ c.args.at + length (sign_text c.args.v) = rw (to_z-of_z w32 c.args.v c.ranges.v) at c.put_sign-a.ensures.0 in
    let e = sign_end in
    let h = sign_short c.args.v in
    let l = whole_length 6 (c.magnitude-m.result / 1000) in
    search rules

pub returns : goal.returns
returns c =
    let mag : c.magnitude-m.result ≡ nat_abs c.args.v = rw (to_z-of_z w32 c.args.v c.ranges.v) at c.magnitude-m.ensures in
    let v = c.args.v in
    let m = c.magnitude-m.result in
    let a = c.without_zeros-d.result.size in
    let b = c.without_zeros-d.result.value in
    let sign = puts {t = sign_text v} (rw (to_z-of_z w32 v c.ranges.v) at c.put_sign-a.ensures) in
    let whole = puts {t = whole_text 6 (m / 1000)} c.put_whole-b.ensures in
    let decimals = puts {t = decimals_text a b} c.put_decimals.ensures in
    same_puts (number_text v) (text_is v m a b mag c.without_zeros-d.ensures.1) (then (then sign whole) decimals)
