use Prim.Native.Nat.{ℕ, ◌+◌, ◌*◌, ◌≤◌, ◌<◌}
use Rattle.value_number.proofs.Parts.{decimals_refused, decimals_closed, few_some, few_inside, few_below}
use Rattle.text.proofs.Cuts.{tail}
use Rattle.text.specs.Digits.{lead_of}
use borrow.Author.Rules.{rules}
use lib.ListN.{length, drop}
use mathlib.Core.Path.{◌≡◌, ap, ◌∙◌}
use mir.Syntax.{w32}
use mir.ValLaws.{to_z-of_z}
use native.Mathlib.Omega.{arith}
use Rattle.value_number.proofs.decimals_part.Goals as goal

pub returns-then-f : goal.returns-then-f
returns-then-f c =
    let led : c.lead-f.result ≡ lead_of 4 (drop c.args.at c.args.s.now) = rw (tail c.args.s.now c.args.at) at c.lead-f.ensures in
    decimals_refused c.args.sep c.requires.1 c.args.s.now c.args.at c.requires.0 c.lead-f.result led c.if-f.true _ _ _

pub scale-requires : goal.scale-requires
scale-requires c =
    let led : c.lead-f.result ≡ lead_of 4 (drop c.args.at c.args.s.now) = rw (tail c.args.s.now c.args.at) at c.lead-f.ensures in
    (few_some c.args.sep c.requires.1 c.args.s.now c.args.at c.requires.0 c.lead-f.result led c.if-f.false).1

pub overflow_mul-n-2 : goal.overflow_mul-n-2
overflow_mul-n-2 c =
    let led : c.lead-f.result ≡ lead_of 4 (drop c.args.at c.args.s.now) = rw (tail c.args.s.now c.args.at) at c.lead-f.ensures in
    let low : c.lead-f.result.value * c.scale.result < 1000 = rw c.scale.ensures (few_below c.args.sep c.requires.1 c.args.s.now c.args.at c.requires.0 c.lead-f.result led c.if-f.false) in
    omega (arith, low)

pub overflow_add-n : goal.overflow_add-n
overflow_add-n c =
    let led : c.lead-f.result ≡ lead_of 4 (drop c.args.at c.args.s.now) = rw (tail c.args.s.now c.args.at) at c.lead-f.ensures in
    let low : c.lead-f.result.value * c.scale.result < 1000 = rw c.scale.ensures (few_below c.args.sep c.requires.1 c.args.s.now c.args.at c.requires.0 c.lead-f.result led c.if-f.false) in
    omega (arith, low, c.requires.2)

pub overflow_add-at : goal.overflow_add-at
overflow_add-at c =
    let led : c.lead-f.result ≡ lead_of 4 (drop c.args.at c.args.s.now) = rw (tail c.args.s.now c.args.at) at c.lead-f.ensures in
    let inside : c.args.at + c.lead-f.result.count ≤ length c.args.s.now = few_inside c.args.sep c.requires.1 c.args.s.now c.args.at c.requires.0 c.lead-f.result led c.if-f.false in
    let fits = inside in search rules

pub signed-requires : goal.signed-requires
signed-requires c =
    let led : c.lead-f.result ≡ lead_of 4 (drop c.args.at c.args.s.now) = rw (tail c.args.s.now c.args.at) at c.lead-f.ensures in
    let low : c.lead-f.result.value * c.scale.result < 1000 = rw c.scale.ensures (few_below c.args.sep c.requires.1 c.args.s.now c.args.at c.requires.0 c.lead-f.result led c.if-f.false) in
    omega (arith, low, c.requires.2)

pub close-requires : goal.close-requires
close-requires c =
    let led : c.lead-f.result ≡ lead_of 4 (drop c.args.at c.args.s.now) = rw (tail c.args.s.now c.args.at) at c.lead-f.ensures in
    let inside : c.args.at + c.lead-f.result.count ≤ length c.args.s.now = few_inside c.args.sep c.requires.1 c.args.s.now c.args.at c.requires.0 c.lead-f.result led c.if-f.false in
    (inside, c.requires.1)

pub returns : goal.returns
returns c =
    let led : c.lead-f.result ≡ lead_of 4 (drop c.args.at c.args.s.now) = rw (tail c.args.s.now c.args.at) at c.lead-f.ensures in
    decimals_closed c.args.sep c.requires.1 c.args.s.now c.args.at c.requires.0 c.lead-f.result led
    c.if-f.false _ c.args.whole _ _ _ c.close.ensures
    (ap (λ (u : ℕ). c.args.whole * 1000 + c.lead-f.result.value * u) c.scale.ensures)
    (to_z-of_z w32 c.signed.result (record { sfits = c.signed.type_inv }) ∙ c.signed.ensures)
