use Prim.Native.Nat.{◌+◌, ◌≤◌, ◌<◌}
use Rattle.value_number.proofs.Leads.{whole_below}
use Rattle.value_number.proofs.Parts.{whole_refused, whole_closed, whole_pointed, whole_inside, point_inside}
use Rattle.text.proofs.Cuts.{tail}
use Rattle.text.specs.Digits.{lead_of}
use borrow.Author.Rules.{rules}
use lib.ListN.{length, drop}
use mathlib.Core.Path.{◌≡◌, sym, ◌∙◌}
use mir.Syntax.{w32}
use mir.ValLaws.{to_z-of_z}
use native.Mathlib.Omega.{arith}
use Rattle.value_number.proofs.unsigned_part.Goals as goal

pub returns-then-whole : goal.returns-then-whole
returns-then-whole c =
    let led : c.lead-whole.result ≡ lead_of 7 (drop c.args.at c.args.s.now) = rw (tail c.args.s.now c.args.at) at c.lead-whole.ensures in
    whole_refused c.args.sep c.requires.1 c.args.s.now c.args.at c.requires.0 c.lead-whole.result led c.if-whole.true _ _

pub overflow_add-p : goal.overflow_add-p
overflow_add-p c =
    let led : c.lead-whole.result ≡ lead_of 7 (drop c.args.at c.args.s.now) = rw (tail c.args.s.now c.args.at) at c.lead-whole.ensures in
    let inside : c.args.at + c.lead-whole.result.count ≤ length c.args.s.now = whole_inside c.args.sep c.requires.1 c.args.s.now c.args.at c.requires.0 c.lead-whole.result led c.if-whole.false in
    let fits = inside in search rules

pub overflow_add-p-then-is_at : goal.overflow_add-p-then-is_at
overflow_add-p-then-is_at c =
    let led : c.lead-whole.result ≡ lead_of 7 (drop c.args.at c.args.s.now) = rw (tail c.args.s.now c.args.at) at c.lead-whole.ensures in
    let point_fits : c.args.at + c.lead-whole.result.count < length c.args.s.now = point_inside c.args.sep c.requires.1 c.args.s.now c.args.at c.requires.0 c.lead-whole.result led
    c.if-whole.false (sym c.is_at.ensures ∙ c.if-is_at.true) in
    let fits = point_fits in search rules

pub decimals_part-requires : goal.decimals_part-requires
decimals_part-requires c =
    let led : c.lead-whole.result ≡ lead_of 7 (drop c.args.at c.args.s.now) = rw (tail c.args.s.now c.args.at) at c.lead-whole.ensures in
    let point_fits : c.args.at + c.lead-whole.result.count < length c.args.s.now = point_inside c.args.sep c.requires.1 c.args.s.now c.args.at c.requires.0 c.lead-whole.result led
    c.if-whole.false (sym c.is_at.ensures ∙ c.if-is_at.true) in
    let low : c.lead-whole.result.value < 1000000 = whole_below (drop c.args.at c.args.s.now) c.lead-whole.result led c.if-whole.false in
    (omega (arith, point_fits), c.requires.1, low)

pub returns-then-is_at : goal.returns-then-is_at
returns-then-is_at c =
    let led : c.lead-whole.result ≡ lead_of 7 (drop c.args.at c.args.s.now) = rw (tail c.args.s.now c.args.at) at c.lead-whole.ensures in
    whole_pointed c.args.sep c.requires.1 c.args.s.now c.args.at c.requires.0 c.lead-whole.result led
    c.if-whole.false (sym c.is_at.ensures ∙ c.if-is_at.true) _ _ c.decimals_part.ensures

pub overflow_mul-whole : goal.overflow_mul-whole
overflow_mul-whole c =
    let led : c.lead-whole.result ≡ lead_of 7 (drop c.args.at c.args.s.now) = rw (tail c.args.s.now c.args.at) at c.lead-whole.ensures in
    let low : c.lead-whole.result.value < 1000000 = whole_below (drop c.args.at c.args.s.now) c.lead-whole.result led c.if-whole.false in
    omega (arith, low)

pub signed-requires : goal.signed-requires
signed-requires c =
    let led : c.lead-whole.result ≡ lead_of 7 (drop c.args.at c.args.s.now) = rw (tail c.args.s.now c.args.at) at c.lead-whole.ensures in
    let low : c.lead-whole.result.value < 1000000 = whole_below (drop c.args.at c.args.s.now) c.lead-whole.result led c.if-whole.false in
    omega (arith, low)

pub close-requires : goal.close-requires
close-requires c =
    let led : c.lead-whole.result ≡ lead_of 7 (drop c.args.at c.args.s.now) = rw (tail c.args.s.now c.args.at) at c.lead-whole.ensures in
    let inside : c.args.at + c.lead-whole.result.count ≤ length c.args.s.now = whole_inside c.args.sep c.requires.1 c.args.s.now c.args.at c.requires.0 c.lead-whole.result led c.if-whole.false in
    (inside, c.requires.1)

pub returns : goal.returns
returns c =
    let led : c.lead-whole.result ≡ lead_of 7 (drop c.args.at c.args.s.now) = rw (tail c.args.s.now c.args.at) at c.lead-whole.ensures in
    whole_closed c.args.sep c.requires.1 c.args.s.now c.args.at c.requires.0 c.lead-whole.result led
    c.if-whole.false _ _ _ (sym c.is_at.ensures ∙ c.if-is_at.false) c.close.ensures
    (to_z-of_z w32 c.signed.result (record { sfits = c.signed.type_inv }) ∙ c.signed.ensures)
