use Rattle.std.specs.Prelude.{None, Some}
use Prim.Native.Nat.{◌<◌}
use Rattle.value_number.proofs.Laws.{fraction_below}
use Rattle.value_number.proofs.Leads.{lead_refused, lead_other, lead_taken, count_short, whole_below}
use Rattle.value_number.specs.Number.{fraction_of, joined_digits}
use lib.ListN.{length, get_or, drop}
use mathlib.Core.Path.{◌≡◌, sym, ◌∙◌}
use native.Mathlib.Omega.{arith}
use Rattle.value_number.proofs.read_unsigned.Goals as goal
use Rattle.value_number.proofs.read_unsigned.Goals.{then-p-s+else-s-p-ne46, else-p-s}

pub returns-then-w : goal.returns-then-w
returns-then-w c = lead_refused _ _ c.lead-w.ensures c.if-w.true

pub returns-then-s-p-ne46 : goal.returns-then-s-p-ne46
returns-then-s-p-ne46 c =
    lead_other _ _ c.lead-w.ensures c.if-w.false c.if-p-s.true c.if-s-p-ne46.true

pub read_fraction-requires : goal.read_fraction-requires
read_fraction-requires c =
    count_short c.args.s.now c.lead-w.result c.lead-w.ensures c.if-w.false

pub returns-in_default : goal.returns-in_default
unfolding joined_digits
returns-in_default c =
    let point_at : c.lead-w.result.count < length c.args.s.now → get_or c.args.s.now c.lead-w.result.count 0 ≡ 46 = λ h. elim c.if-p-s.branch [ then-p-s+else-s-p-ne46 w ↦ w.if-s-p-ne46.false | else-p-s w ↦ absurd (omega (arith, w.if-p-s.false)) ] in
    lead_taken _ _ c.lead-w.ensures c.if-w.false point_at None (sym c.in_default.is ∙ c.read_fraction.ensures)

pub overflow_mul-result : goal.overflow_mul-result
overflow_mul-result c =
    let whole : c.lead-w.result.value < 1000000 = whole_below c.args.s.now c.lead-w.result c.lead-w.ensures c.if-w.false in
    omega (arith, whole)

pub overflow_add-result : goal.overflow_add-result
overflow_add-result c =
    let whole : c.lead-w.result.value < 1000000 = whole_below c.args.s.now c.lead-w.result c.lead-w.ensures c.if-w.false in
    let decimals : Some c.in-Some.f ≡ fraction_of (drop c.lead-w.result.count c.args.s.now) = sym c.in-Some.is ∙ c.read_fraction.ensures in
    omega (arith, whole, fraction_below _ _ (sym decimals))

pub returns : goal.returns
unfolding joined_digits
returns c =
    let point_at : c.lead-w.result.count < length c.args.s.now → get_or c.args.s.now c.lead-w.result.count 0 ≡ 46 = λ h. elim c.if-p-s.branch [ then-p-s+else-s-p-ne46 w ↦ w.if-s-p-ne46.false | else-p-s w ↦ absurd (omega (arith, w.if-p-s.false)) ] in
    let decimals : Some c.in-Some.f ≡ fraction_of (drop c.lead-w.result.count c.args.s.now) = sym c.in-Some.is ∙ c.read_fraction.ensures in
    lead_taken _ _ c.lead-w.ensures c.if-w.false point_at _ decimals
