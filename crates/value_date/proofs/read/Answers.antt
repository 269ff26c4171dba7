use Rattle.std.specs.Prelude.{Some}
use Rattle.value_date.proofs.Laws.{date_misshapen, date_unreal, date_is}
use Rattle.value_date.specs.Date.{shaped, date_shape, is_real}
use mathlib.Core.Bool.{true}
use mathlib.Core.Path.{◌≡◌, sym, ap, ◌∙◌}
use Rattle.value_date.proofs.read.Goals as goal

pub returns-then-not-has_shape : goal.returns-then-not-has_shape
returns-then-not-has_shape c = date_misshapen _ (sym c.has_shape.ensures ∙ c.if-not-has_shape.true)

pub fields-d-requires : goal.fields-d-requires
fields-d-requires c =
    let well_shaped : shaped date_shape c.args.s.now ≡ true = sym c.has_shape.ensures ∙ c.if-not-has_shape.false in
    well_shaped

pub returns-then-is_real : goal.returns-then-is_real
returns-then-is_real c =
    let well_shaped : shaped date_shape c.args.s.now ≡ true = sym c.has_shape.ensures ∙ c.if-not-has_shape.false in
    ap Some c.fields-d.ensures ∙ date_is _ well_shaped (ap is_real (sym c.fields-d.ensures) ∙ sym c.is_real.ensures ∙ c.if-is_real.true)

pub returns-else-is_real : goal.returns-else-is_real
returns-else-is_real c =
    let well_shaped : shaped date_shape c.args.s.now ≡ true = sym c.has_shape.ensures ∙ c.if-not-has_shape.false in
    date_unreal _ well_shaped (ap is_real (sym c.fields-d.ensures) ∙ sym c.is_real.ensures ∙ c.if-is_real.false)
