use Rattle.value.specs.Kinds.{list_from, shape_of}
use Rattle.value.specs.declared.Shape.{Shape}
use mathlib.Core.Path.{sym, ap, ◌∙◌}
use Rattle.value.proofs.read.read_shape.Goals as goal

pub returns-in-IsId : goal.returns-in-IsId
unfolding shape_of
returns-in-IsId c =
    c.read_id.ensures ∙ ap (λ (x : Shape). shape_of x c.args.s.now) (sym c.in-IsId.is)

pub returns-in-IsUnit : goal.returns-in-IsUnit
unfolding shape_of
returns-in-IsUnit c = c.read_unit.ensures ∙ ap (λ (x : Shape). shape_of x c.args.s.now) (sym c.in-IsUnit.is)

pub returns-in-IsWhen : goal.returns-in-IsWhen
unfolding shape_of
returns-in-IsWhen c = c.read_date.ensures ∙ ap (λ (x : Shape). shape_of x c.args.s.now) (sym c.in-IsWhen.is)

pub returns-in-IsAmount : goal.returns-in-IsAmount
unfolding shape_of
returns-in-IsAmount c = c.read_amount.ensures ∙ ap (λ (x : Shape). shape_of x c.args.s.now) (sym c.in-IsAmount.is)

pub returns-in-IsCount : goal.returns-in-IsCount
unfolding shape_of
returns-in-IsCount c = c.read_count.ensures ∙ ap (λ (x : Shape). shape_of x c.args.s.now) (sym c.in-IsCount.is)

pub returns-in-IsReason : goal.returns-in-IsReason
unfolding shape_of
returns-in-IsReason c = c.read_reason.ensures ∙ ap (λ (x : Shape). shape_of x c.args.s.now) (sym c.in-IsReason.is)

pub returns-in-IsNote : goal.returns-in-IsNote
unfolding shape_of
returns-in-IsNote c = c.read_note.ensures ∙ ap (λ (x : Shape). shape_of x c.args.s.now) (sym c.in-IsNote.is)

pub returns-in-IsWord : goal.returns-in-IsWord
unfolding shape_of
returns-in-IsWord c =
    c.read_word.ensures ∙ ap (λ (x : Shape). shape_of x c.args.s.now) (sym c.in-IsWord.is)

pub returns-in-IsProfile : goal.returns-in-IsProfile
unfolding shape_of
returns-in-IsProfile c =
    c.listed.ensures ∙ ap list_from c.read_profile.ensures
    ∙ ap (λ (x : Shape). shape_of x c.args.s.now) (sym c.in-IsProfile.is)

pub returns-in-IsBands : goal.returns-in-IsBands
unfolding shape_of
returns-in-IsBands c =
    c.listed-in-IsBands.ensures ∙ ap list_from c.read_bands.ensures
    ∙ ap (λ (x : Shape). shape_of x c.args.s.now) (sym c.in-IsBands.is)

pub returns-in-IsTriples : goal.returns-in-IsTriples
unfolding shape_of
returns-in-IsTriples c =
    c.read_triples.ensures ∙ ap (λ (x : Shape). shape_of x c.args.s.now) (sym c.in-IsTriples.is)

pub returns-in-IsVoltage : goal.returns-in-IsVoltage
unfolding shape_of
returns-in-IsVoltage c =
    c.read_voltage.ensures ∙ ap (λ (x : Shape). shape_of x c.args.s.now) (sym c.in-IsVoltage.is)

pub returns-in-IsRegulator : goal.returns-in-IsRegulator
unfolding shape_of
returns-in-IsRegulator c =
    c.read_regulator.ensures ∙ ap (λ (x : Shape). shape_of x c.args.s.now) (sym c.in-IsRegulator.is)

pub returns-in-IsChange : goal.returns-in-IsChange
unfolding shape_of
returns-in-IsChange c =
    c.read_change.ensures ∙ ap (λ (x : Shape). shape_of x c.args.s.now) (sym c.in-IsChange.is)

pub returns-in-IsReactive : goal.returns-in-IsReactive
unfolding shape_of
returns-in-IsReactive c =
    c.read_reactive.ensures ∙ ap (λ (x : Shape). shape_of x c.args.s.now) (sym c.in-IsReactive.is)
