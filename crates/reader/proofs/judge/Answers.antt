use Rattle.reader.proofs.Judging.{unit_ordered, unit_inside, unit_same, broken_verdict, unit_verdict, row_verdict, well_verdict}
use Rattle.record_rules.specs.Broken.{broken_number}
use mathlib.Core.Path.{sym, ap, ◌∙◌}
use Rattle.reader.proofs.judge.Goals as goal

pub returns-in-Some : goal.returns-in-Some
returns-in-Some c = broken_verdict _ _ _ _ _ c.in-Some.is c.number.ensures

pub is_at-requires : goal.is_at-requires
is_at-requires c = let p = c.requires in (unit_ordered _ _ _ p.2, unit_inside _ _ _ p.2)

pub returns-then-not-is_at : goal.returns-then-not-is_at
returns-then-not-is_at c =
    let u = unit_same _ _ _ c.requires.2 _ _ c.front.ensures _ c.is_at.ensures in
    unit_verdict _ _ _ (ap broken_number c.in_default.is) (sym u ∙ c.if-not-is_at.true)

pub returns-then-not-agrees : goal.returns-then-not-agrees
returns-then-not-agrees c =
    let u = unit_same _ _ _ c.requires.2 _ _ c.front.ensures _ c.is_at.ensures in
    row_verdict _ _ _ (ap broken_number c.in_default.is) (sym u ∙ c.if-not-is_at.false) (sym c.agrees.ensures ∙ c.if-not-agrees.true)

pub returns : goal.returns
returns c =
    let u = unit_same _ _ _ c.requires.2 _ _ c.front.ensures _ c.is_at.ensures in
    well_verdict _ _ _ (ap broken_number c.in_default.is) (sym u ∙ c.if-not-is_at.false) (sym c.agrees.ensures ∙ c.if-not-agrees.false)
