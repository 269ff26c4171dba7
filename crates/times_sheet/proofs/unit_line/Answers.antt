use Rattle.times_sheet.proofs.Sheets.{no_unit_line, unit_line_lem}
use Rattle.times_sheet.proofs.unit_line.Goals as goal

pub returns-in_default : goal.returns-in_default
returns-in_default c = no_unit_line _ _ _ c.line_of.ensures c.in_default.is

pub returns : goal.returns
returns c =
    unit_line_lem _ _ _ c.line_of.ensures _ _ _ c.in-Some.is c.value.ensures c.same.ensures
