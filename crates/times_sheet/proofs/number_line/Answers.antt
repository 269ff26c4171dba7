use Rattle.times_sheet.proofs.Sheets.{no_number_line, number_line_lem}
use Rattle.times_sheet.proofs.number_line.Goals as goal

pub returns-in_default : goal.returns-in_default
returns-in_default c = no_number_line _ _ _ c.line_of.ensures c.in_default.is

pub returns : goal.returns
returns c =
    number_line_lem _ _ _ c.line_of.ensures _ _ _ c.in-Some.is c.value.ensures c.is_number.ensures
