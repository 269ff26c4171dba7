use Rattle.times_sheet.proofs.Sheets.{number_yes, number_no}
use Rattle.times_sheet.proofs.is_number.Goals as goal

pub returns-in-Some : goal.returns-in-Some
returns-in-Some c = number_yes _ _ c.read.ensures _ c.in-Some.is

pub returns-in-None : goal.returns-in-None
returns-in-None c = number_no _ _ c.read.ensures c.in-None.is
