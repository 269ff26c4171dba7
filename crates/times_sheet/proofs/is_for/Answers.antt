use Rattle.times_sheet.proofs.Sheets.{other_unit, no_start_up, no_ramp, good_sheet}
use borrow.Author.Tests.{not-true, not-false}
use Rattle.times_sheet.proofs.is_for.Goals as goal

pub returns-then-not-unit_line : goal.returns-then-not-unit_line
returns-then-not-unit_line c = search (other_unit, not-true)

pub returns-then-not-number_line : goal.returns-then-not-number_line
returns-then-not-number_line c = search (no_start_up, not-true, not-false)

pub returns-then-not-number_line-2 : goal.returns-then-not-number_line-2
returns-then-not-number_line-2 c = search (no_ramp, not-true, not-false)

pub returns : goal.returns
returns c = search (good_sheet, not-false)
