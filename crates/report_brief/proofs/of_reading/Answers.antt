use Rattle.report_brief.proofs.Fields.{told_is}
use Rattle.report_brief.proofs.of_reading.Goals as goal

pub returns : goal.returns
returns c = told_is _ _ _ _ _ _ _ _ c.number_in.ensures c.size_in.ensures
