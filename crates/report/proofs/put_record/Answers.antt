use Rattle.report_brief.proofs.Puts.{same_text}
use Rattle.report_brief.specs.Brief.{brief_of, six_of}
use mathlib.Core.Path.{ap}
use Rattle.report.proofs.put_record.Goals as goal

pub returns : goal.returns
returns c =
    same_text (six_of c.of_record.result) (six_of (brief_of c.args.r)) c.args.out.now _ _ _
    (ap six_of c.of_record.ensures) c.put_lines.ensures
