use Rattle.report.proofs.Hearing.{told_put}
use Rattle.report.proofs.print.Goals as goal

pub returns : goal.returns
returns c =
    told_put c.args.plan.now c.args.input.now c.args.out.now c.hear.result _ _ c.hear.ensures c.told.ensures c.put_answer.ensures
