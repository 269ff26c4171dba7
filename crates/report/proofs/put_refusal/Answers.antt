use Rattle.report.proofs.Puts.{refusal_put}
use Rattle.report_brief.proofs.Sizes.{number_length}
use Rattle.text.specs.Bytes.{bytes}
use borrow.Author.Rules.{rules}
use Rattle.report.proofs.put_refusal.Goals as goal

pub put_number-requires : goal.put_number-requires
put_number-requires c =
    let h = number_length (bytes "result=") c.args.number in
    search rules

pub returns : goal.returns
returns c =
    refusal_put c.args.number c.args.detail c.args.out.now _ _ c.put_number-a.new.out _
    _ c.put_number-a.ensures c.put_number.ensures
