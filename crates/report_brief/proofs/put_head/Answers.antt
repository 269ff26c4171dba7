use Rattle.report_brief.proofs.Puts.{head_put}
use Rattle.text.proofs.Numerals.{whole_length}
use borrow.Author.Rules.{rules}
use Rattle.report_brief.proofs.put_head.Goals as goal

pub put_byte-requires : goal.put_byte-requires
put_byte-requires c =
    let k = whole_length 9 c.args.n in
    search rules

pub returns : goal.returns
returns c =
    head_put
    c.args.out.now
    _
    _
    c.put_text-a.new.out
    _
    c.put_text-b.new.out
    _
    c.put_text-c.new.out
    _
    c.put_whole-d.new.out
    _
    _
    c.args.t
    c.args.n
    c.code-code.result
    c.code-code.ensures
    c.put_text-a.ensures
    c.put_text-b.ensures
    c.put_text-c.ensures
    c.put_whole-d.ensures
    c.put_byte.ensures
