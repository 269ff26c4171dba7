use Rattle.text_keyline.proofs.Putting.{line_put}
use Rattle.text.proofs.Numerals.{whole_length}
use Rattle.text.specs.Digits.{whole_text}
use borrow.Author.Rules.{rules}
use Rattle.text_keyline.proofs.put_number.Goals as goal

pub put_byte-requires : goal.put_byte-requires
put_byte-requires c =
    let h = whole_length 9 c.args.n in
    search rules

pub returns : goal.returns
returns c =
    line_put c.args.key.now (whole_text 9 c.args.n) c.args.out.now _ _ c.put_text-a.new.out _ c.put_whole-b.new.out _ _
    c.put_text-a.ensures c.put_whole-b.ensures c.put_byte.ensures
