use Rattle.saved_lines.proofs.OnePut.{under_put, over_put}
use Rattle.saved_lines.proofs.line.put_amount.Goals as goal

pub returns-then-v-lt-ZERO_AMOUNT : goal.returns-then-v-lt-ZERO_AMOUNT
returns-then-v-lt-ZERO_AMOUNT c =
    let a = c.args in
    under_put a.out.now a.at a.v _ _ _ c.put_byte-a.new.out c.if-v-lt-ZERO_AMOUNT.true c.put_byte-a.ensures c.put_whole.ensures

pub returns : goal.returns
returns c =
    let a = c.args in
    over_put a.out.now a.at a.v _ _ c.if-v-lt-ZERO_AMOUNT.false c.put_whole-2.ensures
