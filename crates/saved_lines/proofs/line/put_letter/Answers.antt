use Rattle.saved_lines.proofs.OnePut.{market_put, mfrr_put}
use Rattle.saved_lines.proofs.line.put_letter.Goals as goal

pub returns-then-v-eq0 : goal.returns-then-v-eq0
returns-then-v-eq0 c =
    let a = c.args in
    market_put a.out.now a.at a.v _ _ c.if-v-eq0.true c.put_byte.ensures

pub returns : goal.returns
returns c =
    let a = c.args in
    mfrr_put a.out.now a.at a.v _ _ c.if-v-eq0.false c.put_byte-2.ensures
