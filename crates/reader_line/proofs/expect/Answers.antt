use Rattle.reader_line.proofs.Turns.{mfrr_own, of_market, only_layout}
use Rattle.reader_line.proofs.expect.Goals as goal

pub returns-then-turn-gt26 : goal.returns-then-turn-gt26
returns-then-turn-gt26 c = mfrr_own _ _ c.in-Cb.is c.if-turn-gt26.true

pub returns-else-turn-gt26 : goal.returns-else-turn-gt26
returns-else-turn-gt26 c = of_market _ _ c.in-Cb.is c.expected_in_market.ensures

pub returns-in_default : goal.returns-in_default
returns-in_default c = only_layout _ _ _ c.in_default.not-Cb c.of_type.ensures
