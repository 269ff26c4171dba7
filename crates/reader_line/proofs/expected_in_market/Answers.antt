use Rattle.reader_line.proofs.Turns.{market_two, market_own}
use Rattle.reader_line.proofs.expected_in_market.Goals as goal

-- The first two labels are mFRR's too, the others are not.
pub returns-then-k-le2 : goal.returns-then-k-le2
returns-then-k-le2 c = market_two _ c.if-k-le2.true

pub returns : goal.returns
returns c = market_own _ c.if-k-le2.false
