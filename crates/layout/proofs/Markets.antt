-- Which layout a test tells. Assumes nothing.
use Rattle.layout.specs.Layouts.{is_market}
use Rattle.layout.specs.declared.Layout.{Layout}
use Rattle.layout.specs.declared.Layout.TheVariants.{Market, Mfrr, Revocation, Generic, Exclusion, Limitation, Secondary, VoltVar, Rejection, Reserve}
use mathlib.Core.Bool.{true, false≢true}
use mathlib.Core.Path.{◌≡◌, refl}

pub market_is : (l : Layout) → is_market l ≡ true → l ≡ Market
market_is Market e = refl
market_is Mfrr e = absurd (false≢true e)
market_is Revocation e = absurd (false≢true e)
market_is Generic e = absurd (false≢true e)
market_is Exclusion e = absurd (false≢true e)
market_is Limitation e = absurd (false≢true e)
market_is Secondary e = absurd (false≢true e)
market_is VoltVar e = absurd (false≢true e)
market_is Rejection e = absurd (false≢true e)
market_is Reserve e = absurd (false≢true e)
