use Rattle.value_fits.specs.Fits.{is_no_triple}
use Rattle.text.proofs.Zeros.{zero_bits}
use borrow.Author.Rules.{rules}
use Rattle.value_fits.proofs.triples.is_no_triple.Goals as goal

-- Test by test as the definition says, of bits in place of numbers.
pub returns : goal.returns
unfolding is_no_triple
returns c =
    let x = c.args.x in
    rw (zero_bits x.low (search rules), zero_bits x.high (search rules), zero_bits x.gradient (search rules))
