use Rattle.value_fits.proofs.Gradients.{few_triples, many_triples, these_triples}
use Rattle.value_fits.proofs.triples.are_listed.Goals.{then-n-lt1-via-then-n-lt1, then-n-lt1-via-else-n-lt1+then-n-gt16}
use borrow.Author.Rules.{rules}
use Rattle.value_fits.proofs.triples.are_listed.Goals as goal

-- Too few, too many, or test by test as the definition says.
pub returns-then-n-lt1 : goal.returns-then-n-lt1
returns-then-n-lt1 c =
    elim c.then-n-lt1.branch [
      | then-n-lt1-via-then-n-lt1 w ↦ few_triples _ _ w.if-n-lt1.true
      | then-n-lt1-via-else-n-lt1+then-n-gt16 w ↦ many_triples _ _ w.if-n-gt16.true
    ]

pub returns : goal.returns
returns c =
    let a = c.args in
    rw (c.are_ranged.ensures, c.are_none.ensures)
    (these_triples a.values a.n c.if-n-lt1.false c.if-n-gt16.false (search rules))
