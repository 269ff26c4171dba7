use Rattle.text.specs.Bytes.{tidy}
use Rattle.value_fits.proofs.texts.is_tidy.Goals as goal

pub returns : goal.returns
unfolding tidy
returns c = rw (c.all_plain.ensures, c.same.ensures, c.trim.ensures)
