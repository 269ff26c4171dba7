use Rattle.text.proofs.Trims.{end_taken}
use Rattle.text.specs.Bytes.{is_blank}
use Rattle.text.proofs.scan.filled.Goals as goal

pub returns : goal.returns
returns c = rw c.blanks_at_end.ensures (end_taken is_blank c.args.s.now)
