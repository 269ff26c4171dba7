use Rattle.reader.proofs.Locating.{not_sought, not_walked, walked_on}
use Rattle.refusal.proofs.Some.{passed}
use Rattle.reader.proofs.locate.Goals as goal

pub returns-in_err-sought : goal.returns-in_err-sought
returns-in_err-sought c = not_sought _ _ _ _ _ c.seek.ensures _ c.in_err-sought.was (passed _ _ c.from_residual.ensures)

pub returns-in_err-x : goal.returns-in_err-x
returns-in_err-x c =
    not_walked _ _ _ _ _ c.seek.ensures _ c.in_ok-sought.was _ c.walk_file.ensures _ c.in_err-x.was
    (passed _ _ c.from_residual-in_err-x.ensures)

pub returns : goal.returns
returns c = walked_on _ _ _ _ _ c.seek.ensures _ c.in_ok-sought.was _ c.walk_file.ensures _ c.in_ok-x.was
