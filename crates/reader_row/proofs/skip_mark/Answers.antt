use Prim.Native.Nat.{◌<◌}
use Rattle.reader_row.proofs.Pieces.{mark_end, mark_other, mark_on}
use native.Mathlib.Omega.{arith}
use Rattle.reader_row.proofs.skip_mark.Goals as goal

-- The `;`, and then the piece.
pub returns-then-end-at : goal.returns-then-end-at
returns-then-end-at c = mark_end _ _ _ _ c.if-end-at.true

pub returns-then-file-at-ne59 : goal.returns-then-file-at-ne59
returns-then-file-at-ne59 c =
    let lt : c.args.at < c.args.end = omega arith in
    mark_other _ _ _ _ lt c.requires.1 c.if-file-at-ne59.true

pub returns : goal.returns
returns c =
    let lt : c.args.at < c.args.end = omega arith in
    mark_on _ _ _ _ lt c.requires.1 c.if-file-at-ne59.false _ c.skip_piece.ensures
