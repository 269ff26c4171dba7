use Rattle.reader_accent.proofs.Ends.{not_open, open_by}
use Rattle.text.proofs.Cuts.{front_count, upto_length}
use Rattle.text.specs.Bytes.{is}
use native.Mathlib.Omega.{arith}
use Rattle.reader_accent.proofs.opens.Goals as goal

pub returns-then-e-s : goal.returns-then-e-s
returns-then-e-s c = not_open c.args.t _ _ c.first-e.ensures c.if-e-s.true

pub slice_bounds-trim-end : goal.slice_bounds-trim-end
slice_bounds-trim-end c =
    front_count _ _ (omega (arith, upto_length (is 61) c.args.s.now, c.first-e.ensures))

pub returns : goal.returns
returns c =
    open_by c.args.t _ _ c.first-e.ensures c.if-e-s.false _ c.trim.ensures _ c.field_of.ensures
