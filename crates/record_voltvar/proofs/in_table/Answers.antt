use Prim.Native.Nat.{◌<◌}
use Rattle.record_voltvar.proofs.Steps.{any_here, any_on, any_end}
use Rattle.record_voltvar.specs.Forms.{line_by}
use Rattle.record_voltvar.specs.Table.{line, table, meets, in_table}
use lib.ListN.{length, get_or}
use mathlib.Core.Bool.{true, false}
use mathlib.Core.Path.{◌≡◌, refl, sym, ap, ◌∙◌}
use native.Mathlib.Omega.{arith}
use Rattle.record_voltvar.proofs.in_table.Goals as goal

pub loop-k-init : goal.loop-k-init
loop-k-init c = refl

pub returns-then-fits : goal.returns-then-fits
unfolding in_table table
returns-then-fits c =
    let h : c.loop-k.k < length table = omega arith in
    let e : meets (line_by c.line_of-l.result) (get_or table c.loop-k.k (line 0 0 0 0 0 0 0)) ≡ true =
    ap (meets (line_by c.line_of-l.result)) (sym c.table_row.ensures) ∙ sym c.fits.ensures ∙ c.if-fits.true in
    rw (sym c.line_of-l.ensures) (sym (c.loop-k.invariant ∙ any_here (meets (line_by c.line_of-l.result)) (line 0 0 0 0 0 0 0) table c.loop-k.k h e))

pub loop-k-preserved : goal.loop-k-preserved
unfolding table
loop-k-preserved c =
    let h : c.loop-k.k < length table = omega arith in
    let e : meets (line_by c.line_of-l.result) (get_or table c.loop-k.k (line 0 0 0 0 0 0 0)) ≡ false =
    ap (meets (line_by c.line_of-l.result)) (sym c.table_row.ensures) ∙ sym c.fits.ensures ∙ c.if-fits.false in
    c.loop-k.invariant ∙ any_on (meets (line_by c.line_of-l.result)) (line 0 0 0 0 0 0 0) table c.loop-k.k h e

pub returns : goal.returns
unfolding in_table table
returns c =
    rw (sym c.line_of-l.ensures) (sym (c.loop-k.invariant ∙ any_end (meets (line_by c.line_of-l.result)) table c.loop-k.k (omega arith)))
