use Rattle.text_keyline.proofs.Lines.{unit_key, unit_open, unit_inside, unit_not, unit_is}
use Rattle.text.proofs.Cuts.{starts_length}
use Rattle.text.specs.Bytes.{bytes}
use mathlib.Core.Path.{sym, ◌∙◌}
use Rattle.text_keyline.proofs.unit_line.Goals as goal

pub returns-then-not-starts : goal.returns-then-not-starts
returns-then-not-starts c = unit_key _ _ c.starts.ensures c.if-not-starts.true

pub slice_bounds-run-count : goal.slice_bounds-run-count
slice_bounds-run-count c = starts_length (bytes "unit=") _ (sym c.starts.ensures ∙ c.if-not-starts.false)

pub slice_bounds-run-start : goal.slice_bounds-run-start
slice_bounds-run-start c = starts_length (bytes "unit=") _ (sym c.starts.ensures ∙ c.if-not-starts.false)

pub returns-then-e-s : goal.returns-then-e-s
returns-then-e-s c =
    unit_open _ _ c.starts.ensures c.if-not-starts.false _ c.run-size.ensures c.if-e-s.true

pub bounds-s-e : goal.bounds-s-e
bounds-s-e c =
    unit_inside _ _ c.starts.ensures c.if-not-starts.false _ c.run-size.ensures c.if-e-s.false

pub returns-then-size-s : goal.returns-then-size-s
returns-then-size-s c =
    unit_not _ _ c.starts.ensures c.if-not-starts.false _ c.run-size.ensures c.if-e-s.false
    c.if-size-s.true

pub returns : goal.returns
returns c =
    unit_is _ _ c.starts.ensures c.if-not-starts.false _ c.run-size.ensures c.if-e-s.false
    c.if-size-s.false
