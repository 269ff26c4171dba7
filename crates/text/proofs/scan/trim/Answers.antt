use Rattle.text.proofs.Trims.{end_count, trim_law}
use mathlib.Core.Path.{refl}
use Rattle.text.proofs.scan.trim.Goals as goal

pub slice_bounds-result-end : goal.slice_bounds-result-end
slice_bounds-result-end c = end_count _ _ c.filled-e.ensures

pub returns : goal.returns
returns c = trim_law _ _ _ _ refl c.lead-a.ensures c.filled-e.ensures
