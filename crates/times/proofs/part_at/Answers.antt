use Rattle.std.specs.Prelude.{Ok}
use Rattle.times.proofs.Told.{file_within, sheet_within, file_part, sheet_part_of}
use mathlib.Core.Path.{ap, ◌∙◌}
use Rattle.times.proofs.part_at.Goals as goal

pub slice_bounds-result-count-in-InFile : goal.slice_bounds-result-count-in-InFile
slice_bounds-result-count-in-InFile c = let w = c.in-InFile in (file_within _ _ _ _ (c.in-Ok.is ∙ ap Ok w.is) c.requires).0

pub slice_bounds-result-start-in-InFile : goal.slice_bounds-result-start-in-InFile
slice_bounds-result-start-in-InFile c = let w = c.in-InFile in (file_within _ _ _ _ (c.in-Ok.is ∙ ap Ok w.is) c.requires).0

pub slice_bounds-result-end-in-InFile : goal.slice_bounds-result-end-in-InFile
slice_bounds-result-end-in-InFile c = let w = c.in-InFile in (file_within _ _ _ _ (c.in-Ok.is ∙ ap Ok w.is) c.requires).1

pub slice_bounds-result-count-in-InSheet : goal.slice_bounds-result-count-in-InSheet
slice_bounds-result-count-in-InSheet c = let w = c.in-InSheet in (sheet_within _ _ _ _ (c.in-Ok.is ∙ ap Ok w.is) c.requires).0

pub slice_bounds-result-start-in-InSheet : goal.slice_bounds-result-start-in-InSheet
slice_bounds-result-start-in-InSheet c = let w = c.in-InSheet in (sheet_within _ _ _ _ (c.in-Ok.is ∙ ap Ok w.is) c.requires).0

pub slice_bounds-result-end-in-InSheet : goal.slice_bounds-result-end-in-InSheet
slice_bounds-result-end-in-InSheet c = let w = c.in-InSheet in (sheet_within _ _ _ _ (c.in-Ok.is ∙ ap Ok w.is) c.requires).1

pub returns-in-InFile : goal.returns-in-InFile
returns-in-InFile c = let w = c.in-InFile in file_part _ _ _ _ (c.in-Ok.is ∙ ap Ok w.is)

pub returns-in-InSheet : goal.returns-in-InSheet
returns-in-InSheet c = let w = c.in-InSheet in sheet_part_of _ _ _ _ (c.in-Ok.is ∙ ap Ok w.is)
