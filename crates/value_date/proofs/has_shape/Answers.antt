use Rattle.std.proofs.Common.{rules, tests, ◌∙◌}
use Rattle.std.proofs.lemmas.Iterator.{YieldsList-from_zip, YieldsList-from_slice}
use Rattle.std.proofs.lemmas.Iterator.Search.{all_from_yields_List}
use Rattle.value_date.proofs.Laws.{shape_differs, shape_zip}
use Rattle.value_date.specs.Date.{fits_byte}
use borrow.Author.Tests.{ne_eqb}
use Rattle.value_date.proofs.has_shape.Goals as goal

-- The bytes side by side, as far as the chain took them.
pub returns-then-shape-s : goal.returns-then-shape-s
returns-then-shape-s c =
    let a = c.args in
    let z = c.zip.result in
    all_from_yields_List (λ q. fits_byte q.0 q.1) c.all.new.self _ _ c.all.ensures.ran
    (YieldsList-from_zip (YieldsList-from_slice {s = z.a} a.shape.now (cc)) (YieldsList-from_slice {s = z.b} a.s.now (cc)))
    (λ x b q k. search (rules, tests))
    ∙ shape_zip a.shape.now a.s.now c.if-shape-s.true

pub returns-else-shape-s : goal.returns-else-shape-s
returns-else-shape-s c = ne_eqb _ _ c.if-shape-s.false ∙ shape_differs _ _ c.if-shape-s.false
