use Rattle.reader_line.proofs.Meanings.{no_first}
use Rattle.layout.specs.Layouts.{labels_of}
use Rattle.layout.specs.declared.Layout.{Layout}
use Rattle.text_lines.specs.Entries.{place_of}
use mathlib.Core.Path.{ap, ◌∙◌}
use Rattle.reader_line.proofs.first_of.Goals as goal

-- A label of mFRR past the two that it shares is none of the market layout.
pub returns-then-second-gt2 : goal.returns-then-second-gt2
returns-then-second-gt2 c = no_first c.args.t c.args.second c.args.s.now c.requires c.if-second-gt2.true

pub returns : goal.returns
returns c =
    let s = c.args.s.now in
    c.field_of.ensures ∙ ap (λ (l : Layout). place_of (labels_of l) s) c.of_type.ensures
