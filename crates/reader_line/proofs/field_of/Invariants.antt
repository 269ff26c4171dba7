use Rattle.layout.specs.Layouts.{labels_of}
use Rattle.text_lines.proofs.Standing.{later}
use Rattle.text_lines.specs.Entries.{place_of}
use lib.ListN.{drop}
use mathlib.Core.Path.{◌≡◌}
use Rattle.reader_line.proofs.field_of.Given as goal

-- The place among all labels is the place among those that are left, and those passed.
abbrev pub invariant-loop-k : goal.invariant-loop-k
invariant-loop-k l = place_of (labels_of l.l) l.s ≡ later l.k (place_of (drop l.k (labels_of l.l)) l.s)
