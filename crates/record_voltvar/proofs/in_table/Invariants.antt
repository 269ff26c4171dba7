use Rattle.record_voltvar.specs.Forms.{line_by}
use Rattle.record_voltvar.specs.Table.{table, meets}
use Rattle.text.specs.Bytes.{any}
use lib.ListN.{drop}
use mathlib.Core.Path.{◌≡◌}
use Rattle.record_voltvar.proofs.in_table.Given as goal

-- Whether a row fits is whether one of those that are left does.
abbrev pub invariant-loop-k : goal.invariant-loop-k
invariant-loop-k l = any (meets (line_by l.l)) table ≡ any (meets (line_by l.l)) (drop l.k table)
