use Rattle.reader_row.proofs.Fields.{Rest}
use Rattle.reader_row.proofs.skip_fields.Given as goal

-- The first field, and then each with a `;` before it: what is left to compare grows shorter.
abbrev pub invariant-loop-i : goal.invariant-loop-i
invariant-loop-i l = Rest l.l l.file l.at l.end l.spans l.n l.p l.i
