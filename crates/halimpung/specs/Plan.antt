-- The plan as the program takes it. Document 01, "The program": an unreadable plan counts as empty.
use Rattle.std.specs.Prelude.{ℕ, Bool, cond, List, []}

abbrev pub as_read : Bool → List ℕ → List ℕ
as_read readable plan = cond readable plan []
