-- The program. Document 01, "The program": from standard input the lines `ca=` and `ioa=`, written as in a plan, and then the file.
use Rattle.std.specs.Prelude.{ℕ, List, None, Option, Some}
use Rattle.plan_row.specs.Rows.{ca_at, ioa_at}
use Rattle.text_keyline.specs.Keylines.{below}
use Rattle.reader.specs.Reader.{read_of}
use Rattle.reader.specs.Refusals.{Answer}
use Rattle.report.specs.Report.{report_of}

-- The address that no plan has stands for lines that are not written as in a plan: so 13 comes first, and else it is refused 1.
abbrev pub at_address : Option ℕ → Option ℕ → List ℕ → List ℕ → Answer
at_address (Some c) (Some i) plan file = read_of c i plan file
at_address (Some c) None plan file = read_of 0 0 plan file
at_address None (Some i) plan file = read_of 0 0 plan file
at_address None None plan file = read_of 0 0 plan file

unfoldable pub heard_of : List ℕ → List ℕ → Answer
heard_of plan input = at_address (ca_at input) (ioa_at (below input)) plan (below (below input))

-- THE DEFINITION: what the program prints
unfoldable pub printed_of : List ℕ → List ℕ → List ℕ
printed_of plan input = report_of (heard_of plan input)
