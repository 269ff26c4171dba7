-- A record's own address. Document 01, "Written form": its own address is any to which the plan gives its type and unit.
use Rattle.std.specs.Prelude.{ℕ, List, ◌≡◌}
use Rattle.report_brief.specs.Brief.{unit_of}
use Rattle.layout.specs.Layouts.{type_of}
use Rattle.plan.specs.Plans.{plan_of, sought_of}
use Rattle.plan.specs.Plans.{SoughtSaid}
use Rattle.reader.specs.Reader.{unit_in}
use Rattle.record.specs.declared.Record.{Record}

-- what a plan gives is found, with the record's type and unit
pub record Fitting (r : Record) (s : SoughtSaid) : Type 0 where
  pub found : s.number ≡ 0
  pub type_is : s.message ≡ type_of r.layout
  pub unit_is : unit_in s ≡ unit_of r

abbrev pub OwnAddress : Record → ℕ → ℕ → List ℕ → Type 0
OwnAddress r ca ioa plan = Fitting r (sought_of ca ioa (plan_of plan))
