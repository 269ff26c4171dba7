use Rattle.layout.proofs.Arms.{of_layout}
use Rattle.layout.specs.Fields.{command, technical, market, mfrr, rc, mg, eb, lb, sr, vq, ri, qr}
use Rattle.layout.specs.Layouts.{fields_of, size_of}
use Rattle.layout.proofs.size.Goals as goal

pub returns-in-Market : goal.returns-in-Market
unfolding command fields_of market technical
returns-in-Market c = of_layout size_of c.in-Market.is

pub returns-in-Mfrr : goal.returns-in-Mfrr
unfolding fields_of mfrr
returns-in-Mfrr c = of_layout size_of c.in-Mfrr.is

pub returns-in-Revocation : goal.returns-in-Revocation
unfolding fields_of rc
returns-in-Revocation c = of_layout size_of c.in-Revocation.is

pub returns-in-Generic : goal.returns-in-Generic
unfolding fields_of mg
returns-in-Generic c = of_layout size_of c.in-Generic.is

pub returns-in-Exclusion : goal.returns-in-Exclusion
unfolding eb fields_of
returns-in-Exclusion c = of_layout size_of c.in-Exclusion.is

pub returns-in-Limitation : goal.returns-in-Limitation
unfolding fields_of lb
returns-in-Limitation c = of_layout size_of c.in-Limitation.is

pub returns-in-Secondary : goal.returns-in-Secondary
unfolding fields_of sr
returns-in-Secondary c = of_layout size_of c.in-Secondary.is

pub returns-in-VoltVar : goal.returns-in-VoltVar
unfolding fields_of vq
returns-in-VoltVar c = of_layout size_of c.in-VoltVar.is

pub returns-in-Rejection : goal.returns-in-Rejection
unfolding fields_of ri
returns-in-Rejection c = of_layout size_of c.in-Rejection.is

pub returns-in-Reserve : goal.returns-in-Reserve
unfolding fields_of qr
returns-in-Reserve c = of_layout size_of c.in-Reserve.is
