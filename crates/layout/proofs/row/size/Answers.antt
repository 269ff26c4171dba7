use Rattle.layout.proofs.Arms.{of_layout}
use Rattle.layout.specs.Rows.{row_fields}
use lib.ListN.{length}
use Rattle.layout.proofs.row.size.Goals as goal

pub returns-in-Market : goal.returns-in-Market
unfolding row_fields
returns-in-Market c = of_layout (λ l. length (row_fields l)) c.in-Market.is

pub returns-in-Mfrr : goal.returns-in-Mfrr
unfolding row_fields
returns-in-Mfrr c = of_layout (λ l. length (row_fields l)) c.in-Mfrr.is

pub returns-in-Revocation : goal.returns-in-Revocation
unfolding row_fields
returns-in-Revocation c = of_layout (λ l. length (row_fields l)) c.in-Revocation.is

pub returns-in-Generic : goal.returns-in-Generic
unfolding row_fields
returns-in-Generic c = of_layout (λ l. length (row_fields l)) c.in-Generic.is

pub returns-in-Exclusion : goal.returns-in-Exclusion
unfolding row_fields
returns-in-Exclusion c = of_layout (λ l. length (row_fields l)) c.in-Exclusion.is

pub returns-in-Limitation : goal.returns-in-Limitation
unfolding row_fields
returns-in-Limitation c = of_layout (λ l. length (row_fields l)) c.in-Limitation.is

pub returns-in-Secondary : goal.returns-in-Secondary
unfolding row_fields
returns-in-Secondary c = of_layout (λ l. length (row_fields l)) c.in-Secondary.is

pub returns-in-VoltVar : goal.returns-in-VoltVar
unfolding row_fields
returns-in-VoltVar c = of_layout (λ l. length (row_fields l)) c.in-VoltVar.is

pub returns-in-Rejection : goal.returns-in-Rejection
unfolding row_fields
returns-in-Rejection c = of_layout (λ l. length (row_fields l)) c.in-Rejection.is

pub returns-in-Reserve : goal.returns-in-Reserve
unfolding row_fields
returns-in-Reserve c = of_layout (λ l. length (row_fields l)) c.in-Reserve.is
