use Rattle.layout.proofs.Arms.{of_layout}
use Rattle.layout.specs.Layouts.{kind_at}
use mathlib.Core.Path.{◌∙◌}
use Rattle.layout_kind.proofs.of_field.Goals as goal

pub returns-in-Market : goal.returns-in-Market
returns-in-Market c = c.market_kind.ensures ∙ of_layout (λ l. kind_at l c.args.k) c.in-Market.is

pub returns-in-Mfrr : goal.returns-in-Mfrr
returns-in-Mfrr c = c.mfrr_kind.ensures ∙ of_layout (λ l. kind_at l c.args.k) c.in-Mfrr.is

pub returns-in-Revocation : goal.returns-in-Revocation
returns-in-Revocation c = c.rc_kind.ensures ∙ of_layout (λ l. kind_at l c.args.k) c.in-Revocation.is

pub returns-in-Generic : goal.returns-in-Generic
returns-in-Generic c = c.mg_kind.ensures ∙ of_layout (λ l. kind_at l c.args.k) c.in-Generic.is

pub returns-in-Exclusion : goal.returns-in-Exclusion
returns-in-Exclusion c = c.eb_kind.ensures ∙ of_layout (λ l. kind_at l c.args.k) c.in-Exclusion.is

pub returns-in-Limitation : goal.returns-in-Limitation
returns-in-Limitation c = c.lb_kind.ensures ∙ of_layout (λ l. kind_at l c.args.k) c.in-Limitation.is

pub returns-in-Secondary : goal.returns-in-Secondary
returns-in-Secondary c = c.sr_kind.ensures ∙ of_layout (λ l. kind_at l c.args.k) c.in-Secondary.is

pub returns-in-VoltVar : goal.returns-in-VoltVar
returns-in-VoltVar c = c.vq_kind.ensures ∙ of_layout (λ l. kind_at l c.args.k) c.in-VoltVar.is

pub returns-in-Rejection : goal.returns-in-Rejection
returns-in-Rejection c = c.ri_kind.ensures ∙ of_layout (λ l. kind_at l c.args.k) c.in-Rejection.is

pub returns-in-Reserve : goal.returns-in-Reserve
returns-in-Reserve c = c.qr_kind.ensures ∙ of_layout (λ l. kind_at l c.args.k) c.in-Reserve.is
