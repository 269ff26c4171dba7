use Rattle.layout_label.proofs.Arms.{found}
use Rattle.layout.proofs.Arms.{of_layout}
use Rattle.layout.specs.Layouts.{label_at}
use Rattle.layout_label.proofs.of_field.Goals as goal

pub returns-in-Market : goal.returns-in-Market
returns-in-Market c = found (of_layout (λ l. label_at l c.args.k) c.in-Market.is) c.market_label.ensures

pub returns-in-Mfrr : goal.returns-in-Mfrr
returns-in-Mfrr c = found (of_layout (λ l. label_at l c.args.k) c.in-Mfrr.is) c.mfrr_label.ensures

pub returns-in-Revocation : goal.returns-in-Revocation
returns-in-Revocation c = found (of_layout (λ l. label_at l c.args.k) c.in-Revocation.is) c.rc_label.ensures

pub returns-in-Generic : goal.returns-in-Generic
returns-in-Generic c = found (of_layout (λ l. label_at l c.args.k) c.in-Generic.is) c.mg_label.ensures

pub returns-in-Exclusion : goal.returns-in-Exclusion
returns-in-Exclusion c = found (of_layout (λ l. label_at l c.args.k) c.in-Exclusion.is) c.eb_label.ensures

pub returns-in-Limitation : goal.returns-in-Limitation
returns-in-Limitation c = found (of_layout (λ l. label_at l c.args.k) c.in-Limitation.is) c.lb_label.ensures

pub returns-in-Secondary : goal.returns-in-Secondary
returns-in-Secondary c = found (of_layout (λ l. label_at l c.args.k) c.in-Secondary.is) c.sr_label.ensures

pub returns-in-VoltVar : goal.returns-in-VoltVar
returns-in-VoltVar c = found (of_layout (λ l. label_at l c.args.k) c.in-VoltVar.is) c.vq_label.ensures

pub returns-in-Rejection : goal.returns-in-Rejection
returns-in-Rejection c = found (of_layout (λ l. label_at l c.args.k) c.in-Rejection.is) c.ri_label.ensures

pub returns-in-Reserve : goal.returns-in-Reserve
returns-in-Reserve c = found (of_layout (λ l. label_at l c.args.k) c.in-Reserve.is) c.qr_label.ensures
