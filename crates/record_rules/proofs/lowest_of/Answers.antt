use Rattle.record_rules.proofs.Steps.{by_market, in_ramps, in_exclusion, in_limitation, in_secondary, by_volt_var, in_reserve, in_others}
use Rattle.record_rules.proofs.lowest_of.Goals as goal

pub returns-in-Market : goal.returns-in-Market
returns-in-Market c = by_market _ _ _ _ c.in-Market.is c.lowest_of_market.ensures

pub returns-in-Mfrr : goal.returns-in-Mfrr
returns-in-Mfrr c = in_ramps _ _ _ _ c.in-Mfrr.is c.of_ramps.ensures

pub returns-in-Exclusion : goal.returns-in-Exclusion
returns-in-Exclusion c = in_exclusion _ _ _ _ c.in-Exclusion.is c.of_exclusion.ensures

pub returns-in-Limitation : goal.returns-in-Limitation
returns-in-Limitation c =
    in_limitation _ _ _ _ c.in-Limitation.is c.of_limitation.ensures

pub returns-in-Secondary : goal.returns-in-Secondary
returns-in-Secondary c = in_secondary _ _ _ _ c.in-Secondary.is c.of_secondary.ensures

pub returns-in-VoltVar : goal.returns-in-VoltVar
returns-in-VoltVar c = by_volt_var _ _ _ _ c.in-VoltVar.is c.lowest_of_volt_var.ensures

pub returns-in-Reserve : goal.returns-in-Reserve
returns-in-Reserve c = in_reserve _ _ _ _ c.in-Reserve.is c.of_reserve.ensures

pub returns-in_default : goal.returns-in_default
returns-in_default c = in_others _ _ _ _ c.in_default.in_default-own.keys8 c.of_order.ensures
