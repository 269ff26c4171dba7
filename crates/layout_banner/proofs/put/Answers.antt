use Rattle.layout_banner.proofs.Arms.{banner_room, banner_put}
use Rattle.layout.specs.Banners.{banner_of}
use native.Mathlib.Omega.{arith}
use Rattle.layout_banner.proofs.put.Goals as goal

pub shown-requires : goal.shown-requires
unfolding banner_of
shown-requires c = (omega arith, banner_room _ c.in-Market.is c.requires)

pub shown-requires-in-Mfrr : goal.shown-requires-in-Mfrr
unfolding banner_of
shown-requires-in-Mfrr c = (omega arith, banner_room _ c.in-Mfrr.is c.requires)

pub shown-requires-in-Revocation : goal.shown-requires-in-Revocation
unfolding banner_of
shown-requires-in-Revocation c = (omega arith, banner_room _ c.in-Revocation.is c.requires)

pub shown-requires-in-Generic : goal.shown-requires-in-Generic
unfolding banner_of
shown-requires-in-Generic c = (omega arith, banner_room _ c.in-Generic.is c.requires)

pub shown-requires-in-Exclusion : goal.shown-requires-in-Exclusion
unfolding banner_of
shown-requires-in-Exclusion c = (omega arith, banner_room _ c.in-Exclusion.is c.requires)

pub shown-requires-in-Limitation : goal.shown-requires-in-Limitation
unfolding banner_of
shown-requires-in-Limitation c = (omega arith, banner_room _ c.in-Limitation.is c.requires)

pub shown-requires-in-Secondary : goal.shown-requires-in-Secondary
unfolding banner_of
shown-requires-in-Secondary c = (omega arith, banner_room _ c.in-Secondary.is c.requires)

pub shown-requires-in-VoltVar : goal.shown-requires-in-VoltVar
unfolding banner_of
shown-requires-in-VoltVar c = (omega arith, banner_room _ c.in-VoltVar.is c.requires)

pub shown-requires-in-Rejection : goal.shown-requires-in-Rejection
unfolding banner_of
shown-requires-in-Rejection c = (omega arith, banner_room _ c.in-Rejection.is c.requires)

pub shown-requires-in-Reserve : goal.shown-requires-in-Reserve
unfolding banner_of
shown-requires-in-Reserve c = (omega arith, banner_room _ c.in-Reserve.is c.requires)

pub returns-in-Market : goal.returns-in-Market
unfolding banner_of
returns-in-Market c = banner_put _ _ _ _ c.in-Market.is c.shown.ensures

pub returns-in-Mfrr : goal.returns-in-Mfrr
unfolding banner_of
returns-in-Mfrr c = banner_put _ _ _ _ c.in-Mfrr.is c.shown-in-Mfrr.ensures

pub returns-in-Revocation : goal.returns-in-Revocation
unfolding banner_of
returns-in-Revocation c = banner_put _ _ _ _ c.in-Revocation.is c.shown-in-Revocation.ensures

pub returns-in-Generic : goal.returns-in-Generic
unfolding banner_of
returns-in-Generic c = banner_put _ _ _ _ c.in-Generic.is c.shown-in-Generic.ensures

pub returns-in-Exclusion : goal.returns-in-Exclusion
unfolding banner_of
returns-in-Exclusion c = banner_put _ _ _ _ c.in-Exclusion.is c.shown-in-Exclusion.ensures

pub returns-in-Limitation : goal.returns-in-Limitation
unfolding banner_of
returns-in-Limitation c = banner_put _ _ _ _ c.in-Limitation.is c.shown-in-Limitation.ensures

pub returns-in-Secondary : goal.returns-in-Secondary
unfolding banner_of
returns-in-Secondary c = banner_put _ _ _ _ c.in-Secondary.is c.shown-in-Secondary.ensures

pub returns-in-VoltVar : goal.returns-in-VoltVar
unfolding banner_of
returns-in-VoltVar c = banner_put _ _ _ _ c.in-VoltVar.is c.shown-in-VoltVar.ensures

pub returns-in-Rejection : goal.returns-in-Rejection
unfolding banner_of
returns-in-Rejection c = banner_put _ _ _ _ c.in-Rejection.is c.shown-in-Rejection.ensures

pub returns-in-Reserve : goal.returns-in-Reserve
unfolding banner_of
returns-in-Reserve c = banner_put _ _ _ _ c.in-Reserve.is c.shown-in-Reserve.ensures
