use Rattle.transfer_unit.proofs.Ways.{last_length, last_segment, last_section, last_other}
use Rattle.transfer_unit.proofs.last.Goals as goal

-- Another length, the two qualifiers, or another. (q is the place where the qualifier was read.)
pub returns-then-s-ne14 : goal.returns-then-s-ne14
returns-then-s-ne14 c = last_length _ c.if-s-ne14.true

pub returns-in-3 : goal.returns-in-3
returns-in-3 c =
    last_segment _ c.if-s-ne14.false _ c.octet-qualifier.ensures c.in-3.is _ _ c.octet.ensures c.octet-in-3.ensures

pub returns-in-1 : goal.returns-in-1
returns-in-1 c =
    last_section _ c.if-s-ne14.false _ c.octet-qualifier.ensures c.in-1.is _ _ c.octet-in-1.ensures c.octet-in-1-2.ensures

pub returns-in_default : goal.returns-in_default
returns-in_default c = last_other _ c.if-s-ne14.false _ c.octet-qualifier.ensures c.in_default.in_default-own.rest
