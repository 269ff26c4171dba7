use Rattle.transfer_unit.proofs.Ways.{not_ours, is_file, is_section, is_last, is_segment, is_none}
use Rattle.transfer_unit.proofs.told_by.Goals as goal

pub returns-then-not-is_ours : goal.returns-then-not-is_ours
returns-then-not-is_ours c = not_ours _ _ c.is_ours.ensures c.if-not-is_ours.true

pub returns-in-120 : goal.returns-in-120
returns-in-120 c =
    is_file _ _ c.is_ours.ensures c.if-not-is_ours.false
    _ c.octet-kind.ensures c.in-120.is c.file_ready.ensures

pub returns-in-121 : goal.returns-in-121
returns-in-121 c =
    is_section _ _ c.is_ours.ensures c.if-not-is_ours.false
    _ c.octet-kind.ensures c.in-121.is c.section_ready.ensures

pub returns-in-123 : goal.returns-in-123
returns-in-123 c =
    is_last _ _ c.is_ours.ensures c.if-not-is_ours.false
    _ c.octet-kind.ensures c.in-123.is c.last.ensures

pub returns-in-125 : goal.returns-in-125
returns-in-125 c =
    is_segment _ _ c.is_ours.ensures c.if-not-is_ours.false
    _ c.octet-kind.ensures c.in-125.is c.segment.ensures

pub returns-in_default : goal.returns-in_default
returns-in_default c =
    is_none _ _ c.is_ours.ensures c.if-not-is_ours.false
    _ c.octet-kind.ensures c.in_default.in_default-own.rest
