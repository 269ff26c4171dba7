use Rattle.transfer.proofs.Turns.{of_another, of_none, goes, goes_still}
use Rattle.transfer.proofs.Turns.{file_ready_any, section_ready_any, last_segment_any, last_section_any}
use mathlib.Core.Path.{refl}
use Rattle.transfer.proofs.Collector.take.Goals as goal

pub returns-then-is_elsewhere : goal.returns-then-is_elsewhere
returns-then-is_elsewhere c =
    let answers = of_another _ _ _ _ c.is_elsewhere.ensures c.if-is_elsewhere.true c.dropped.ensures.0 in
    (answers.0, answers.1, c.dropped.ensures.1)

pub returns-in-FileReady : goal.returns-in-FileReady
returns-in-FileReady c =
    let answers =
    goes_still _ _ _ _ c.is_elsewhere.ensures _ _ c.told_by-told.ensures c.in-FileReady.is c.if-is_elsewhere.false refl refl
    (file_ready_any _ _ _ _ c.file_ready.ensures.0) in
    (answers.0, answers.1, c.file_ready.ensures.1)

pub returns-in-SectionReady : goal.returns-in-SectionReady
returns-in-SectionReady c =
    let answers =
    goes_still _ _ _ _ c.is_elsewhere.ensures _ _ c.told_by-told.ensures c.in-SectionReady.is c.if-is_elsewhere.false refl refl
    (section_ready_any _ _ _ _ _ c.section_ready.ensures.0) in
    (answers.0, answers.1, c.section_ready.ensures.1)

pub returns-in-Segment : goal.returns-in-Segment
returns-in-Segment c =
    let answers =
    goes _ _ _ _ c.is_elsewhere.ensures _ _ c.told_by-told.ensures c.in-Segment.is c.if-is_elsewhere.false refl
    c.segment.ensures.0 c.segment.ensures.1 in
    (answers.0, answers.1, c.segment.ensures.2)

pub returns-in-LastSegment : goal.returns-in-LastSegment
returns-in-LastSegment c =
    let answers =
    goes_still _ _ _ _ c.is_elsewhere.ensures _ _ c.told_by-told.ensures c.in-LastSegment.is c.if-is_elsewhere.false refl refl
    (last_segment_any _ _ _ _ _ c.last_segment.ensures.0) in
    (answers.0, answers.1, c.last_segment.ensures.1)

pub returns-in-LastSection : goal.returns-in-LastSection
returns-in-LastSection c =
    let answers =
    goes_still _ _ _ _ c.is_elsewhere.ensures _ _ c.told_by-told.ensures c.in-LastSection.is c.if-is_elsewhere.false refl refl
    (last_section_any _ _ _ _ _ c.last_section.ensures.0) in
    (answers.0, answers.1, c.last_section.ensures.1)

pub returns-in-Other : goal.returns-in-Other
returns-in-Other c =
    let answers = of_none _ _ _ _ c.is_elsewhere.ensures _ _ c.told_by-told.ensures c.in-Other.is refl c.dropped-in-Other.ensures.0 in
    (answers.0, answers.1, c.dropped-in-Other.ensures.1)
