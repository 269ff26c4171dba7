use Rattle.record.specs.Records.{field_of}
use borrow.Author.Rules.{rules}
use Rattle.record_check.proofs.rooms.value_at.Goals as goal

-- The field 0 is the filler.
pub returns-then-k-eq0 : goal.returns-then-k-eq0
unfolding field_of
returns-then-k-eq0 c = search rules
