use Rattle.times.proofs.Told.{located_within, located_part}
use Rattle.times.proofs.start_up.Goals as goal

pub part_at-requires : goal.part_at-requires
part_at-requires c = located_within _ _ _ _ _ _ _ c.locate.ensures

pub returns : goal.returns
returns c = located_part _ _ _ _ _ _ _ _ c.locate.ensures c.part_at.ensures
