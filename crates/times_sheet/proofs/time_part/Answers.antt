use Rattle.times_sheet.proofs.Sheets.{start_up_room, ramp_room, start_up_at, ramp_at}
use Rattle.times_sheet.proofs.time_part.Goals as goal

pub after_key-requires : goal.after_key-requires
after_key-requires c = start_up_room _ c.requires _ c.below-second.ensures

pub after_key-requires-in-Ramp : goal.after_key-requires-in-Ramp
after_key-requires-in-Ramp c = ramp_room _ c.requires _ _ c.below-second.ensures c.below.ensures

pub returns-in-StartUp : goal.returns-in-StartUp
returns-in-StartUp c = start_up_at _ _ _ _ c.in-StartUp.is c.below-second.ensures c.after_key.ensures

pub returns-in-Ramp : goal.returns-in-Ramp
returns-in-Ramp c =
    ramp_at _ _ _ _ _ c.in-Ramp.is c.below-second.ensures c.below.ensures c.after_key-in-Ramp.ensures
