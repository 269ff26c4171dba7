-- Rooms from which the texts of values are put: none is larger than a record's.
use Rattle.std.specs.Prelude.{◌≤◌, length}
use Rattle.value.specs.Texts.{Rooms}

pub record Narrow (r : Rooms) : Type 0 where
  pub unit_few : length r.unit ≤ 16
  pub reason_few : length r.reason ≤ 128
  pub note_few : length r.note ≤ 256
