-- A collector as 16 bytes, for a host in C that keeps it between two units. Octets count from 1: 1 the turn, 2 the sections ended, 3 and 4 the common address,
-- 5 to 7 the information object's, 8 and 9 the file's announced length, 10 and 11 where the open section starts, 12 and 13 its announced length, 14 and 15 the
-- octets collected, 16 zero; low octet first. All zero is a fresh collector.
use Rattle.std.specs.Prelude.{ℕ, ◌/◌, ◌%◌, ◌≤◌, ◌<◌, eqb, cond, List, [], ◌∷◌}
use Rattle.transfer.specs.declared.Collector.{Collector}
use Rattle.transfer.specs.declared.Turn.{Turn}
use Rattle.transfer.specs.declared.Turn.TheVariants.{Fresh, Between, Within}
use Rattle.transfer_unit.specs.Units.{octet, two, three}

-- 1 between two sections, 2 within one, and any other a fresh collector
abbrev pub turn_in : ℕ → Turn
turn_in b = cond (eqb b 1) Between (cond (eqb b 2) Within Fresh)

abbrev pub turn_no : Turn → ℕ
turn_no Fresh = 0
turn_no Between = 1
turn_no Within = 2

-- the collector in a state
unfoldable pub collector_in : List ℕ → Collector
collector_in s =
    record {
      turn = turn_in (octet s 1);
      ca = two s 3;
      ioa = three s 5;
      announced = two s 8;
      ended = octet s 2;
      start = two s 10;
      due = two s 12;
      count = two s 14;
    }

-- the low octet of a number, and the two above it
abbrev pub low : ℕ → ℕ
low n = n % 256

abbrev pub middle : ℕ → ℕ
middle n = n / 256 % 256

abbrev pub high : ℕ → ℕ
high n = n / 65536 % 256

-- the state of a collector
unfoldable pub state_of : Collector → List ℕ
state_of c =
    turn_no c.turn ∷ low c.ended
    ∷ low c.ca ∷ middle c.ca
    ∷ low c.ioa ∷ middle c.ioa ∷ high c.ioa
    ∷ low c.announced ∷ middle c.announced
    ∷ low c.start ∷ middle c.start
    ∷ low c.due ∷ middle c.due
    ∷ low c.count ∷ middle c.count
    ∷ 0
    ∷ []

-- a collector that has room in a state: every one that a run from a fresh collector gives
pub record Small (c : Collector) : Type 0 where
  pub ca_small : c.ca < 65536
  pub ioa_small : c.ioa < 16777216
  pub announced_small : c.announced ≤ 8192
  pub ended_small : c.ended ≤ 255
  pub start_small : c.start ≤ 8192
  pub due_small : c.due ≤ 8192
  pub count_small : c.count ≤ 8192
