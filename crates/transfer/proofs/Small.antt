-- What a host in C keeps is the collector: each that a run from a fresh one gives has room in 16 bytes, and comes back from them. Assumes nothing.
use Prim.Native.Nat.{ℕ, ◌+◌, ◌*◌, ◌<◌}
use Rattle.text.proofs.Tests.{and_parts}
use Rattle.transfer.proofs.Comes.{Went, Comes, refused, went, comes}
use Rattle.transfer.specs.Collect.{is_within, fresh, onward, taken_of, Taken}
use Rattle.transfer.specs.States.{turn_in, turn_no, collector_in, low, middle, high, state_of, Small}
use Rattle.transfer.specs.declared.Collector.{Collector}
use Rattle.transfer.specs.declared.Turn.{Turn}
use Rattle.transfer.specs.declared.Turn.TheVariants.{Fresh, Between, Within}
use Rattle.transfer_unit.proofs.Layouts.{octet_small, last_named}
use Rattle.transfer_unit.specs.Units.{ca_of, ioa_of, told_by, Octets}
use Rattle.transfer_unit.specs.declared.Told.{Told}
use Rattle.transfer_unit.specs.declared.Told.TheVariants.{FileReady, SectionReady, Segment, LastSegment, LastSection, Other}
use borrow.Author.Tests.{eqb-true, ltb-false}
use lib.Dec.{eqb, ltb}
use mathlib.Core.Bool.{◌&&◌}
use mathlib.Core.List.{List}
use mathlib.Core.Path.{◌≡◌, refl, sym, ap, subst}
use native.Mathlib.Omega.{arith}

-- ---- there and back

turn_back : (t : Turn) → turn_in (turn_no t) ≡ t
turn_back Fresh = refl
turn_back Between = refl
turn_back Within = refl

two_back : (n : ℕ) → n < 65536 → low n + 256 * middle n ≡ n
two_back n h = omega arith

three_back : (n : ℕ) → n < 16777216 → low n + 256 * middle n + 65536 * high n ≡ n
three_back n h = omega arith

pub state_back : (c : Collector) → Small c → collector_in (state_of c) ≡ c
unfolding collector_in state_of
state_back c h =
    let ended : low c.ended ≡ c.ended = omega (arith, h.ended_small) in
    rw (
      turn_back c.turn,
      two_back c.ca h.ca_small,
      three_back c.ioa h.ioa_small,
      ended,
      two_back c.announced (omega (arith, h.announced_small)),
      two_back c.start (omega (arith, h.start_small)),
      two_back c.due (omega (arith, h.due_small)),
      two_back c.count (omega (arith, h.count_small)),
    )

-- ---- all of a run have room

pub fresh_small : Small fresh
fresh_small =
    record {
      ca_small = omega arith;
      ioa_small = omega arith;
      announced_small = omega arith;
      ended_small = omega arith;
      start_small = omega arith;
      due_small = omega arith;
      count_small = omega arith;
    }

module _ (c : Collector) (h : Small c) (s : List ℕ) (octets : Octets s) where
  ca_of_lem : ca_of s < 65536
  unfolding ca_of
  ca_of_lem = omega (arith, octet_small s 5 octets, octet_small s 6 octets)

  ioa_of_lem : ioa_of s < 16777216
  unfolding ioa_of
  ioa_of_lem = omega (arith, octet_small s 7 octets, octet_small s 8 octets, octet_small s 9 octets)

  onward_small : (file : List ℕ) (u : Told) → told_by s ≡ u → Went c s file u → Small (onward c s u)
  onward_small file (FileReady n) e w =
      record {
        ca_small = ca_of_lem;
        ioa_small = ioa_of_lem;
        announced_small = ltb-false 8192 n w.not_long;
        ended_small = omega arith;
        start_small = omega arith;
        due_small = omega arith;
        count_small = omega arith;
      }
  onward_small file (SectionReady i n) e w =
      record {
        ca_small = h.ca_small;
        ioa_small = h.ioa_small;
        announced_small = h.announced_small;
        ended_small = h.ended_small;
        start_small = h.count_small;
        due_small = ltb-false 8192 n w.not_long;
        count_small = h.count_small;
      }
  onward_small file (Segment i n) e w =
      record {
        ca_small = h.ca_small;
        ioa_small = h.ioa_small;
        announced_small = h.announced_small;
        ended_small = h.ended_small;
        start_small = h.start_small;
        due_small = h.due_small;
        count_small = ltb-false 8192 (c.count + n) w.not_long;
      }
  onward_small file (LastSegment i k) e w =
      let p = and_parts (is_within c.turn && eqb i (c.ended + 1)) (ltb c.start c.count) w.in_turn_so in
      let q = and_parts (is_within c.turn) (eqb i (c.ended + 1)) p.0 in
      record {
        ca_small = h.ca_small;
        ioa_small = h.ioa_small;
        announced_small = h.announced_small;
        ended_small = omega (arith, eqb-true i (c.ended + 1) q.1, last_named s i k octets e);
        start_small = omega arith;
        due_small = omega arith;
        count_small = h.count_small;
      }
  onward_small file (LastSection i k) e w = fresh_small
  onward_small file Other e w = fresh_small

  pub taken_small : (file : List ℕ) → Small (taken_of c s file).collector
  taken_small file = by (comes c s file)
    where
      by : Comes c s file → Small (taken_of c s file).collector
      by (refused n t k) = subst Small (sym (ap (λ (x : Taken). x.collector) t)) fresh_small
      by (went u told w t k) = subst Small (sym (ap (λ (x : Taken). x.collector) t)) (onward_small file u told w)
