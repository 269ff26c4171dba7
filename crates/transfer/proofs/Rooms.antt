-- Of the room a taken segment writes its own octets, right behind those collected, and every other unit nothing. Assumes nothing.
use Prim.Native.Nat.{ℕ, ◌+◌, ◌≤◌}
use Rattle.transfer.proofs.Comes.{Went, Comes, refused, went, comes}
use Rattle.transfer.specs.Collect.{of_heard, kept, taken_of, room_after, heard_of, Taken}
use Rattle.transfer.specs.declared.Collector.{Collector}
use Rattle.transfer_unit.proofs.Layouts.{segment_octets}
use Rattle.transfer_unit.specs.Units.{told_by, octets_of}
use Rattle.transfer_unit.specs.declared.Told.{Told}
use Rattle.transfer_unit.specs.declared.Told.TheVariants.{FileReady, SectionReady, Segment, LastSegment, LastSection, Other}
use borrow.Author.Tests.{ltb-false}
use lib.ListN.{length, take, drop, length-append, length-take}
use lib.Seq.{sets, sets-eq, take_at, drop_at}
use mathlib.Core.List.{List, ◌++◌, append_assoc}
use mathlib.Core.Path.{◌≡◌, refl, ap, ◌∙◌}
use native.Mathlib.Omega.{arith}

-- ---- a run of stores leaves what stands before and behind it

module _ (room x : List ℕ) (n : ℕ) (h : n + length x ≤ length room) where
  front_is : length (take n room) ≡ n
  front_is = omega (arith, length-take n room, h)

  joined_is : length (take n room ++ x) ≡ n + length x
  joined_is = omega (arith, length-append (take n room) x, front_is)

  pub front_stays : take n (sets room n x) ≡ take n room
  front_stays =
      ap (take n) (sets-eq x room n h ∙ append_assoc (take n room) x (drop (n + length x) room))
      ∙ take_at (take n room) (x ++ drop (n + length x) room) n front_is

  pub filled : take (n + length x) (sets room n x) ≡ take n room ++ x
  filled = ap (take (n + length x)) (sets-eq x room n h) ∙ take_at (take n room ++ x) (drop (n + length x) room) (n + length x) joined_is

  pub behind_stays : drop (n + length x) (sets room n x) ≡ drop (n + length x) room
  behind_stays = ap (drop (n + length x)) (sets-eq x room n h) ∙ drop_at (take n room ++ x) (drop (n + length x) room) (n + length x) joined_is

-- ---- so of a call

abbrev Stays : Collector → List ℕ → List ℕ → List ℕ → Type 0
Stays c s file after =
    (take c.count after ≡ take c.count file) × (drop (c.count + length (octets_of s)) after ≡ drop (c.count + length (octets_of s)) file)

kept_stays : (c : Collector) (s file : List ℕ) (u : Told) → told_by s ≡ u → length file ≡ 8192 → Went c s file u → Stays c s file (kept c s file u)
kept_stays c s file (FileReady n) e long w = (refl, refl)
kept_stays c s file (SectionReady i n) e long w = (refl, refl)
kept_stays c s file (Segment i n) e long w =
    let h : c.count + length (octets_of s) ≤ length file = omega (arith, ltb-false 8192 (c.count + n) w.not_long, segment_octets s i n e, long) in
    (front_stays file (octets_of s) c.count h, behind_stays file (octets_of s) c.count h)
kept_stays c s file (LastSegment i k) e long w = (refl, refl)
kept_stays c s file (LastSection i k) e long w = (refl, refl)
kept_stays c s file Other e long w = (refl, refl)

pub rest_stays : (c : Collector) (s file : List ℕ) → length file ≡ 8192 → Stays c s file (room_after c s file)
rest_stays c s file long = by (comes c s file)
  where
    by : Comes c s file → Stays c s file (room_after c s file)
    by (refused n t k) = rw k (refl, refl)
    by (went u told w t k) = rw k (kept_stays c s file u told long w)

-- a unit that is not refused is answered with the number 0
pub unsaid : (c : Collector) (u : Told) → (of_heard (heard_of c u)).number ≡ 0
unsaid c (FileReady n) = refl
unsaid c (SectionReady i n) = refl
unsaid c (Segment i n) = refl
unsaid c (LastSegment i k) = refl
unsaid c (LastSection i k) = refl
unsaid c Other = refl

pub refused_room : (c : Collector) (s file : List ℕ) → ((of_heard (taken_of c s file).heard).number ≡ 0 → ⊥) → room_after c s file ≡ file
refused_room c s file h = by (comes c s file)
  where
    by : Comes c s file → room_after c s file ≡ file
    by (refused n t k) = k
    by (went u told w t k) = absurd (h (ap (λ (x : Taken). (of_heard x.heard).number) t ∙ unsaid c u))
