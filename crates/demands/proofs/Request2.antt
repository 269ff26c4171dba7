-- THE THEOREM: request A2 of document 02. Assumes nothing.
use Prim.Native.Nat.{ℕ}
use Rattle.demands.specs.Request2.{Request2, FirstOf, saying_of}
use Rattle.reader.specs.Reader.{read_of}
use Rattle.text.proofs.Firsts.{Decided, first, not_any, decided, first_given, none_given}
use Rattle.text.proofs.Tests.{by_test, and_parts}
use Rattle.text.specs.Refusals.{Refusal, First, NoneHolds}
use Rattle.text.specs.Said.{Said, said}
use Rattle.transfer.proofs.Comes.{fresh_after, whole_bounded}
use Rattle.transfer.proofs.Rooms.{rest_stays, refused_room, unsaid}
use Rattle.transfer.specs.Collect.{fresh, refusals_of, heard_of, onward, taken, dropped, taken_of, of_heard, Taken}
use Rattle.transfer.specs.States.{collector_in}
use Rattle.transfer.specs.declared.Collector.{Collector}
use Rattle.transfer_theorems.proofs.Complete.{transfer_taken}
use Rattle.transfer_theorems.proofs.Kept.{state_kept}
use Rattle.transfer_theorems.proofs.Sound.{whole_is}
use Rattle.transfer_unit.specs.Units.{octet, two, is_ours, told_by}
use Rattle.transfer_unit.specs.declared.Told.TheVariants.{Other}
use borrow.Author.Tests.{eqb-true}
use lib.Dec.{eqb}
use lib.ListN.{replicate}
use mathlib.Core.Bool.{◌&&◌}
use mathlib.Core.List.{List, []}
use mathlib.Core.Path.{◌≡◌, refl, sym, ap, ◌∙◌}
use native.Mathlib.Omega.{arith}

other_name : (s : List ℕ) → (two s 10 ≡ 1 → ⊥) → told_by s ≡ Other
unfolding told_by is_ours
other_name s h =
    let a = eqb (octet s 2) 1 in
    let b = eqb (octet s 3) 13 in
    let c = eqb (octet s 10) 1 in
    let d = eqb (octet s 11) 0 in
    by_test (a && b && c && d)
    (λ e.
    let p = and_parts (a && b && c) d e in
    let q = and_parts (a && b) c p.0 in
    absurd (h (omega (arith, eqb-true (octet s 10) 1 q.1, eqb-true (octet s 11) 0 p.1))))
    (λ e. rw e)

module _ (c : Collector) (s file : List ℕ) where
  abbrev goes : Taken
  goes = taken (heard_of c (told_by s)) (onward c s (told_by s))

  says_first : {x : Refusal} → First (refusals_of c s file) x → saying_of c s file ≡ said x.number 0 []
  unfolding taken_of
  says_first f = ap (λ (t : Taken). of_heard t.heard) (first_given dropped goes f)

  says_none : NoneHolds (refusals_of c s file) → (saying_of c s file).number ≡ 0
  unfolding taken_of
  says_none n = ap (λ (t : Taken). (of_heard t.heard).number) (none_given dropped goes n) ∙ unsaid c (told_by s)

  given_first : ((saying_of c s file).number ≡ 0 → ⊥) → FirstOf c s file (saying_of c s file).number
  given_first h = by (decided (refusals_of c s file))
    where
      by : Decided (refusals_of c s file) → FirstOf c s file (saying_of c s file).number
      by (first {x} f) = record { which = x; first = f; numbered = sym (ap (λ (t : Said). t.number) (says_first f)) }
      by (not_any n) = absurd (h (says_none n))

state_fresh : collector_in (replicate 16 0) ≡ fresh
unfolding collector_in
state_fresh = refl

pub request_2 : Request2
request_2 =
    record {
      whole_is = whole_is;
      transfer_taken = transfer_taken;
      other_name = other_name;
      read_collected = λ ca ioa n us room plan w. ap (read_of ca ioa plan) w.held;
      in_order = λ c s file. refl;
      first_given = λ c s file x f. says_first c s file f;
      given_first = given_first;
      fresh_after = fresh_after;
      refused_room = refused_room;
      rest_stays = rest_stays;
      whole_bounded = whole_bounded;
      state_fresh = state_fresh;
      state_kept = state_kept;
    }
