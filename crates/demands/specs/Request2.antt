-- Request A2 of document 02, "Files from their segments", sentence by sentence, over the definitions that the contracts name.
use Rattle.std.specs.Prelude.{ℕ, ◌+◌, ◌≤◌, length, take, drop, replicate, false, List, [], ◌∷◌, map, ◌≡◌}
use Rattle.reader.specs.Reader.{read_of}
use Rattle.text.specs.Refusals.{Refusal, First}
use Rattle.text.specs.Said.{Said, said}
use Rattle.transfer.specs.Collect.{is_more, fresh, refusals_of, taken_of, room_after, of_heard, Whole}
use Rattle.transfer.specs.States.{collector_in, state_of}
use Rattle.transfer.specs.declared.Collector.{Collector}
use Rattle.transfer_theorems.specs.Transfers.{start_of, after_all, Transfer, TakenWhole, WholeOf, AllOctets}
use Rattle.transfer_unit.specs.Units.{two, told_by, octets_of}
use Rattle.transfer_unit.specs.declared.Told.TheVariants.{Other}

-- the room that a caller lends
abbrev pub IsRoom : List ℕ → Type 0
IsRoom room = length room ≡ 8192

-- what a call says: a refusal's number, or 0
abbrev pub saying_of : Collector → List ℕ → List ℕ → Said
saying_of c s file = of_heard (taken_of c s file).heard

-- a refusal of the list that is the first to hold
pub record FirstOf (c : Collector) (s file : List ℕ) (n : ℕ) : Type 0 where
  pub which : Refusal
  pub first : First (refusals_of c s file) which
  pub numbered : which.number ≡ n

pub record Request2 : Type 0 where
  -- "Please collect the file yourself by IEC 60870-5-5 and IEC 60870-5-101: file ready, section ready, segments, last segment, last section": from a fresh
  -- collector, where units end in a whole file, the last of them are such a transfer, and the room begins with exactly the octets of its segments, in order
  pub whole_is : (room : List ℕ) (us : List (List ℕ)) (ca ioa n : ℕ) → IsRoom room → (after_all (start_of fresh room) us).heard ≡ Whole ca ioa n
      → WholeOf ca ioa n us (after_all (start_of fresh room) us).room
  -- and every such transfer is taken
  pub transfer_taken : (room : List ℕ) (us : List (List ℕ)) (ca ioa : ℕ) (octets : List ℕ) → IsRoom room → (t : Transfer ca ioa us octets)
      → TakenWhole room ca ioa us octets t
  -- "with the name of file 1 as A.34 fixes it": a unit with another name of file is of none of the layouts
  pub other_name : (s : List ℕ) → (two s 10 ≡ 1 → ⊥) → told_by s ≡ Other
  -- "and the section checksum, a sum of octets that wraps at 256" is `checksum`, in `Transfer` and in the refusal 41
  -- "The collected bytes go to the reader unchanged, and demand 2 then speaks of them."
  pub read_collected : (ca ioa n : ℕ) (us : List (List ℕ)) (room plan : List ℕ) (w : WholeOf ca ioa n us room)
      → read_of ca ioa plan (take n room) ≡ read_of ca ioa plan w.octets
  -- "Refusals: 44 a unit not of those layouts or naming another file, 40 out of turn, 41 checksum, 42 announced length not met, 43 more than 8,192 bytes
  -- announced or collected, in that order": the list, of any collector
  pub in_order : (c : Collector) (s file : List ℕ) → map (λ x. x.number) (refusals_of c s file) ≡ 44 ∷ 40 ∷ 41 ∷ 42 ∷ 43 ∷ []
  -- "details are 0 where no other is named, and a refusal is given exactly when its condition is the first in its call's list to hold"
  pub first_given : (c : Collector) (s file : List ℕ) (x : Refusal) → First (refusals_of c s file) x → saying_of c s file ≡ said x.number 0 []
  pub given_first : (c : Collector) (s file : List ℕ) → ((saying_of c s file).number ≡ 0 → ⊥) → FirstOf c s file (saying_of c s file).number
  -- "a refused unit drops the transfer and leaves the collector as fresh", and the room as it was lent; so does the unit that makes a file whole
  pub fresh_after : (c : Collector) (s file : List ℕ) → is_more (taken_of c s file).heard ≡ false → (taken_of c s file).collector ≡ fresh
  pub refused_room : (c : Collector) (s file : List ℕ) → ((saying_of c s file).number ≡ 0 → ⊥) → room_after c s file ≡ file
  -- a unit that is taken leaves the bytes before those collected, and past its own
  pub rest_stays : (c : Collector) (s file : List ℕ) → IsRoom file
      → (take c.count (room_after c s file) ≡ take c.count file)
      × (drop (c.count + length (octets_of s)) (room_after c s file) ≡ drop (c.count + length (octets_of s)) file)
  -- of every collector, made by anyone: a whole file has 1 to 8,192 octets, so no host reads past its room
  pub whole_bounded : (c : Collector) (s file : List ℕ) (ca ioa n : ℕ) → (taken_of c s file).heard ≡ Whole ca ioa n → (1 ≤ n) × (n ≤ 8192)
  -- what a host in C keeps between two units: all zero at first, and then the collector, as it comes back from its 16 bytes
  pub state_fresh : collector_in (replicate 16 0) ≡ fresh
  pub state_kept : (room : List ℕ) (us : List (List ℕ)) → AllOctets us
      → collector_in (state_of (after_all (start_of fresh room) us).collector) ≡ (after_all (start_of fresh room) us).collector
