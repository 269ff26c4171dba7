-- Units one after another, and what a transfer is: document 02, A2, "file ready, section ready, segments, last segment, last section" as IEC 60870-5-5 and
-- IEC 60870-5-101 have them (docs/UNITS.md). This is said of the units alone; no collector is run here but in `after_all`.
use Rattle.std.specs.Prelude.{ℕ, suc, ◌≤◌, length, take, List, [], ◌∷◌, ◌++◌, map, ◌≡◌}
use Rattle.transfer.specs.Collect.{fresh, checksum, taken_of, room_after, Heard, More, Whole, Taken}
use Rattle.transfer.specs.declared.Collector.{Collector}
use Rattle.transfer_unit.specs.Units.{ca_of, ioa_of, told_by, octets_of, Octets}
use Rattle.transfer_unit.specs.declared.Told.{Told}
use Rattle.transfer_unit.specs.declared.Told.TheVariants.{FileReady, SectionReady, Segment, LastSegment, LastSection}

-- ---- units one after another

-- a collector, its room, and the last answer
pub record Run : Type 0 where
  pub collector : Collector
  pub room : List ℕ
  pub heard : Heard

abbrev pub start_of : Collector → List ℕ → Run
start_of c room = record { collector = c; room = room; heard = More }

abbrev pub run_of : Taken → List ℕ → Run
run_of t room = record { collector = t.collector; room = room; heard = t.heard }

abbrev pub step_of : Run → List ℕ → Run
step_of x s = run_of (taken_of x.collector s x.room) (room_after x.collector s x.room)

-- the last unit's answer, with what it leaves: `More` before any unit
unfoldable pub after_all : Run → List (List ℕ) → Run
after_all x [] = x
after_all x (s ∷ us) = after_all (step_of x s) us

-- the answers, unit by unit
unfoldable pub answers : Run → List (List ℕ) → List Heard
answers x [] = []
answers x (s ∷ us) = (step_of x s).heard ∷ answers (step_of x s) us

-- units of octets
abbrev pub AllOctets : List (List ℕ) → Type 0
AllOctets [] = Unit {0}
AllOctets (s ∷ us) = Octets s × AllOctets us

-- ---- a transfer

-- a unit of this address that says u
abbrev pub Says : ℕ → ℕ → List ℕ → Told → Type 0
Says ca ioa s u = (told_by s ≡ u) × (ca_of s ≡ ca) × (ioa_of s ≡ ioa)

-- segments of the section i, and their octets joined
pub data Segments (ca ioa i : ℕ) : List (List ℕ) → List ℕ → Type 0 where
  none_yet : Segments ca ioa i [] []
  one_more : {us : List (List ℕ)} {x : List ℕ} {n : ℕ} (s : List ℕ) → Segments ca ioa i us x → Says ca ioa s (Segment i n)
      → Segments ca ioa i (us ++ (s ∷ [])) (x ++ octets_of s)

-- the sections 1 to j: each announced with its length, of one octet or more, and ended with its checksum
pub data Sections (ca ioa : ℕ) : ℕ → List (List ℕ) → List ℕ → Type 0 where
  no_section : Sections ca ioa 0 [] []
  section : {j : ℕ} {us vs : List (List ℕ)} {x y : List ℕ} (ready last : List ℕ) → Sections ca ioa j us x
      → Says ca ioa ready (SectionReady (suc j) (length y)) → Segments ca ioa (suc j) vs y → 1 ≤ length y
      → Says ca ioa last (LastSegment (suc j) (checksum y)) → Sections ca ioa (suc j) (us ++ (ready ∷ (vs ++ (last ∷ [])))) (x ++ y)

-- THE DEFINITION: a whole file in its units: file ready with its length, sections from 1 on, last section with its checksum; not more than 8,192 octets
pub record Transfer (ca ioa : ℕ) (us : List (List ℕ)) (octets : List ℕ) : Type 0 where
  pub ready : List ℕ
  pub middle : List (List ℕ)
  pub last : List ℕ
  pub sections : ℕ
  pub cut : us ≡ ready ∷ (middle ++ (last ∷ []))
  pub is_ready : Says ca ioa ready (FileReady (length octets))
  pub are_sections : Sections ca ioa sections middle octets
  pub some : 1 ≤ sections
  pub is_last : Says ca ioa last (LastSection sections (checksum octets))
  pub not_long : length octets ≤ 8192

-- a transfer that is taken: each unit but the last is answered that the file is not whole yet, the last that it is, and the room begins with its octets
pub record TakenWhole (room : List ℕ) (ca ioa : ℕ) (us : List (List ℕ)) (octets : List ℕ) (t : Transfer ca ioa us octets) : Type 0 where
  pub said : answers (start_of fresh room) us ≡ map (λ s. More) (t.ready ∷ t.middle) ++ (Whole ca ioa (length octets) ∷ [])
  pub held : take (length octets) (after_all (start_of fresh room) us).room ≡ octets

-- units that end in a whole file: the last of them are a transfer, and the room begins with exactly its octets
pub record WholeOf (ca ioa n : ℕ) (us : List (List ℕ)) (room : List ℕ) : Type 0 where
  pub before : List (List ℕ)
  pub units : List (List ℕ)
  pub octets : List ℕ
  pub cut : us ≡ before ++ units
  pub transfer : Transfer ca ioa units octets
  pub long : n ≡ length octets
  pub held : take n room ≡ octets
