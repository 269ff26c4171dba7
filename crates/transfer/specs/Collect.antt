-- The collector of a file: what it answers to a unit, and what it is after it. Document 02, A2: "Refusals: 44 a unit not of those layouts or naming another
-- file, 40 out of turn, 41 checksum, 42 announced length not met, 43 more than 8,192 bytes announced or collected, in that order; a refused unit drops the
-- transfer and leaves the collector as fresh." The octets stand in a room of 8,192 that the caller lends; the collector says how far it is filled.
use Rattle.std.specs.Prelude.{ℕ, ◌+◌, ◌-◌, ◌%◌, eqb, ltb, take, Bool, true, false, not, ◌&&◌, ◌||◌, List, [], ◌∷◌}
use Rattle.text.specs.Bytes.{part}
use Rattle.text.specs.Refusals.{Refusal, refusal, first_holding}
use Rattle.text.specs.Said.{Said, said}
use Rattle.transfer.specs.declared.Collector.{Collector}
use Rattle.transfer.specs.declared.Turn.{Turn}
use Rattle.transfer.specs.declared.Turn.TheVariants.{Fresh, Between, Within}
use Rattle.transfer_unit.specs.Units.{ca_of, ioa_of, told_by, is_other, octets_of}
use Rattle.transfer_unit.specs.declared.Told.{Told}
use Rattle.transfer_unit.specs.declared.Told.TheVariants.{FileReady, SectionReady, Segment, LastSegment, LastSection, Other}
use Rattle.std.proofs.lemmas.List.Edits.{sets}

-- ---- what the collector is

-- no transfer, between two sections of one, within one
abbrev pub is_fresh : Turn → Bool
is_fresh Fresh = true
is_fresh Between = false
is_fresh Within = false

abbrev pub is_between : Turn → Bool
is_between Fresh = false
is_between Between = true
is_between Within = false

abbrev pub is_within : Turn → Bool
is_within Fresh = false
is_within Between = false
is_within Within = true

abbrev pub fresh : Collector
fresh = record { turn = Fresh; ca = 0; ioa = 0; announced = 0; ended = 0; start = 0; due = 0; count = 0 }

-- "the section checksum, a sum of octets that wraps at 256"
unfoldable pub total : List ℕ → ℕ
total [] = 0
total (b ∷ bs) = b + total bs

unfoldable pub checksum : List ℕ → ℕ
checksum s = total s % 256

-- ---- the refusals, of a unit s that says u

-- 44: of none of the layouts, or naming another file; in a transfer, of another address than the file ready's
abbrev pub elsewhere : Collector → List ℕ → Bool
elsewhere c s = not (is_fresh c.turn) && not (eqb (ca_of s) c.ca && eqb (ioa_of s) c.ioa)

-- the turn is file ready; then one or more sections, named 1, 2, 3 and so on, each of section ready, one or more segments, last segment; then last section,
-- which names the section just ended
abbrev pub in_turn : Collector → Told → Bool
in_turn c (FileReady n) = is_fresh c.turn
in_turn c (SectionReady i n) = is_between c.turn && eqb i (c.ended + 1)
in_turn c (Segment i n) = is_within c.turn && eqb i (c.ended + 1)
in_turn c (LastSegment i k) = is_within c.turn && eqb i (c.ended + 1) && ltb c.start c.count
in_turn c (LastSection i k) = is_between c.turn && eqb i c.ended && ltb 0 c.ended && ltb 0 c.count
in_turn c Other = false

-- the checksum: last segment's is its section's, last section's that of all the file's octets
abbrev pub summed : Collector → List ℕ → Told → Bool
summed c file (FileReady n) = true
summed c file (SectionReady i n) = true
summed c file (Segment i n) = true
summed c file (LastSegment i k) = eqb k (checksum (part c.start c.count file))
summed c file (LastSection i k) = eqb k (checksum (take c.count file))
summed c file Other = true

-- the announced length: at last segment the section's, at last section the file's
abbrev pub met : Collector → Told → Bool
met c (FileReady n) = true
met c (SectionReady i n) = true
met c (Segment i n) = true
met c (LastSegment i k) = eqb (c.count - c.start) c.due
met c (LastSection i k) = eqb c.count c.announced
met c Other = true

-- more than 8,192 announced, or collected. (At a last unit: of a collector that no calls made)
abbrev pub too_long : Collector → Told → Bool
too_long c (FileReady n) = ltb 8192 n
too_long c (SectionReady i n) = ltb 8192 n
too_long c (Segment i n) = ltb 8192 (c.count + n)
too_long c (LastSegment i k) = ltb 8192 c.count
too_long c (LastSection i k) = ltb 8192 c.count
too_long c Other = false

-- those that go by what the unit says
abbrev pub refusals_as : Collector → List ℕ → Told → List Refusal
refusals_as c file u =
    refusal 40 0 (not (in_turn c u))
    ∷ refusal 41 0 (not (summed c file u))
    ∷ refusal 42 0 (not (met c u))
    ∷ refusal 43 0 (too_long c u)
    ∷ []

-- THE LIST
abbrev pub refusals_of : Collector → List ℕ → List ℕ → List Refusal
refusals_of c s file = refusal 44 0 (is_other (told_by s) || elsewhere c s) ∷ refusals_as c file (told_by s)

-- ---- what a unit does that is not refused

abbrev pub onward : Collector → List ℕ → Told → Collector
onward c s (FileReady n) = record { turn = Between; ca = ca_of s; ioa = ioa_of s; announced = n; ended = 0; start = 0; due = 0; count = 0 }
onward c s (SectionReady i n) =
    record { turn = Within; ca = c.ca; ioa = c.ioa; announced = c.announced; ended = c.ended; start = c.count; due = n; count = c.count }
onward c s (Segment i n) =
    record { turn = Within; ca = c.ca; ioa = c.ioa; announced = c.announced; ended = c.ended; start = c.start; due = c.due; count = c.count + n }
onward c s (LastSegment i k) =
    record { turn = Between; ca = c.ca; ioa = c.ioa; announced = c.announced; ended = c.ended + 1; start = 0; due = 0; count = c.count }
onward c s (LastSection i k) = fresh
onward c s Other = fresh

-- what is answered: the file is not whole yet; it is, with its address and how many octets it has; a refusal's number
pub data Heard : Type 0 where
  More : Heard
  Whole : ℕ → ℕ → ℕ → Heard
  Refused : ℕ → Heard

-- the file is whole at its last section: its address, and how many octets
abbrev pub heard_of : Collector → Told → Heard
heard_of c (FileReady n) = More
heard_of c (SectionReady i n) = More
heard_of c (Segment i n) = More
heard_of c (LastSegment i k) = More
heard_of c (LastSection i k) = Whole c.ca c.ioa c.count
heard_of c Other = More

-- a segment's octets stand behind those collected
abbrev pub kept : Collector → List ℕ → List ℕ → Told → List ℕ
kept c s file (FileReady n) = file
kept c s file (SectionReady i n) = file
kept c s file (Segment i n) = sets file c.count (octets_of s)
kept c s file (LastSegment i k) = file
kept c s file (LastSection i k) = file
kept c s file Other = file

-- ---- what a call answers

-- the answer to a unit, and the collector that is handed back
pub record Taken : Type 0 where
  pub heard : Heard
  pub collector : Collector

abbrev pub taken : Heard → Collector → Taken
taken h c = record { heard = h; collector = c }

-- "a refused unit drops the transfer and leaves the collector as fresh"
abbrev pub dropped : ℕ → ℕ → Taken
dropped n d = taken (Refused n) fresh

-- of a unit that is not refused 44
unfoldable pub taken_as : Collector → List ℕ → List ℕ → Told → Taken
taken_as c s file u = first_holding dropped (taken (heard_of c u) (onward c s u)) (refusals_as c file u)

unfoldable pub kept_as : Collector → List ℕ → List ℕ → Told → List ℕ
kept_as c s file u = first_holding (λ n d. file) (kept c s file u) (refusals_as c file u)

-- THE DEFINITION: the answer and the collector, and the room
unfoldable pub taken_of : Collector → List ℕ → List ℕ → Taken
taken_of c s file = first_holding dropped (taken (heard_of c (told_by s)) (onward c s (told_by s))) (refusals_of c s file)

unfoldable pub room_after : Collector → List ℕ → List ℕ → List ℕ
room_after c s file = first_holding (λ n d. file) (kept c s file (told_by s)) (refusals_of c s file)

-- what an answer says: a refusal's number; of a file that is whole, its address and length
abbrev pub of_heard : Heard → Said
of_heard More = said 0 0 []
of_heard (Whole ca ioa n) = said 0 0 (ca ∷ ioa ∷ n ∷ [])
of_heard (Refused n) = said n 0 []

abbrev pub is_more : Heard → Bool
is_more More = true
is_more (Whole ca ioa n) = false
is_more (Refused n) = false
