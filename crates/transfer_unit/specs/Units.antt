-- What a file-transfer unit says. Document 02, A2: "by IEC 60870-5-5 and IEC 60870-5-101: file ready, section ready, segments, last segment, last section, with
-- the name of file 1 as A.34 fixes it". The layouts, octet by octet, are docs/UNITS.md's. A unit is a list of octets, which count from 1.
use Rattle.std.specs.Prelude.{ℕ, ◌+◌, ◌*◌, ◌<◌, eqb, leb, length, get_or, drop, Bool, true, false, ◌&&◌, cond, List, ◌∷◌}
use Rattle.transfer_unit.specs.declared.Told.{Told}
use Rattle.transfer_unit.specs.declared.Told.TheVariants.{FileReady, SectionReady, Segment, LastSegment, LastSection, Other}

-- each is an octet
abbrev pub Octets : List ℕ → Type 0
Octets s = (i : ℕ) → get_or s i 0 < 256

-- the octet k: 0 where there is none
abbrev pub octet : List ℕ → ℕ → ℕ
octet s k = get_or (0 ∷ s) k 0

-- the numbers of two and three octets that begin at the octet k, low octet first
abbrev pub two : List ℕ → ℕ → ℕ
two s k = octet s k + 256 * octet s (k + 1)

abbrev pub three : List ℕ → ℕ → ℕ
three s k = octet s k + 256 * octet s (k + 1) + 65536 * octet s (k + 2)

-- the common address, and the information object's
unfoldable pub ca_of : List ℕ → ℕ
ca_of s = two s 5

unfoldable pub ioa_of : List ℕ → ℕ
ioa_of s = three s 7

-- one object, the cause 13 (file transfer), the name of file 1
unfoldable pub is_ours : List ℕ → Bool
is_ours s = eqb (octet s 2) 1 && eqb (octet s 3) 13 && eqb (octet s 10) 1 && eqb (octet s 11) 0

-- 120: the length of the file, and the qualifier 0
unfoldable pub file_ready : List ℕ → Told
file_ready s = cond (eqb (length s) 15 && eqb (octet s 15) 0) (FileReady (three s 12)) Other

-- 121: the name of the section, its length, and the qualifier 0
unfoldable pub section_ready : List ℕ → Told
section_ready s = cond (eqb (length s) 16 && eqb (octet s 16) 0) (SectionReady (octet s 12) (three s 13)) Other

-- 125: the name of the section, how many octets, and those octets: one at least
unfoldable pub segment : List ℕ → Told
segment s = cond (leb 1 (octet s 13) && eqb (length s) (13 + octet s 13)) (Segment (octet s 12) (octet s 13)) Other

-- 123: the name of the section, the qualifier, 3 for the last segment and 1 for the last section, and the checksum
unfoldable pub last_of : List ℕ → Told
last_of s =
    cond (eqb (length s) 14)
    (cond (eqb (octet s 13) 3) (LastSegment (octet s 12) (octet s 14))
    (cond (eqb (octet s 13) 1) (LastSection (octet s 12) (octet s 14)) Other))
    Other

-- THE DEFINITION: what a unit says; `Other` is of none of these layouts, or names another file
unfoldable pub told_by : List ℕ → Told
told_by s =
    cond (is_ours s)
    (cond (eqb (octet s 1) 120) (file_ready s)
    (cond (eqb (octet s 1) 121) (section_ready s)
    (cond (eqb (octet s 1) 123) (last_of s)
    (cond (eqb (octet s 1) 125) (segment s) Other))))
    Other

abbrev pub is_other : Told → Bool
is_other (FileReady n) = false
is_other (SectionReady i n) = false
is_other (Segment i n) = false
is_other (LastSegment i k) = false
is_other (LastSection i k) = false
is_other Other = true

-- a segment's octets
abbrev pub octets_of : List ℕ → List ℕ
octets_of s = drop 13 s
