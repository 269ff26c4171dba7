-- What the walk does with one line more, and what it finds in a file. Document 02, A3: one walk, which keeps for each label where its value begins and ends.
use Rattle.std.specs.Prelude.{ℕ, ◌+◌, ◌-◌, ◌^◌, ◌/◌, ◌%◌, eqb, length, replicate, set, Bool, true, false, cond, List, [], None, Option, Some}
use Rattle.reader_accent.specs.Accents.{accents_of}
use Rattle.reader_line.specs.Items.{first_labels, second_labels}
use Rattle.text_lines.specs.Entries.{Entry, again, entries, standing}
use Rattle.text_lines.specs.Lines.{inside, outside, params, seps, texts, allowed_upto}
use Rattle.text_lines.specs.Mask.{mask_of}
use Rattle.text_lines.specs.Places.{no_span}
use Rattle.text_lines.specs.Spellings.{Spelling}
use Rattle.text_lines.specs.Spots.{row_place, places_in}
use Rattle.text_lines.specs.declared.Span.{Span}
use Rattle.value_name.specs.declared.MessageType.{MessageType}
use Rattle.reader_walk.specs.declared.Found.{Found}
use Rattle.reader_walk.specs.declared.Frame.{Frame}
use Rattle.reader_walk.specs.declared.Marks.{Marks}
use Rattle.reader_walk.specs.declared.Noted.{Noted}

-- ---- one line more, as the code does it

-- the bit i of a set
abbrev pub has : ℕ → ℕ → Bool
has set i = eqb (set / 2 ^ i % 2) 1

abbrev pub noted : ℕ → ℕ → ℕ → Noted
noted into seen again = record { into = into; marks = record { seen = seen; again = again } }

-- a field's first line gives its place, a later one its number, the first such; 0 is no field, and nobody's place
unfoldable pub noted_of : Marks → ℕ → Noted
noted_of m k =
    cond (eqb k 0) (noted 0 m.seen m.again)
    (cond (has m.seen (k - 1)) (noted 0 m.seen (cond (eqb m.again 0) k m.again))
    (noted k (m.seen + 2 ^ (k - 1)) m.again))

abbrev pub frame : ℕ → ℕ → Span → Frame
frame seps inside row = record { seps = seps; inside = inside; row = row }

unfoldable pub frame_of : Frame → Bool → Span → Frame
frame_of f separator p =
    cond separator (frame (f.seps + 1) f.inside f.row)
    (cond (eqb f.seps 1) (frame f.seps (f.inside + 1) (cond (eqb f.inside 0) p f.row)) f)

-- ---- what is found

-- the field of the first repeat, 0 where there is none
abbrev pub or_zero : Option ℕ → ℕ
or_zero None = 0
or_zero (Some k) = k

-- the labels of a list that have an entry, as bits from the first field on, and the first repeat
unfoldable pub marks_of : List (List ℕ) → List Entry → Marks
marks_of ls es = record { seen = mask_of (standing 1 ls es); again = or_zero (again [] es) }

abbrev pub marks_in : List Spelling → List (List ℕ) → List ℕ → Marks
marks_in sp ls file = marks_of ls (entries ls (params sp (outside (texts file))))

-- how many separators, how many lines between the first and the next, and where the row stands
abbrev pub frame_in : List ℕ → Frame
frame_in file = frame (seps (texts file)) (length (inside (texts file))) (row_place file)

-- in a file of allowed bytes: its frame, and of each list of labels the labels seen and where each value stands
abbrev pub whole_of : MessageType → List ℕ → Found
whole_of t file =
    record {
      stop = length file;
      frame = frame_in file;
      first = marks_in (accents_of t) (first_labels t) file;
      places = places_in (accents_of t) (first_labels t) file;
      second = marks_in (accents_of t) (second_labels t) file;
      others = places_in (accents_of t) (second_labels t) file;
    }

-- in any other: where the first byte stands that is not allowed, and nothing of its lines
abbrev pub no_marks : Marks
no_marks = record { seen = 0; again = 0 }

abbrev pub stopped_at : ℕ → Found
stopped_at n =
    record {
      stop = n;
      frame = frame 0 0 no_span;
      first = no_marks;
      places = replicate 27 no_span;
      second = no_marks;
      others = replicate 27 no_span;
    }

-- what the code hands out of what it kept: nothing where it stopped, and else all, with nobody's place set back
abbrev pub handed_of : Bool → ℕ → Frame → Marks → List Span → Marks → List Span → Found
handed_of true n f a ps b os = stopped_at n
handed_of false n f a ps b os = record { stop = n; frame = f; first = a; places = set ps 0 no_span; second = b; others = set os 0 no_span }

-- THE DEFINITION
unfoldable pub found_of : MessageType → List ℕ → Found
found_of t file =
    cond (eqb (allowed_upto (accents_of t) file) (length file)) (whole_of t file) (stopped_at (allowed_upto (accents_of t) file))
