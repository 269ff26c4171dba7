-- What the reader's parts hand on: where a message's values stand, and what is judged of them. No answer of the reader depends on how they do it.
use Rattle.std.specs.Prelude.{ℕ, ◌-◌, ◌≤◌, eqb, ltb, length, take, replicate, Bool, false, cond, List, ◌≡◌}
use Rattle.reader_fill.specs.Filled.{filled_of, triples_of, record_with}
use Rattle.layout.specs.FieldNumbers.{tipo_comando_no}
use Rattle.layout.specs.Layouts.{kinds_of, size_of}
use Rattle.layout.specs.declared.Layout.{Layout}
use Rattle.layout.specs.declared.Layout.TheVariants.{Market}
use Rattle.text_lines.specs.Places.{no_span, part_of, Placed, column_in}
use Rattle.text_lines.specs.Spots.{row_place}
use Rattle.text_lines.specs.declared.Span.{Span}
use Rattle.value_list.specs.declared.Triple.{Triple}
use Rattle.value_name.specs.declared.MessageType.{MessageType}
use Rattle.value_name.specs.declared.MessageType.TheVariants.{Cb, Rc, Mg, Eb, Lb, Sr, Vq, Ri, Qr}
use Rattle.reader.specs.Messages.{column_record, places_of}
use Rattle.reader.specs.Reader.{valued, message_of, read_of}
use Rattle.reader.specs.Refusals.{refused, accepted, answer}
use Rattle.reader.specs.Refusals.{Answer}
use Rattle.reader.specs.Readings.{ReadingSaid}
use Rattle.record.specs.declared.Cell.{Cell}
use Rattle.reader_walk.specs.State.{has}
use Rattle.reader_walk.specs.declared.Marks.{Marks}
use Rattle.std.specs.Int.Count.{ones}

-- ---- refusals 13 and 1 to 6: where the values stand

-- what is said of where a message's values stand: a refusal's number and detail, or the number 0 with its layout, the plan's unit, and the places of its row
-- and of its fields
pub record LocatedSaid : Type 0 where
  pub number : ℕ
  pub detail : ℕ
  pub layout : Layout
  pub size : ℕ
  pub unit : List ℕ
  pub row : Span
  pub places : List Span

-- a refusal: no place
abbrev pub nowhere : ℕ → ℕ → LocatedSaid
nowhere n d =
    record { number = n; detail = d; layout = Market; size = 0; unit = replicate 16 0; row = no_span; places = replicate 27 no_span }

-- of a layout: 5 a label twice, 6 how many have no line; else the places
unfoldable pub placed_as : Layout → Span → Marks → List Span → LocatedSaid
placed_as l row m places =
    cond (eqb m.again 0)
    (cond (eqb (size_of l - ones m.seen) 0)
    (record { number = 0; detail = 0; layout = l; size = 0; unit = replicate 16 0; row = row; places = places })
    (nowhere 6 (size_of l - ones m.seen)))
    (nowhere 5 m.again)

-- the row and every field of the layout have a place in the file
pub record Stands (file : List ℕ) (x : LocatedSaid) : Type 0 where
  pub ordered : x.row.from ≤ x.row.to
  pub inside : x.row.to ≤ length file
  pub placed : Placed (size_of x.layout) file x.places

-- each exactly where it stands, with no detail
abbrev pub Exact : List ℕ → LocatedSaid → Type 0
Exact file x = (x.detail ≡ 0) × (x.row ≡ row_place file) × (x.places ≡ places_of x.layout file)

-- nothing of the file
abbrev pub Cleared : LocatedSaid → Type 0
Cleared x = (x.layout ≡ Market) × (x.row ≡ no_span) × (x.places ≡ replicate 27 no_span)

-- the column of a layout's values at their places
abbrev pub column_at : Layout → List ℕ → List Span → List (List ℕ)
column_at l file places = column_in (size_of l) file places

-- the answer to which it leads for a unit: its refusal, or that of refusals 7 to 10
unfoldable pub continued : List ℕ → List ℕ → LocatedSaid → Answer
continued file unit x =
    cond (eqb x.number 0)
    (answer (valued x.layout unit (part_of file x.row) (column_at x.layout file x.places)) (column_record x.layout (column_at x.layout file x.places)))
    (refused x.number x.detail)

-- what a file leads to as a message of a type, and at an address of a plan
pub record Walks (t : MessageType) (file : List ℕ) (x : LocatedSaid) : Type 0 where
  pub stands : x.number ≡ 0 → Stands file x
  pub exact : x.number ≡ 0 → Exact file x
  pub cleared : (x.number ≡ 0 → ⊥) → Cleared x
  pub answers : (unit : List ℕ) → continued file unit x ≡ message_of t unit file

pub record Locates (ca ioa : ℕ) (plan file : List ℕ) (x : LocatedSaid) : Type 0 where
  pub stands : x.number ≡ 0 → Stands file x
  pub exact : x.number ≡ 0 → Exact file x
  pub cleared : (x.number ≡ 0 → ⊥) → Cleared x
  pub answers : continued file (take x.size x.unit) x ≡ read_of ca ioa plan file

-- ---- refusals 7 to 10: what is judged of the values

-- what stands at a layout's places: its row, its fields, and what was read of them
pub record Filling (l : Layout) (file : List ℕ) (row : Span) (places : List Span) (bad : ℕ) (cells : List Cell) (gradients : List Triple) : Type 0 where
  pub ordered : row.from ≤ row.to
  pub inside : row.to ≤ length file
  pub placed : Placed (size_of l) file places
  pub filled : record { bad = bad; cells = cells } ≡ filled_of (kinds_of l) (column_at l file places)
  pub triples : gradients ≡ triples_of l (column_at l file places)

-- a refusal's number and detail, or 0 and 0
pub record Verdict : Type 0 where
  pub number : ℕ
  pub detail : ℕ

-- refusals 8 to 10, by the lowest broken rule, and whether the unit and the row are the file's own
unfoldable pub verdict : ℕ → Bool → Bool → Verdict
verdict broken unit row = record { number = cond (ltb 0 broken) 8 (cond unit (cond row 0 10) 9); detail = broken }

-- the answer of what was judged on a column: its refusal, or the record with these cells and triples
unfoldable pub finished : Layout → List (List ℕ) → ℕ → ℕ → List Cell → List Triple → Answer
finished l col n d cells gradients = cond (eqb n 0) (accepted (record_with l col cells gradients)) (refused n d)

-- what is judged is refusals 7 to 10 of a unit and a row
abbrev pub Judges : Layout → List ℕ → List ℕ → List (List ℕ) → ℕ → ℕ → List Cell → List Triple → Type 0
Judges l unit row col n d cells gradients = finished l col n d cells gradients ≡ answer (valued l unit row col) (column_record l col)

pub record Values (l : Layout) (unit file : List ℕ) (row : Span) (places : List Span) (x : ReadingSaid) : Type 0 where
  pub layout_is : x.layout ≡ l
  pub row_is : x.row ≡ row
  pub places_are : x.places ≡ places
  pub judges : Judges l unit (part_of file row) (column_at l file places) x.number x.detail x.cells x.gradients

-- ---- all of them

unfoldable pub concluded : List ℕ → ReadingSaid → Answer
concluded file x = finished x.layout (column_at x.layout file x.places) x.number x.detail x.cells x.gradients

-- the bit of mFRR's `Tipo Comando`, in a CB file
abbrev pub is_mfrr : MessageType → ℕ → Bool
is_mfrr Cb seen = has seen (tipo_comando_no - 1)
is_mfrr Rc seen = false
is_mfrr Mg seen = false
is_mfrr Eb seen = false
is_mfrr Lb seen = false
is_mfrr Sr seen = false
is_mfrr Vq seen = false
is_mfrr Ri seen = false
is_mfrr Qr seen = false
