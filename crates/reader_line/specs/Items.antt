-- What one line of a file is to the reader: a separator, the row, or a field's value at a place.
use Rattle.std.specs.Prelude.{ℕ, ◌+◌, ◌-◌, ◌≤◌, eqb, leb, length, get_or, take, drop, Bool, true, false, ◌&&◌, ◌||◌, cond, List, [], ◌∷◌, ◌++◌, ◌≡◌}
use Rattle.reader_line.specs.declared.Expected.{Expected}
use Rattle.reader_line.specs.declared.Item.{Item}
use Rattle.layout_label.specs.Labels.{padded}
use Rattle.layout.specs.Layouts.{labels_of, label_at, layout_of}
use Rattle.layout.specs.declared.Layout.TheVariants.{Mfrr}
use Rattle.text_lines.specs.Entries.{place_of}
use Rattle.text_lines.specs.Lines.{is_sep}
use Rattle.reader_accent.specs.Accents.{accents_of}
use Rattle.text_lines.specs.Places.{no_span, trimmed_at, value_span, line_run}
use Rattle.text_lines.specs.Spellings.{Spelling}
use Rattle.text_lines.specs.Spots.{field_in}
use Rattle.text_lines.specs.declared.Span.{Span}
use Rattle.value_name.specs.declared.MessageType.{MessageType}
use Rattle.value_name.specs.declared.MessageType.TheVariants.{Cb, Rc, Mg, Eb, Lb, Sr, Vq, Ri, Qr}
use Rattle.text.specs.Bytes.{is, skip, starts, is_blank, trim}

-- the labels of a type's layout; of CB the market layout's
abbrev pub first_labels : MessageType → List (List ℕ)
first_labels t = labels_of (layout_of t)

-- the labels of the other layout of CB: none of any other type
abbrev pub second_labels : MessageType → List (List ℕ)
second_labels Cb = labels_of Mfrr
second_labels Rc = []
second_labels Mg = []
second_labels Eb = []
second_labels Lb = []
second_labels Sr = []
second_labels Vq = []
second_labels Ri = []
second_labels Qr = []

-- ---- a line that begins with a label, blanks and '=' (61): where its value may begin, 0 where it does not

abbrev pub after_label : List ℕ → List ℕ → List ℕ
after_label label s = skip is_blank (drop (length label) s)

unfoldable pub head_of : List ℕ → List ℕ → ℕ
head_of label s =
    cond (leb 1 (length label) && starts label s && is 61 (get_or (after_label label s) 0 0)) (length s - length (after_label label s) + 1) 0

-- a text that begins with a label as the written form prints it: padded, and with '=' after it
unfoldable pub is_printed : List ℕ → List ℕ → Bool
is_printed label s = leb 1 (length label) && starts (padded label ++ 61 ∷ []) s

-- a line that is empty or begins with an asterisk (42)
unfoldable pub is_foreign : List ℕ → Bool
is_foreign [] = true
is_foreign (b ∷ s) = is 42 b

-- the fields of a label that is expected are right wherever there is such a label: it has one
pub record IsExpected (t : MessageType) (e : Expected) : Type 0 where
  pub first : 1 ≤ length (label_at e.layout e.field) → e.first ≡ place_of (first_labels t) (label_at e.layout e.field)
  pub second : 1 ≤ length (label_at e.layout e.field) → e.second ≡ place_of (second_labels t) (label_at e.layout e.field)
  pub some_field : 1 ≤ length (label_at e.layout e.field) → 1 ≤ e.first + e.second

-- ---- what a line is

abbrev pub item : ℕ → Bool → ℕ → ℕ → Span → Item
item end s f g p = record { end = end; separator = s; first = f; second = g; value = p }

-- the bytes of the line that begins at a place: those that can be printed, and the accent of a label that it opens with
abbrev pub line_from : List Spelling → List ℕ → ℕ → List ℕ
line_from sp file at = take (line_run sp (drop at file)) (drop at file)

-- a line with the fields a and b: the place of its value, or nowhere where it has none
unfoldable pub fielded : ℕ → ℕ → ℕ → ℕ → List ℕ → Item
fielded end a b at l = item end false a b (cond (eqb a 0 && eqb b 0) no_span (value_span at l))

-- the line of these bytes at a place, below n separators: a separator, or the row, which is the line below one; else a field's line or none
unfoldable pub item_in : List Spelling → MessageType → ℕ → ℕ → List ℕ → Item
item_in sp t n at l =
    cond (is_sep (trim l) || eqb n 1) (item (at + length l) (is_sep (trim l)) 0 0 (trimmed_at at l))
    (fielded (at + length l) (field_in sp (first_labels t) l) (field_in sp (second_labels t) l) at l)

-- THE DEFINITION: what the line at a place of a file is
unfoldable pub item_of : MessageType → List ℕ → ℕ → ℕ → Item
item_of t file at n = item_in (accents_of t) t n at (line_from (accents_of t) file at)
