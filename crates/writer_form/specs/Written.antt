-- The written form of a message. Document 01, "Written form": banner lines, an empty line, each label padded to 36 bytes, `=`, and, unless the value
-- is blank, a space and the value; then `+++++`, row, `+++++`. LF after each line. Bytes: 10 LF, 32 the space, 43 '+', 61 '='.
use Rattle.std.specs.Prelude.{ℕ, take, List, [], ◌∷◌, ◌++◌, map}
use Rattle.layout_label.specs.Labels.{padded}
use Rattle.layout.specs.Banners.{banner_of}
use Rattle.layout.specs.Layouts.{labels_of, size_of, type_of}
use Rattle.layout.specs.Rows.{row_of}
use Rattle.layout.specs.declared.Layout.{Layout}
use Rattle.record.specs.Records.{rooms_of}
use Rattle.record.specs.declared.Cell.{Cell}
use Rattle.record.specs.declared.Record.{Record}
use Rattle.text.specs.Bytes.{bytes}
use Rattle.value.specs.Texts.{Rooms, value_text}
use Rattle.value.specs.declared.Value.{Value}

-- lines, each ended by LF
unfoldable pub lines_text : List (List ℕ) → List ℕ
lines_text [] = []
lines_text (s ∷ ss) = s ++ (10 ∷ lines_text ss)

-- ---- parameter lines

-- what stands after '=': nothing for a blank value, else a space and the value
unfoldable pub after_equals : List ℕ → List ℕ
after_equals [] = []
after_equals (b ∷ s) = 32 ∷ b ∷ s

unfoldable pub param_line : List ℕ → List ℕ → List ℕ
param_line label value = padded label ++ (61 ∷ after_equals value)

-- a line for each label, with its value
unfoldable pub param_lines : List (List ℕ) → List (List ℕ) → List (List ℕ)
param_lines [] col = []
param_lines (l ∷ ls) [] = []
param_lines (l ∷ ls) (s ∷ col) = param_line l s ∷ param_lines ls col

-- ---- the row between its separators

abbrev pub plus_line : List ℕ
plus_line = bytes "+++++"

unfoldable pub block : List ℕ → List (List ℕ)
block row = plus_line ∷ row ∷ plus_line ∷ []

-- THE DEFINITION: a layout's column of texts as a file
unfoldable pub written_of : Layout → List (List ℕ) → List ℕ
written_of l col = banner_of l ++ (lines_text ([] ∷ param_lines (labels_of l) col) ++ lines_text (block (row_of l col)))

-- ---- of a record

-- the values of a layout's fields
unfoldable pub values_in : Layout → List Cell → List Value
values_in l cells = map (λ (c : Cell). c.value) (take (size_of l) cells)

unfoldable pub message_text : Layout → Rooms → List Cell → List ℕ
message_text l r cells = written_of l (map (value_text (type_of l) r) (values_in l cells))

-- THE DEFINITION: the file of a record
unfoldable pub file_of : Record → List ℕ
file_of r = message_text r.layout (rooms_of r) r.cells
