-- A file whose values stand as they are written: its own texts can be put in their place. No answer of the normaliser depends on it.
use Rattle.std.specs.Prelude.{ℕ, ◌≤◌, length, Bool, true, ◌&&◌, List, [], ◌∷◌}
use Rattle.layout.specs.Layouts.{size_of}
use Rattle.layout.specs.Rows.{row_of}
use Rattle.layout.specs.declared.Layout.{Layout}
use Rattle.text_lines.specs.Places.{HoldsText, Placed, column_in}
use Rattle.text_lines.specs.declared.Span.{Span}
use Rattle.value.specs.Texts.{is_written}
use Rattle.value.specs.declared.Value.{Value}
use Rattle.writer_form.specs.Written.{written_of}

-- each value's text is the value's own
unfoldable pub all_written : List Value → List (List ℕ) → Bool
all_written [] ss = true
all_written (v ∷ vs) [] = true
all_written (v ∷ vs) (s ∷ ss) = is_written v s && all_written vs ss

-- what is asked of a file to put its texts: its fields and its row have their places, and what is written is no longer than a file may be
pub record Copies (l : Layout) (file : List ℕ) (row : Span) (places : List Span) : Type 0 where
  pub placed : Placed (size_of l) file places
  pub not_long : length file ≤ 8192
  pub own_row : HoldsText file row (row_of l (column_in (size_of l) file places))
  pub small : length (written_of l (column_in (size_of l) file places)) ≤ 8192
