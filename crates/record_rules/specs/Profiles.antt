-- The six h lines of a CB market message. A.34, as document 02, A5 reads it: fewer than 24 values start from h6 going backwards.
use Rattle.std.specs.Prelude.{ℕ, ◌+◌, ◌≤◌, ◌<◌, true, false, List, ◌≡◌}
use Rattle.layout.specs.FieldNumbers.{h1_no}
use Rattle.record.specs.Records.{field_of}
use Rattle.record.specs.declared.Cell.{Cell}
use Rattle.value.specs.declared.Value.{Value}
use Rattle.value_ask.specs.Values.{is_filled, list_size}

-- the lines by their place: h1 has 0, h6 has 5
abbrev pub h_line : List Cell → ℕ → Value
h_line cells k = field_of cells (h1_no + k)

abbrev pub OneToFour : Value → Type 0
OneToFour v = (1 ≤ list_size v) × (list_size v ≤ 4)

-- every filled one is a list of one to four
abbrev pub HLists : List Cell → Type 0
HLists cells = (k : ℕ) → k < 6 → is_filled (h_line cells k) ≡ true → OneToFour (h_line cells k)

-- THE DEFINITION: none, some or all are blank from the top, the next holds one to four, and all below hold four
pub record Profile (cells : List Cell) : Type 0 where
  pub blanks : ℕ
  pub at_most_all : blanks ≤ 6
  pub blank_above : (k : ℕ) → k < blanks → is_filled (h_line cells k) ≡ false
  pub first_filled : blanks < 6 → OneToFour (h_line cells blanks)
  pub full_below : (k : ℕ) → blanks < k → k < 6 → list_size (h_line cells k) ≡ 4
