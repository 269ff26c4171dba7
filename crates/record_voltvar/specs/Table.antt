-- Rule 8: the eleven rows of the table in Annex A.34, 2.9, its words read as the layout's constants (value_word/specs/Names.antt); `no_word` is a blank.
use Rattle.std.specs.Prelude.{ℕ, eqb, leb, Bool, ◌&&◌, ◌||◌, cond, List, [], ◌∷◌}
use Rattle.layout.specs.FieldNumbers.{state_no, mode_no, regulation_no, voltage_no, regulator_no, change_no, reactive_no}
use Rattle.record.specs.Records.{field_of}
use Rattle.record.specs.declared.Cell.{Cell}
use Rattle.value_ask.specs.Values.{is_filled, word_number}
use Rattle.text.specs.Bytes.{any}
use Rattle.value.specs.declared.Value.{Value}
use Rattle.value_word.specs.Names.{no_word, w_i, w_e, w_rrt, w_rts, w_rat, w_man, w_profilo_memorizzato, w_vsrif, w_tensione_mt, w_potenza_reattiva}

-- what a setting is, and what a cell of the table asks of one: also a number or a word
abbrev pub blank : ℕ
blank = 0

abbrev pub a_number : ℕ
a_number = 1

abbrev pub a_word : ℕ
a_word = 2

abbrev pub either : ℕ
either = 3

-- state, mode and regulation; settings of voltage, regulator, change and reactive power
pub record Line : Type 0 where
  pub state : ℕ
  pub mode : ℕ
  pub regulation : ℕ
  pub voltage : ℕ
  pub regulator : ℕ
  pub change : ℕ
  pub reactive : ℕ

abbrev pub line : ℕ → ℕ → ℕ → ℕ → ℕ → ℕ → ℕ → Line
line s m g v r c q =
    record { state = s; mode = m; regulation = g; voltage = v; regulator = r; change = c; reactive = q }

unfoldable pub table : List Line
table =
    line w_i w_rrt no_word blank blank blank blank
    ∷ line w_i w_rts w_profilo_memorizzato blank blank blank blank
    ∷ line w_i w_rts w_vsrif either blank blank blank
    ∷ line no_word w_rts w_vsrif a_number blank blank blank
    ∷ line w_i w_rts w_vsrif a_word blank a_number blank
    ∷ line w_e w_rat w_tensione_mt blank either blank blank
    ∷ line no_word w_rat w_tensione_mt blank either blank blank
    ∷ line w_e w_rat w_tensione_mt blank a_word a_number blank
    ∷ line no_word w_rat w_tensione_mt blank a_word a_number blank
    ∷ line w_e w_man w_potenza_reattiva blank blank blank either
    ∷ line no_word w_man w_potenza_reattiva blank blank blank either
    ∷ []

unfoldable pub form_of : Value → ℕ
form_of v = cond (is_filled v) (cond (eqb (word_number v) no_word) a_number a_word) blank

-- the line of a message's values
abbrev pub line_in : Value → Value → Value → Value → Value → Value → Value → Line
line_in s m g v r c q = line (word_number s) (word_number m) (word_number g) (form_of v) (form_of r) (form_of c) (form_of q)

unfoldable pub volt_var_line : List Cell → Line
volt_var_line cells =
    line_in
    (field_of cells state_no)
    (field_of cells mode_no)
    (field_of cells regulation_no)
    (field_of cells voltage_no)
    (field_of cells regulator_no)
    (field_of cells change_no)
    (field_of cells reactive_no)

abbrev pub takes : ℕ → ℕ → Bool
takes asked is = eqb is asked || (eqb asked either && leb a_number is)

unfoldable pub meets : Line → Line → Bool
meets l row =
    eqb l.state row.state
    && eqb l.mode row.mode
    && eqb l.regulation row.regulation
    && takes row.voltage l.voltage
    && takes row.regulator l.regulator
    && takes row.change l.change
    && takes row.reactive l.reactive

-- a line of the table
abbrev pub is_row : Line → Bool
is_row l = any (meets l) table

unfoldable pub in_table : List Cell → Bool
in_table cells = is_row (volt_var_line cells)
