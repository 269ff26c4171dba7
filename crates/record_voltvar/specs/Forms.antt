-- What the code's lines say in the table's numbers: a form by its number.
use Rattle.std.specs.Prelude.{ℕ}
use Rattle.record_voltvar.specs.Table.{blank, a_number, a_word, either, line, Line}
use Rattle.record_voltvar.specs.declared.Form.TheVariants.{Blank, Number, Word, Either}
use Rattle.record_voltvar.specs.declared.Form.{Form}
use Rattle.record_voltvar.specs.declared.Line.{Line as Held}

abbrev pub form_number : Form → ℕ
form_number Blank = blank
form_number Number = a_number
form_number Word = a_word
form_number Either = either

abbrev pub line_by : Held → Line
line_by l =
    line l.state l.mode l.regulation (form_number l.voltage) (form_number l.regulator) (form_number l.change) (form_number l.reactive)
