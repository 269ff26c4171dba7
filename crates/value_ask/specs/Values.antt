-- What a rule asks of a value: one question for each shape, with what is said where the value is of another.
use Rattle.std.specs.Prelude.{ℕ, eqb, ℤ, pos, Bool, true, false, ◌&&◌}
use Rattle.value_date.specs.Date.{instant_of}
use Rattle.value_list.specs.declared.Numbers.{Numbers as Few}
use Rattle.value.specs.declared.Value.{Value}
use Rattle.value.specs.declared.Value.TheVariants.{Blank, Id, Unit, When, Amount, Count, Reason, Note, Word, List as Numbers, Triples, Voltage, Regulator}
use Rattle.value.specs.declared.Value.TheVariants.{Change, Reactive}
use Rattle.std.specs.Int.Signed.{le_z}

abbrev pub is_filled : Value → Bool
is_filled Blank = false
is_filled (Id n) = true
is_filled (Unit n) = true
is_filled (When d) = true
is_filled (Amount v) = true
is_filled (Count n) = true
is_filled (Reason n) = true
is_filled (Note n) = true
is_filled (Word w) = true
is_filled (Numbers x) = true
is_filled (Triples n) = true
is_filled (Voltage v) = true
is_filled (Regulator v) = true
is_filled (Change v) = true
is_filled (Reactive v) = true

-- the number of an identifier; 0 of any other value
abbrev pub number_in : Value → ℕ
number_in Blank = 0
number_in (Id n) = n
number_in (Unit n) = 0
number_in (When d) = 0
number_in (Amount v) = 0
number_in (Count n) = 0
number_in (Reason n) = 0
number_in (Note n) = 0
number_in (Word w) = 0
number_in (Numbers x) = 0
number_in (Triples n) = 0
number_in (Voltage v) = 0
number_in (Regulator v) = 0
number_in (Change v) = 0
number_in (Reactive v) = 0

-- the number of a sequence; 0 of any other value
abbrev pub count_in : Value → ℕ
count_in Blank = 0
count_in (Id n) = 0
count_in (Unit n) = 0
count_in (When d) = 0
count_in (Amount v) = 0
count_in (Count n) = n
count_in (Reason n) = 0
count_in (Note n) = 0
count_in (Word w) = 0
count_in (Numbers x) = 0
count_in (Triples n) = 0
count_in (Voltage v) = 0
count_in (Regulator v) = 0
count_in (Change v) = 0
count_in (Reactive v) = 0

-- how many bytes of its room a text has; 0 of any other value
abbrev pub size_in : Value → ℕ
size_in Blank = 0
size_in (Id n) = 0
size_in (Unit n) = n
size_in (When d) = 0
size_in (Amount v) = 0
size_in (Count n) = 0
size_in (Reason n) = n
size_in (Note n) = n
size_in (Word w) = 0
size_in (Numbers x) = 0
size_in (Triples n) = 0
size_in (Voltage v) = 0
size_in (Regulator v) = 0
size_in (Change v) = 0
size_in (Reactive v) = 0

-- a date's instant; 0 of any other value
abbrev pub instant_in : Value → ℕ
instant_in Blank = 0
instant_in (Id n) = 0
instant_in (Unit n) = 0
instant_in (When d) = instant_of d
instant_in (Amount v) = 0
instant_in (Count n) = 0
instant_in (Reason n) = 0
instant_in (Note n) = 0
instant_in (Word w) = 0
instant_in (Numbers x) = 0
instant_in (Triples n) = 0
instant_in (Voltage v) = 0
instant_in (Regulator v) = 0
instant_in (Change v) = 0
instant_in (Reactive v) = 0

-- a number in thousandths; 0 of any other value
abbrev pub amount_in : Value → ℤ
amount_in Blank = pos 0
amount_in (Id n) = pos 0
amount_in (Unit n) = pos 0
amount_in (When d) = pos 0
amount_in (Amount v) = v
amount_in (Count n) = pos 0
amount_in (Reason n) = pos 0
amount_in (Note n) = pos 0
amount_in (Word w) = pos 0
amount_in (Numbers x) = pos 0
amount_in (Triples n) = pos 0
amount_in (Voltage v) = pos 0
amount_in (Regulator v) = pos 0
amount_in (Change v) = pos 0
amount_in (Reactive v) = pos 0

-- a word's number; 0, which no word has, of any other value
abbrev pub word_number : Value → ℕ
word_number Blank = 0
word_number (Id n) = 0
word_number (Unit n) = 0
word_number (When d) = 0
word_number (Amount v) = 0
word_number (Count n) = 0
word_number (Reason n) = 0
word_number (Note n) = 0
word_number (Word w) = w
word_number (Numbers x) = 0
word_number (Triples n) = 0
word_number (Voltage v) = 0
word_number (Regulator v) = 0
word_number (Change v) = 0
word_number (Reactive v) = 0

abbrev pub is_word : ℕ → Value → Bool
is_word w v = eqb (word_number v) w

-- how many triples; 0 of any other value
abbrev pub triples_in : Value → ℕ
triples_in Blank = 0
triples_in (Id n) = 0
triples_in (Unit n) = 0
triples_in (When d) = 0
triples_in (Amount v) = 0
triples_in (Count n) = 0
triples_in (Reason n) = 0
triples_in (Note n) = 0
triples_in (Word w) = 0
triples_in (Numbers x) = 0
triples_in (Triples n) = n
triples_in (Voltage v) = 0
triples_in (Regulator v) = 0
triples_in (Change v) = 0
triples_in (Reactive v) = 0

-- how many numbers a list has; 0 of any other value
abbrev pub list_size : Value → ℕ
list_size Blank = 0
list_size (Id n) = 0
list_size (Unit n) = 0
list_size (When d) = 0
list_size (Amount v) = 0
list_size (Count n) = 0
list_size (Reason n) = 0
list_size (Note n) = 0
list_size (Word w) = 0
list_size (Numbers x) = x.count
list_size (Triples n) = 0
list_size (Voltage v) = 0
list_size (Regulator v) = 0
list_size (Change v) = 0
list_size (Reactive v) = 0

-- two numbers, neither negative
abbrev pub none_below : Few → Bool
none_below x = le_z (pos 0) x.first && le_z (pos 0) x.second

abbrev pub not_negative : Value → Bool
not_negative Blank = false
not_negative (Id n) = false
not_negative (Unit n) = false
not_negative (When d) = false
not_negative (Amount v) = false
not_negative (Count n) = false
not_negative (Reason n) = false
not_negative (Note n) = false
not_negative (Word w) = false
not_negative (Numbers x) = none_below x
not_negative (Triples n) = false
not_negative (Voltage v) = false
not_negative (Regulator v) = false
not_negative (Change v) = false
not_negative (Reactive v) = false
