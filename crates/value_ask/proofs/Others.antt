-- What a question says of the values of every other shape, the arm `_` of a match on a value; and that the blank alone is not filled. Assumes nothing.
use Prim.Native.Nat.{ℕ, ◌≤◌}
use Rattle.value_ask.specs.Values.{is_filled, number_in, count_in, size_in, instant_in, amount_in, word_number, triples_in, list_size, not_negative}
use Rattle.value.specs.contracts.Value.{the_type}
use Rattle.value.specs.declared.Value.{Value}
use Rattle.value.specs.declared.Value.TheVariants.{Blank, Id, Unit, When, Amount, Count, Reason, Note, Word, List as Numbers, Triples, Voltage, Regulator}
use Rattle.value.specs.declared.Value.TheVariants.{Change, Reactive}
use denote.Enum.Declared.{tag_of}
use lib.IntN.{pos}
use mathlib.Core.Bool.{true, false, true≢false}
use mathlib.Core.List.{List, [], ◌∷◌}
use mathlib.Core.Path.{◌≡◌, refl}
use native.Mathlib.Omega.{arith}
use types.Run.{OneOf, miss}

-- the places of the variants, all but those that are asked for
abbrev not_blank : List ℕ
not_blank = 1 ∷ 2 ∷ 3 ∷ 4 ∷ 5 ∷ 6 ∷ 7 ∷ 8 ∷ 9 ∷ 10 ∷ 11 ∷ 12 ∷ 13 ∷ 14 ∷ []

abbrev not_id : List ℕ
not_id = 0 ∷ 2 ∷ 3 ∷ 4 ∷ 5 ∷ 6 ∷ 7 ∷ 8 ∷ 9 ∷ 10 ∷ 11 ∷ 12 ∷ 13 ∷ 14 ∷ []

abbrev not_text : List ℕ
not_text = 0 ∷ 1 ∷ 3 ∷ 4 ∷ 5 ∷ 8 ∷ 9 ∷ 10 ∷ 11 ∷ 12 ∷ 13 ∷ 14 ∷ []

abbrev not_when : List ℕ
not_when = 0 ∷ 1 ∷ 2 ∷ 4 ∷ 5 ∷ 6 ∷ 7 ∷ 8 ∷ 9 ∷ 10 ∷ 11 ∷ 12 ∷ 13 ∷ 14 ∷ []

abbrev not_amount : List ℕ
not_amount = 0 ∷ 1 ∷ 2 ∷ 3 ∷ 5 ∷ 6 ∷ 7 ∷ 8 ∷ 9 ∷ 10 ∷ 11 ∷ 12 ∷ 13 ∷ 14 ∷ []

abbrev not_count : List ℕ
not_count = 0 ∷ 1 ∷ 2 ∷ 3 ∷ 4 ∷ 6 ∷ 7 ∷ 8 ∷ 9 ∷ 10 ∷ 11 ∷ 12 ∷ 13 ∷ 14 ∷ []

abbrev not_word : List ℕ
not_word = 0 ∷ 1 ∷ 2 ∷ 3 ∷ 4 ∷ 5 ∷ 6 ∷ 7 ∷ 9 ∷ 10 ∷ 11 ∷ 12 ∷ 13 ∷ 14 ∷ []

abbrev not_triples : List ℕ
not_triples = 0 ∷ 1 ∷ 2 ∷ 3 ∷ 4 ∷ 5 ∷ 6 ∷ 7 ∷ 8 ∷ 9 ∷ 11 ∷ 12 ∷ 13 ∷ 14 ∷ []

abbrev not_numbers : List ℕ
not_numbers = 0 ∷ 1 ∷ 2 ∷ 3 ∷ 4 ∷ 5 ∷ 6 ∷ 7 ∷ 8 ∷ 10 ∷ 11 ∷ 12 ∷ 13 ∷ 14 ∷ []

-- the blank is not filled, and any other value is
pub filled_blank : (v : Value) → v ≡ Blank → false ≡ is_filled v
filled_blank v e = rw e

pub filled_other : (v : Value) → OneOf not_blank (tag_of the_type v) → true ≡ is_filled v
filled_other Blank h = absurd (miss not_blank 0 tt h)
filled_other (Id n) h = refl
filled_other (Unit n) h = refl
filled_other (When d) h = refl
filled_other (Amount v) h = refl
filled_other (Count n) h = refl
filled_other (Reason n) h = refl
filled_other (Note n) h = refl
filled_other (Word w) h = refl
filled_other (Numbers x) h = refl
filled_other (Triples n) h = refl
filled_other (Voltage v) h = refl
filled_other (Regulator v) h = refl
filled_other (Change v) h = refl
filled_other (Reactive v) h = refl

-- and the blank is the one value that is not
pub blank_is : (v : Value) → is_filled v ≡ false → v ≡ Blank
blank_is Blank e = refl
blank_is (Id n) e = absurd (true≢false e)
blank_is (Unit n) e = absurd (true≢false e)
blank_is (When d) e = absurd (true≢false e)
blank_is (Amount v) e = absurd (true≢false e)
blank_is (Count n) e = absurd (true≢false e)
blank_is (Reason n) e = absurd (true≢false e)
blank_is (Note n) e = absurd (true≢false e)
blank_is (Word w) e = absurd (true≢false e)
blank_is (Numbers x) e = absurd (true≢false e)
blank_is (Triples n) e = absurd (true≢false e)
blank_is (Voltage v) e = absurd (true≢false e)
blank_is (Regulator v) e = absurd (true≢false e)
blank_is (Change v) e = absurd (true≢false e)
blank_is (Reactive v) e = absurd (true≢false e)

-- any value but an identifier has no number
pub number_other : (v : Value) → OneOf not_id (tag_of the_type v) → 0 ≡ number_in v
number_other Blank h = refl
number_other (Id n) h = absurd (miss not_id 1 tt h)
number_other (Unit n) h = refl
number_other (When d) h = refl
number_other (Amount v) h = refl
number_other (Count n) h = refl
number_other (Reason n) h = refl
number_other (Note n) h = refl
number_other (Word w) h = refl
number_other (Numbers x) h = refl
number_other (Triples n) h = refl
number_other (Voltage v) h = refl
number_other (Regulator v) h = refl
number_other (Change v) h = refl
number_other (Reactive v) h = refl

-- any value but a sequence has none
pub count_other : (v : Value) → OneOf not_count (tag_of the_type v) → 0 ≡ count_in v
count_other Blank h = refl
count_other (Id n) h = refl
count_other (Unit n) h = refl
count_other (When d) h = refl
count_other (Amount v) h = refl
count_other (Count n) h = absurd (miss not_count 5 tt h)
count_other (Reason n) h = refl
count_other (Note n) h = refl
count_other (Word w) h = refl
count_other (Numbers x) h = refl
count_other (Triples n) h = refl
count_other (Voltage v) h = refl
count_other (Regulator v) h = refl
count_other (Change v) h = refl
count_other (Reactive v) h = refl

-- any value but a text has no size
pub size_other : (v : Value) → OneOf not_text (tag_of the_type v) → 0 ≡ size_in v
size_other Blank h = refl
size_other (Id n) h = refl
size_other (Unit n) h = absurd (miss not_text 2 tt h)
size_other (When d) h = refl
size_other (Amount v) h = refl
size_other (Count n) h = refl
size_other (Reason n) h = absurd (miss not_text 6 tt h)
size_other (Note n) h = absurd (miss not_text 7 tt h)
size_other (Word w) h = refl
size_other (Numbers x) h = refl
size_other (Triples n) h = refl
size_other (Voltage v) h = refl
size_other (Regulator v) h = refl
size_other (Change v) h = refl
size_other (Reactive v) h = refl

-- any value but a date has no instant
pub instant_other : (v : Value) → OneOf not_when (tag_of the_type v) → 0 ≡ instant_in v
instant_other Blank h = refl
instant_other (Id n) h = refl
instant_other (Unit n) h = refl
instant_other (When d) h = absurd (miss not_when 3 tt h)
instant_other (Amount v) h = refl
instant_other (Count n) h = refl
instant_other (Reason n) h = refl
instant_other (Note n) h = refl
instant_other (Word w) h = refl
instant_other (Numbers x) h = refl
instant_other (Triples n) h = refl
instant_other (Voltage v) h = refl
instant_other (Regulator v) h = refl
instant_other (Change v) h = refl
instant_other (Reactive v) h = refl

-- any value but an amount has none
pub amount_other : (v : Value) → OneOf not_amount (tag_of the_type v) → pos 0 ≡ amount_in v
amount_other Blank h = refl
amount_other (Id n) h = refl
amount_other (Unit n) h = refl
amount_other (When d) h = refl
amount_other (Amount v) h = absurd (miss not_amount 4 tt h)
amount_other (Count n) h = refl
amount_other (Reason n) h = refl
amount_other (Note n) h = refl
amount_other (Word w) h = refl
amount_other (Numbers x) h = refl
amount_other (Triples n) h = refl
amount_other (Voltage v) h = refl
amount_other (Regulator v) h = refl
amount_other (Change v) h = refl
amount_other (Reactive v) h = refl

-- any value but a word has no number
pub word_other : (v : Value) → OneOf not_word (tag_of the_type v) → 0 ≡ word_number v
word_other Blank h = refl
word_other (Id n) h = refl
word_other (Unit n) h = refl
word_other (When d) h = refl
word_other (Amount v) h = refl
word_other (Count n) h = refl
word_other (Reason n) h = refl
word_other (Note n) h = refl
word_other (Word w) h = absurd (miss not_word 8 tt h)
word_other (Numbers x) h = refl
word_other (Triples n) h = refl
word_other (Voltage v) h = refl
word_other (Regulator v) h = refl
word_other (Change v) h = refl
word_other (Reactive v) h = refl

-- any value but triples has none
pub triples_other : (v : Value) → OneOf not_triples (tag_of the_type v) → 0 ≡ triples_in v
triples_other Blank h = refl
triples_other (Id n) h = refl
triples_other (Unit n) h = refl
triples_other (When d) h = refl
triples_other (Amount v) h = refl
triples_other (Count n) h = refl
triples_other (Reason n) h = refl
triples_other (Note n) h = refl
triples_other (Word w) h = refl
triples_other (Numbers x) h = refl
triples_other (Triples n) h = absurd (miss not_triples 10 tt h)
triples_other (Voltage v) h = refl
triples_other (Regulator v) h = refl
triples_other (Change v) h = refl
triples_other (Reactive v) h = refl

-- any value but a list is not two numbers
pub negative_other : (v : Value) → OneOf not_numbers (tag_of the_type v) → false ≡ not_negative v
negative_other Blank h = refl
negative_other (Id n) h = refl
negative_other (Unit n) h = refl
negative_other (When d) h = refl
negative_other (Amount v) h = refl
negative_other (Count n) h = refl
negative_other (Reason n) h = refl
negative_other (Note n) h = refl
negative_other (Word w) h = refl
negative_other (Numbers x) h = absurd (miss not_numbers 9 tt h)
negative_other (Triples n) h = refl
negative_other (Voltage v) h = refl
negative_other (Regulator v) h = refl
negative_other (Change v) h = refl
negative_other (Reactive v) h = refl

-- any value but a list has no numbers
pub list_other : (v : Value) → OneOf not_numbers (tag_of the_type v) → 0 ≡ list_size v
list_other Blank h = refl
list_other (Id n) h = refl
list_other (Unit n) h = refl
list_other (When d) h = refl
list_other (Amount v) h = refl
list_other (Count n) h = refl
list_other (Reason n) h = refl
list_other (Note n) h = refl
list_other (Word w) h = refl
list_other (Numbers x) h = absurd (miss not_numbers 9 tt h)
list_other (Triples n) h = refl
list_other (Voltage v) h = refl
list_other (Regulator v) h = refl
list_other (Change v) h = refl
list_other (Reactive v) h = refl

-- what has a number in its list is filled
pub sized_filled : (v : Value) → 1 ≤ list_size v → is_filled v ≡ true
sized_filled Blank h = absurd (omega (arith, h))
sized_filled (Id n) h = refl
sized_filled (Unit n) h = refl
sized_filled (When d) h = refl
sized_filled (Amount v) h = refl
sized_filled (Count n) h = refl
sized_filled (Reason n) h = refl
sized_filled (Note n) h = refl
sized_filled (Word w) h = refl
sized_filled (Numbers x) h = refl
sized_filled (Triples n) h = refl
sized_filled (Voltage v) h = refl
sized_filled (Regulator v) h = refl
sized_filled (Change v) h = refl
sized_filled (Reactive v) h = refl
