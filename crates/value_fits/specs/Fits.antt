-- Whether a kind may hold a value, as a test: the crate's theorem says that it holds exactly where value/specs/Valid.antt's `Holds` does. A value is
-- asked whether its shape has the number that it wants, so that no question has a line for each value and each shape.
use Rattle.std.specs.Prelude.{ℕ, ◌^◌, eqb, leb, ltb, ℤ, nat_abs, length, take, drop, Bool, false, not, ◌&&◌, ◌||◌, List}
use Rattle.value_bounds.specs.Bounds.{is_amount}
use Rattle.value_ask.specs.Values.{is_filled}
use Rattle.value_date.specs.Date.{is_real}
use Rattle.value_list.specs.declared.Numbers.{Numbers as Few}
use Rattle.value_list.specs.declared.Triple.{Triple}
use Rattle.value_name.specs.Names.{is_unit}
use Rattle.value_name.specs.declared.MessageType.{MessageType}
use Rattle.value_name.specs.declared.MessageType.TheVariants.{Cb, Rc, Mg, Eb, Lb, Sr, Vq, Ri, Qr}
use Rattle.text.specs.Bytes.{within, all, tidy}
use Rattle.value.specs.Texts.{Rooms}
use Rattle.value.specs.declared.Kind.{Kind}
use Rattle.value.specs.declared.Shape.{Shape}
use Rattle.value.specs.declared.Shape.TheVariants.{IsId, IsUnit, IsWhen, IsAmount, IsCount, IsReason, IsNote, IsWord, IsProfile, IsBands, IsTriples, IsVoltage}
use Rattle.value.specs.declared.Shape.TheVariants.{IsRegulator, IsChange, IsReactive}
use Rattle.value.specs.declared.Value.{Value}
use Rattle.value.specs.declared.Value.TheVariants.{Blank, Id, Unit, When, Amount, Count, Reason, Note, Word, List as Numbers, Triples, Voltage, Regulator}
use Rattle.value.specs.declared.Value.TheVariants.{Change, Reactive}
use Rattle.value_word.specs.Names.{w_v_max, w_v_min, w_q_zero, w_max_sottoeccitazione, w_fino_a_pmax}

-- ---- what a shape takes

-- an identifier's shape has the number of its type, from 21; every other shape has a number below
abbrev pub type_number : MessageType → ℕ
type_number Cb = 21
type_number Rc = 22
type_number Mg = 23
type_number Eb = 24
type_number Lb = 25
type_number Sr = 26
type_number Vq = 27
type_number Ri = 28
type_number Qr = 29

abbrev pub shape_number : Shape → ℕ
shape_number (IsId t) = type_number t
shape_number IsUnit = 1
shape_number IsWhen = 2
shape_number IsAmount = 3
shape_number IsCount = 4
shape_number IsReason = 5
shape_number IsNote = 6
shape_number (IsWord first last) = 7
shape_number IsProfile = 8
shape_number IsBands = 9
shape_number IsTriples = 10
shape_number IsVoltage = 11
shape_number IsRegulator = 12
shape_number IsChange = 13
shape_number IsReactive = 14

-- the words that it takes, from the first to the last: none, which is from 1 to 0, where it takes no word
abbrev pub first_word : Shape → ℕ
first_word (IsId t) = 1
first_word IsUnit = 1
first_word IsWhen = 1
first_word IsAmount = 1
first_word IsCount = 1
first_word IsReason = 1
first_word IsNote = 1
first_word (IsWord first last) = first
first_word IsProfile = 1
first_word IsBands = 1
first_word IsTriples = 1
first_word IsVoltage = w_v_max
first_word IsRegulator = w_v_max
first_word IsChange = 1
first_word IsReactive = w_q_zero

abbrev pub last_word : Shape → ℕ
last_word (IsId t) = 0
last_word IsUnit = 0
last_word IsWhen = 0
last_word IsAmount = 0
last_word IsCount = 0
last_word IsReason = 0
last_word IsNote = 0
last_word (IsWord first last) = last
last_word IsProfile = 0
last_word IsBands = 0
last_word IsTriples = 0
last_word IsVoltage = w_v_min
last_word IsRegulator = w_v_min
last_word IsChange = 0
last_word IsReactive = w_max_sottoeccitazione

-- how many numbers, from the fewest to the most: none, which is from 1 to 0, where it takes no list of them
abbrev pub numbers_fewest : Shape → ℕ
numbers_fewest (IsId t) = 1
numbers_fewest IsUnit = 1
numbers_fewest IsWhen = 1
numbers_fewest IsAmount = 1
numbers_fewest IsCount = 1
numbers_fewest IsReason = 1
numbers_fewest IsNote = 1
numbers_fewest (IsWord first last) = 1
numbers_fewest IsProfile = 1
numbers_fewest IsBands = 2
numbers_fewest IsTriples = 1
numbers_fewest IsVoltage = 1
numbers_fewest IsRegulator = 1
numbers_fewest IsChange = 1
numbers_fewest IsReactive = 1

abbrev pub numbers_most : Shape → ℕ
numbers_most (IsId t) = 0
numbers_most IsUnit = 0
numbers_most IsWhen = 0
numbers_most IsAmount = 0
numbers_most IsCount = 0
numbers_most IsReason = 0
numbers_most IsNote = 0
numbers_most (IsWord first last) = 0
numbers_most IsProfile = 4
numbers_most IsBands = 2
numbers_most IsTriples = 0
numbers_most IsVoltage = 0
numbers_most IsRegulator = 0
numbers_most IsChange = 0
numbers_most IsReactive = 0

unfoldable pub is_among : Shape → ℕ → Bool
is_among s w = leb 1 (first_word s) && leb (first_word s) w && leb w (last_word s) && leb (last_word s) w_fino_a_pmax

-- ---- lists of up to four

-- a number at the place i of a list of `count`: zero where the list has ended
unfoldable pub is_spare : ℕ → ℕ → ℤ → Bool
is_spare count i v = is_amount v && (ltb i count || eqb (nat_abs v) 0)

unfoldable pub are_listed : ℕ → ℕ → Few → Bool
are_listed least most x =
    leb least x.count
    && leb x.count most
    && is_spare x.count 0 x.first
    && is_spare x.count 1 x.second
    && is_spare x.count 2 x.third
    && is_spare x.count 3 x.fourth

-- ---- triples in their room of sixteen

unfoldable pub is_ranged : Triple → Bool
is_ranged x = is_amount x.low && is_amount x.high && is_amount x.gradient

unfoldable pub is_no_triple : Triple → Bool
is_no_triple x = eqb (nat_abs x.low) 0 && eqb (nat_abs x.high) 0 && eqb (nat_abs x.gradient) 0

unfoldable pub are_triples : List Triple → ℕ → Bool
are_triples values n = within 1 16 n && eqb (length values) 16 && all is_ranged (take n values) && all is_no_triple (drop n values)

-- ---- texts in their rooms

unfoldable pub is_kept : ℕ → List ℕ → ℕ → Bool
is_kept most room n = leb 1 n && leb n most && leb n (length room) && tidy (take n room)

unfoldable pub is_named : List ℕ → ℕ → Bool
is_named room n = leb n (length room) && is_unit (take n room)

-- ---- a value that is not blank

unfoldable pub fits : MessageType → Rooms → Shape → Value → Bool
fits t r s Blank = false
fits t r s (Id n) = eqb (shape_number s) (type_number t) && ltb n (10 ^ 10)
fits t r s (Unit n) = eqb (shape_number s) 1 && is_named r.unit n
fits t r s (When d) = eqb (shape_number s) 2 && is_real d
fits t r s (Amount v) = eqb (shape_number s) 3 && is_amount v
fits t r s (Count n) = eqb (shape_number s) 4 && ltb n (10 ^ 10)
fits t r s (Reason n) = eqb (shape_number s) 5 && is_kept 128 r.reason n
fits t r s (Note n) = eqb (shape_number s) 6 && is_kept 256 r.note n
fits t r s (Word w) = is_among s w
fits t r s (Numbers x) = are_listed (numbers_fewest s) (numbers_most s) x
fits t r s (Triples n) = eqb (shape_number s) 10 && are_triples r.gradients n
fits t r s (Voltage v) = eqb (shape_number s) 11 && is_amount v.0
fits t r s (Regulator v) = eqb (shape_number s) 12 && is_amount v.0
fits t r s (Change v) = eqb (shape_number s) 13 && is_amount v.0
fits t r s (Reactive v) = eqb (shape_number s) 14 && is_amount v.0

-- THE DEFINITION: a blank where the kind lets one stand, or else what fits its shape
unfoldable pub holds : MessageType → Rooms → Kind → Value → Bool
holds t r k v = (k.blank && not (is_filled v)) || fits t r k.shape v
