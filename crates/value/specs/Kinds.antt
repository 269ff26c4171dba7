-- What a field may hold, and what its trimmed text is read as. Document 01, "Values". One definition for each shape, one for all kinds.
use Rattle.value_date.specs.declared.Date.{Date}
use Rattle.std.specs.Prelude.{ℕ, eqb, leb, ℤ, length, ◌&&◌, cond, List, None, Option, Some}
use Rattle.value_date.specs.Date.{date_of}
use Rattle.value_list.specs.Forms.{profile_of, bands_of, gradients_in, counted_triples}
use Rattle.value_list.specs.declared.Numbers.{Numbers as Few}
use Rattle.value_list.specs.declared.Gradients.{Gradients}
use Rattle.value_name.specs.Names.{identifier_of, is_unit, sequence_of}
use Rattle.value_number.specs.Number.{number_of}
use Rattle.value.specs.declared.Kind.{Kind}
use Rattle.value.specs.declared.Shape.{Shape}
use Rattle.value.specs.declared.Shape.TheVariants.{IsId, IsUnit, IsWhen, IsAmount, IsCount, IsReason, IsNote, IsWord, IsProfile, IsBands, IsTriples}
use Rattle.value.specs.declared.Shape.TheVariants.{IsVoltage, IsRegulator, IsChange, IsReactive}
use Rattle.value.specs.declared.Value.{Value}
use Rattle.value.specs.declared.Value.TheVariants.{Blank, Id, Unit, When, Amount, Count, Reason, Note, Word, List as Numbers, Triples, Voltage}
use Rattle.value.specs.declared.Value.TheVariants.{Regulator, Change, Reactive}
use Rattle.value_word.specs.Names.{w_q_zero, w_max_sottoeccitazione}
use Rattle.value_word.specs.Words.{word_in, volt_in}

-- ---- from what a leaf reads to a value

abbrev pub id_from : Option ℕ → Option Value
id_from (Some n) = Some (Id n)
id_from None = None

abbrev pub count_from : Option ℕ → Option Value
count_from (Some n) = Some (Count n)
count_from None = None

abbrev pub date_from : Option Date → Option Value
date_from (Some d) = Some (When d)
date_from None = None

abbrev pub amount_from : Option ℤ → Option Value
amount_from (Some n) = Some (Amount n)
amount_from None = None

abbrev pub got_word : Option ℕ → Option Value
got_word (Some w) = Some (Word w)
got_word None = None

abbrev pub list_from : Option Few → Option Value
list_from (Some x) = Some (Numbers x)
list_from None = None

-- the triples by how many they are
abbrev pub triples_counted : Option ℕ → Option Value
triples_counted (Some n) = Some (Triples n)
triples_counted None = None

abbrev pub triples_from : Option Gradients → Option Value
triples_from g = triples_counted (counted_triples g)

-- a text of at most `most` bytes, kept by its length
abbrev pub text_from : (ℕ → Value) → ℕ → List ℕ → Option Value
text_from make most s = cond (leb (length s) most) (Some (make (length s))) None

-- a setting: a number of its own quantity, or else one of its words
abbrev pub setting_from : (ℤ → Value) → Option ℤ → Option Value → Option Value
setting_from make (Some n) other = Some (make n)
setting_from make None other = other

-- ---- the four quantities of VQ, none of which may be put for another

abbrev pub voltage : ℤ → Value
voltage n = Voltage (record { 0 = n })

abbrev pub regulator : ℤ → Value
regulator n = Regulator (record { 0 = n })

abbrev pub change : ℤ → Value
change n = Change (record { 0 = n })

abbrev pub reactive : ℤ → Value
reactive n = Reactive (record { 0 = n })

-- ---- a trimmed text of a shape

unfoldable pub shape_of : Shape → List ℕ → Option Value
shape_of (IsId t) s = id_from (identifier_of t s)
shape_of IsUnit s = cond (is_unit s) (Some (Unit (length s))) None
shape_of IsWhen s = date_from (date_of s)
shape_of IsAmount s = amount_from (number_of s)
shape_of IsCount s = count_from (sequence_of s)
shape_of IsReason s = text_from Reason 128 s
shape_of IsNote s = text_from Note 256 s
shape_of (IsWord first last) s = got_word (word_in first last s)
shape_of IsProfile s = list_from (profile_of s)
shape_of IsBands s = list_from (bands_of s)
shape_of IsTriples s = triples_from (gradients_in s)
shape_of IsVoltage s = setting_from voltage (number_of s) (got_word (volt_in s))
shape_of IsRegulator s = setting_from regulator (number_of s) (got_word (volt_in s))
shape_of IsChange s = setting_from change (number_of s) None
shape_of IsReactive s = setting_from reactive (number_of s) (got_word (word_in w_q_zero w_max_sottoeccitazione s))

-- THE DEFINITION: a trimmed text of a kind. Where the kind lets a blank stand, the empty text is one.
unfoldable pub value_of : Kind → List ℕ → Option Value
value_of k s = cond (k.blank && eqb (length s) 0) (Some Blank) (shape_of k.shape s)
