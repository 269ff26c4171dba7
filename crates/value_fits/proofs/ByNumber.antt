-- A shape is known by its number, but for the words that it takes; and what the arm `_` of a question on shapes says. Assumes nothing.
use Prim.Native.Nat.{ℕ, ◌-◌}
use Rattle.value_fits.specs.Fits.{type_number, shape_number, first_word, last_word, numbers_fewest, numbers_most}
use Rattle.value_name.specs.declared.MessageType.{MessageType}
use Rattle.value_name.specs.declared.MessageType.TheVariants.{Cb, Rc, Mg, Eb, Lb, Sr, Vq, Ri, Qr}
use Rattle.value.specs.contracts.Shape.{the_type}
use Rattle.value.specs.declared.Shape.{Shape}
use Rattle.value.specs.declared.Shape.TheVariants.{IsId, IsUnit, IsWhen, IsAmount, IsCount, IsReason, IsNote, IsWord, IsProfile, IsBands, IsTriples, IsVoltage}
use Rattle.value.specs.declared.Shape.TheVariants.{IsRegulator, IsChange, IsReactive}
use borrow.Author.Tests.{eq-eqb, ne_eqb}
use denote.Enum.Declared.{tag_of}
use lib.Dec.{eqb, leb}
use lib.ListN.{get_or}
use mathlib.Core.Bool.{true, false, cond, true≢false}
use mathlib.Core.List.{List, [], ◌∷◌}
use mathlib.Core.Path.{◌≡◌, refl, sym, ap, subst, ◌∙◌}
use types.Run.{OneOf, miss}

-- ---- by its number

abbrev message_types : List MessageType
message_types = Cb ∷ Rc ∷ Mg ∷ Eb ∷ Lb ∷ Sr ∷ Vq ∷ Ri ∷ Qr ∷ []

-- the shapes from 0 to 14: none has the number 0, and the words of 7 are not told by it
abbrev shapes : List Shape
shapes =
    IsUnit ∷ IsUnit ∷ IsWhen ∷ IsAmount ∷ IsCount ∷ IsReason ∷ IsNote ∷ IsWord 0 0 ∷ IsProfile ∷ IsBands ∷ IsTriples
    ∷ IsVoltage ∷ IsRegulator ∷ IsChange ∷ IsReactive ∷ []

abbrev pub shape_at : ℕ → Shape
shape_at n = cond (leb 21 n) (IsId (get_or message_types (n - 21) Cb)) (get_or shapes n IsUnit)

-- an identifier's number is no word's, and is that of its own type alone
pub type_back : (t : MessageType) → (eqb (type_number t) 7 ≡ false) × (shape_at (type_number t) ≡ IsId t)
type_back Cb = (refl, refl)
type_back Rc = (refl, refl)
type_back Mg = (refl, refl)
type_back Eb = (refl, refl)
type_back Lb = (refl, refl)
type_back Sr = (refl, refl)
type_back Vq = (refl, refl)
type_back Ri = (refl, refl)
type_back Qr = (refl, refl)

-- so is every other shape the one at its number
shape_back : (s : Shape) → eqb (shape_number s) 7 ≡ false → shape_at (shape_number s) ≡ s
shape_back (IsId t) e = (type_back t).1
shape_back IsUnit e = refl
shape_back IsWhen e = refl
shape_back IsAmount e = refl
shape_back IsCount e = refl
shape_back IsReason e = refl
shape_back IsNote e = refl
shape_back (IsWord first last) e = absurd (true≢false e)
shape_back IsProfile e = refl
shape_back IsBands e = refl
shape_back IsTriples e = refl
shape_back IsVoltage e = refl
shape_back IsRegulator e = refl
shape_back IsChange e = refl
shape_back IsReactive e = refl

-- the shape that has the number n, where that is not the number of a shape of words
pub shape_is : (s : Shape) (n : ℕ) → eqb n 7 ≡ false → shape_number s ≡ n → s ≡ shape_at n
shape_is s n h e = sym (shape_back s (subst (λ (m : ℕ). eqb m 7 ≡ false) (sym e) h)) ∙ ap shape_at e

-- as `==` tells: the shape, or another
pub same_number : (t : MessageType) → eqb (type_number t) (type_number t) ≡ true
same_number t = eq-eqb _ _ refl

pub other_shape : (s : Shape) (n : ℕ) → eqb n 7 ≡ false → (s ≡ shape_at n → ⊥) → eqb (shape_number s) n ≡ false
other_shape s n h other = ne_eqb _ _ (λ e. other (shape_is s n h e))

pub other_type : (s : Shape) (t : MessageType) → (s ≡ IsId t → ⊥) → eqb (shape_number s) (type_number t) ≡ false
other_type s t other = other_shape s (type_number t) (type_back t).0 (λ e. other (e ∙ (type_back t).1))

-- ---- the arm `_`

-- the places of the variants, all but those that are asked for
abbrev not_word : List ℕ
not_word = 0 ∷ 1 ∷ 2 ∷ 3 ∷ 4 ∷ 5 ∷ 6 ∷ 8 ∷ 9 ∷ 10 ∷ 13 ∷ []

abbrev not_listed : List ℕ
not_listed = 0 ∷ 1 ∷ 2 ∷ 3 ∷ 4 ∷ 5 ∷ 6 ∷ 7 ∷ 10 ∷ 11 ∷ 12 ∷ 13 ∷ 14 ∷ []

abbrev not_bands : List ℕ
not_bands = 0 ∷ 1 ∷ 2 ∷ 3 ∷ 4 ∷ 5 ∷ 6 ∷ 7 ∷ 8 ∷ 10 ∷ 11 ∷ 12 ∷ 13 ∷ 14 ∷ []

-- any shape but of words and of settings takes the words from 1 to 0
pub no_words : (s : Shape) → OneOf not_word (tag_of the_type s) → (1 ≡ first_word s) × (0 ≡ last_word s)
no_words (IsId t) h = (refl, refl)
no_words IsUnit h = (refl, refl)
no_words IsWhen h = (refl, refl)
no_words IsAmount h = (refl, refl)
no_words IsCount h = (refl, refl)
no_words IsReason h = (refl, refl)
no_words IsNote h = (refl, refl)
no_words (IsWord first last) h = absurd (miss not_word 7 tt h)
no_words IsProfile h = (refl, refl)
no_words IsBands h = (refl, refl)
no_words IsTriples h = (refl, refl)
no_words IsVoltage h = absurd (miss not_word 11 tt h)
no_words IsRegulator h = absurd (miss not_word 12 tt h)
no_words IsChange h = (refl, refl)
no_words IsReactive h = absurd (miss not_word 14 tt h)

-- any shape but a profile and half-bands takes no list of numbers
pub no_numbers : (s : Shape) → OneOf not_listed (tag_of the_type s) → 0 ≡ numbers_most s
no_numbers (IsId t) h = refl
no_numbers IsUnit h = refl
no_numbers IsWhen h = refl
no_numbers IsAmount h = refl
no_numbers IsCount h = refl
no_numbers IsReason h = refl
no_numbers IsNote h = refl
no_numbers (IsWord first last) h = refl
no_numbers IsProfile h = absurd (miss not_listed 8 tt h)
no_numbers IsBands h = absurd (miss not_listed 9 tt h)
no_numbers IsTriples h = refl
no_numbers IsVoltage h = refl
no_numbers IsRegulator h = refl
no_numbers IsChange h = refl
no_numbers IsReactive h = refl

-- any shape but half-bands takes one number or more, if any
pub one_number : (s : Shape) → OneOf not_bands (tag_of the_type s) → 1 ≡ numbers_fewest s
one_number (IsId t) h = refl
one_number IsUnit h = refl
one_number IsWhen h = refl
one_number IsAmount h = refl
one_number IsCount h = refl
one_number IsReason h = refl
one_number IsNote h = refl
one_number (IsWord first last) h = refl
one_number IsProfile h = refl
one_number IsBands h = absurd (miss not_bands 9 tt h)
one_number IsTriples h = refl
one_number IsVoltage h = refl
one_number IsRegulator h = refl
one_number IsChange h = refl
one_number IsReactive h = refl
