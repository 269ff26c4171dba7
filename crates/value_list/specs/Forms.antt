-- The lists of a message: profile lines, half-bands and gradients. 59 is ';', 44 is ','. Document 01, rules 3, 4 and 7, as far as they say
-- what a list is; that Pmin ≤ Pmax, gradients are above 0 and half-bands not negative is judged on the record.
use Rattle.std.specs.Prelude.{ℕ, ◌-◌, ◌≤◌, ◌<◌, ℤ, pos, nat_abs, length, get_or, take, replicate, List, [], ◌∷◌, ◌++◌, ◌≡◌, None, Option, Some}
use Rattle.value_list.specs.Lists.{some_of, list_text}
use Rattle.value_list.specs.declared.Gradients.{Gradients}
use Rattle.value_list.specs.declared.Numbers.{Numbers}
use Rattle.value_list.specs.declared.Triple.{Triple}
use Rattle.value_number.specs.Number.{number_of, number_text}

-- ---- up to four numbers

abbrev pub amount_read : Option ℤ → Option ℤ
amount_read (Some v) = Some v
amount_read None = None

abbrev pub amount_of : List ℕ → Option ℤ
amount_of s = amount_read (number_of s)

-- a list in a record's room: how many, and the unused room zero
unfoldable pub numbers_of : List ℤ → Numbers
numbers_of l = record {
  count = length l;
  first = get_or l 0 (pos 0);
  second = get_or l 1 (pos 0);
  third = get_or l 2 (pos 0);
  fourth = get_or l 3 (pos 0);
}

-- the list that a room holds
abbrev pub list_of : Numbers → List ℤ
list_of x = take x.count (x.first ∷ x.second ∷ x.third ∷ x.fourth ∷ [])

abbrev pub listed : Option (List ℤ) → Option Numbers
listed (Some l) = Some (numbers_of l)
listed None = None

-- least to most numbers between separators
unfoldable pub numbers_in : ℕ → ℕ → ℕ → List ℕ → Option Numbers
numbers_in sep least most s = listed (some_of amount_of sep least most s)

-- a profile line: one to four numbers (document 02, A5; that a line below a filled one has four is rule 3)
abbrev pub profile_of : List ℕ → Option Numbers
profile_of s = numbers_in 59 1 4 s

-- the half-bands: two numbers
abbrev pub bands_of : List ℕ → Option Numbers
bands_of s = numbers_in 59 2 2 s

unfoldable pub numbers_text : ℕ → Numbers → List ℕ
numbers_text sep x = list_text number_text sep (list_of x)

-- ---- gradients: 1 to 16 triples `Pmin,Pmax,Grad` between ';'

unfoldable pub triple_of : List ℤ → Triple
triple_of l = record { low = get_or l 0 (pos 0); high = get_or l 1 (pos 0); gradient = get_or l 2 (pos 0) }

abbrev pub one_of : Option (List ℤ) → Option Triple
one_of (Some l) = Some (triple_of l)
one_of None = None

unfoldable pub one_in : List ℕ → Option Triple
one_in s = one_of (some_of amount_of 44 3 3 s)

abbrev pub triple_is : Option Triple → Option Triple
triple_is (Some t) = Some t
triple_is None = None

abbrev pub triple_in : List ℕ → Option Triple
triple_in s = triple_is (one_in s)

abbrev pub no_triple : Triple
no_triple = record { low = pos 0; high = pos 0; gradient = pos 0 }

-- triples in a room of sixteen, the unused room zero
unfoldable pub gradients_of : List Triple → Gradients
gradients_of l = record { count = length l; values = l ++ replicate (16 - length l) no_triple }

abbrev pub gradients_read : Option (List Triple) → Option Gradients
gradients_read (Some l) = Some (gradients_of l)
gradients_read None = None

unfoldable pub gradients_in : List ℕ → Option Gradients
gradients_in s = gradients_read (some_of triple_in 59 1 16 s)

-- the triples as a record keeps them: none where none were read
abbrev pub kept_triples : Option Gradients → List Triple
kept_triples (Some g) = g.values
kept_triples None = replicate 16 no_triple

-- and how many they are
abbrev pub counted_triples : Option Gradients → Option ℕ
counted_triples (Some g) = Some g.count
counted_triples None = None

unfoldable pub triple_text : Triple → List ℕ
triple_text t = list_text number_text 44 (t.low ∷ t.high ∷ t.gradient ∷ [])

-- the first n triples of a room
unfoldable pub gradients_text : List Triple → ℕ → List ℕ
gradients_text values n = list_text triple_text 59 (take n values)

-- ---- what a valid list is: as many as may be, each number one that can be written, and the unused room zero

abbrev pub InRange : ℤ → Type 0
InRange v = nat_abs v < 1000000000

pub record ValidNumbers (least most : ℕ) (x : Numbers) : Type 0 where
  pub enough : least ≤ x.count
  pub few : x.count ≤ most
  pub zero_room : x ≡ numbers_of (list_of x)
  pub first_range : InRange x.first
  pub second_range : InRange x.second
  pub third_range : InRange x.third
  pub fourth_range : InRange x.fourth

pub record TripleRange (t : Triple) : Type 0 where
  pub low_range : InRange t.low
  pub high_range : InRange t.high
  pub gradient_range : InRange t.gradient

-- what holds of each element
unfoldable pub Each : {A : Type 0} → (A → Type 0) → List A → Type 0
Each P [] = Unit
Each P (a ∷ l) = P a × Each P l

pub record ValidGradients (values : List Triple) (n : ℕ) : Type 0 where
  pub enough : 1 ≤ n
  pub few : n ≤ 16
  pub zero_room : values ≡ take n values ++ replicate (16 - n) no_triple
  pub sixteen : length values ≡ 16
  pub ranged : Each TripleRange (take n values)
