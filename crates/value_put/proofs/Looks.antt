-- Whether a text is looked at: that of a number or of a word is, and that of any other value is not. Assumes nothing.
use Prim.Native.Nat.{ℕ}
use Rattle.value_number.specs.Number.{are_short}
use Rattle.value.specs.contracts.Value.{the_type}
use Rattle.value.specs.Texts.{is_written}
use Rattle.value.specs.declared.Value.{Value}
use Rattle.value.specs.declared.Value.TheVariants.{Blank, Id, Unit, When, Count, Reason, Note, Word}
use Rattle.value.specs.declared.Value.TheVariants.{Amount, List as Numbers, Triples, Voltage, Regulator, Change, Reactive}
use Rattle.value_word.specs.Words.{is_joined}
use denote.Enum.Declared.{tag_of}
use mathlib.Core.Bool.{Bool, true, not}
use mathlib.Core.List.{List, [], ◌∷◌}
use mathlib.Core.Path.{◌≡◌, refl, sym, ap, ◌∙◌}
use types.Run.{OneOf, miss}

-- the value v is w, a number
pub looked_at : (v w : Value) (s : List ℕ) (b : Bool) → v ≡ w → is_written w s ≡ are_short s → b ≡ are_short s → b ≡ is_written v s
looked_at v w s b e n h = h ∙ sym n ∙ ap (λ (x : Value). is_written x s) (sym e)

-- it is a word
pub word_looked_at : (v w : Value) (s : List ℕ) (b : Bool) → v ≡ w → is_written w s ≡ not (is_joined s) → b ≡ is_joined s → not b ≡ is_written v s
word_looked_at v w s b e n h = ap not h ∙ sym n ∙ ap (λ (x : Value). is_written x s) (sym e)

-- the places of the variants that are neither
abbrev others : List ℕ
others = 0 ∷ 1 ∷ 2 ∷ 3 ∷ 5 ∷ 6 ∷ 7 ∷ []

pub as_it_stands : (v : Value) (s : List ℕ) → OneOf others (tag_of the_type v) → true ≡ is_written v s
unfolding is_written
as_it_stands Blank s h = refl
as_it_stands (Id n) s h = refl
as_it_stands (Unit n) s h = refl
as_it_stands (When d) s h = refl
as_it_stands (Amount v) s h = absurd (miss others 4 tt h)
as_it_stands (Count n) s h = refl
as_it_stands (Reason n) s h = refl
as_it_stands (Note n) s h = refl
as_it_stands (Word w) s h = absurd (miss others 8 tt h)
as_it_stands (Numbers x) s h = absurd (miss others 9 tt h)
as_it_stands (Triples n) s h = absurd (miss others 10 tt h)
as_it_stands (Voltage v) s h = absurd (miss others 11 tt h)
as_it_stands (Regulator v) s h = absurd (miss others 12 tt h)
as_it_stands (Change v) s h = absurd (miss others 13 tt h)
as_it_stands (Reactive v) s h = absurd (miss others 14 tt h)
