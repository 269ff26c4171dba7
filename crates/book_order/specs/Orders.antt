-- What an order is to the book. Document 01, "The book of commands". What an order carries, how it is struck and by what it is named is said here alone.
use Rattle.std.specs.Prelude.{ℕ, ◌-◌, eqb, leb, ltb, ℤ, pos, nat_abs, length, Bool, false, not, ◌&&◌, cond, List, [], ◌∷◌, Result, Ok, Err}
use Rattle.book_lists.specs.Keyed.{least_of}
use Rattle.layout.specs.Layouts.{is_market}
use Rattle.layout.specs.declared.Layout.{Layout}
use Rattle.layout.specs.declared.Layout.TheVariants.{Market, Mfrr, Revocation, Generic, Exclusion, Limitation, Secondary, VoltVar, Rejection, Reserve}
use Rattle.book_order.specs.declared.Order.{Order}
use Rattle.refusal.specs.Numbers.{number_of}
use Rattle.refusal.specs.declared.Refusal.{Refusal as Reason}
use Rattle.book_stretch.specs.Stretches.{stretch, covers, lies, in_four, used_in, are_none, formed_in, joined}
use Rattle.book_stretch.specs.declared.Stretch.{Stretch}
use Rattle.text.specs.Bytes.{any}
use Rattle.text.specs.Refusals.{Refusal, refusal, first_number}
use Rattle.value_bounds.specs.Bounds.{most_number, is_instant, is_amount}

-- ---- by what an order is named, and the key by which orders stand

pub record Name : Type 0 where
  pub number : ℕ

abbrev pub name_of : Order → Name
name_of o = record { number = o.number }

abbrev pub same_name : Name → Name → Bool
same_name m n = eqb m.number n.number

abbrev pub named : Name → Order → Bool
named n o = same_name (name_of o) n

abbrev pub number : Order → ℕ
number o = o.number

-- ---- in force and not yet ended

-- its own time
abbrev pub time_of : Order → Stretch
time_of o = stretch o.start o.end

-- start ≤ t < end, and t is "outside all of" the struck stretches (document 02, A6)
abbrev pub live : ℕ → Order → Bool
live t o = covers t (time_of o) && not (any (covers t) o.struck)

-- an order that ends past t. No end is 0 but an empty place's, so that `past_end 0` is whether a place is filled
abbrev pub past_end : ℕ → Order → Bool
past_end t o = ltb t o.end

-- when the next of some orders ends: 0 where there is none. Document 02, A7
abbrev pub next_end : List Order → ℕ
next_end l = least_of (λ (o : Order). o.end) l

-- ---- a revocation strikes a stretch of the order. Document 02, A6

-- what a revocation says
pub record Strike : Type 0 where
  pub name : Name
  pub over : Stretch

-- of the order that has this number
abbrev pub strike_for : ℕ → Stretch → Strike
strike_for n c = record { name = record { number = n }; over = c }

-- what some valid RC record says: a number of at most ten digits, and a start before an end (crate book_source: exactly these)
unfoldable pub could_strike : Strike → Bool
could_strike s =
    leb s.name.number most_number
    && (is_instant s.over.from && (is_instant s.over.to && ltb s.over.from s.over.to))

-- the order with one stretch more
abbrev pub struck_out : Stretch → Order → Order
struck_out c o =
    record {
      number = o.number;
      layout = o.layout;
      start = o.start;
      end = o.end;
      first = o.first;
      second = o.second;
      struck = in_four (joined c (used_in o.struck));
    }

abbrev pub strike_at : Strike → Order → Order
strike_at s o = cond (named s.name o) (struck_out s.over o) o

-- 31, "stretch not inside the order"; 26, "stretch wholly struck already"; 32, "a fifth stretch after touching ones are joined"
abbrev pub sticks_out : Stretch → Order → Bool
sticks_out c o = not (lies c (time_of o))

abbrev pub is_struck : Stretch → Order → Bool
is_struck c o = any (lies c) o.struck

abbrev pub makes_five : Stretch → Order → Bool
makes_five c o = ltb 4 (length (joined c (used_in o.struck)))

-- what a strike is refused for, of the order that it names
abbrev pub strike_refusals : Stretch → Order → List Refusal
strike_refusals c o = refusal 31 0 (sticks_out c o) ∷ refusal 26 0 (is_struck c o) ∷ refusal 32 0 (makes_five c o) ∷ []

-- what a strike answers on the order that it names, 0 or a refusal's number, and the order then
pub record Struck : Type 0 where
  pub number : ℕ
  pub order : Order

-- THE DEFINITION: what it answers there, and the order then
unfoldable pub struck_by : Stretch → Order → Struck
struck_by c o =
    record {
      number = first_number (strike_refusals c o);
      order = cond (eqb (first_number (strike_refusals c o)) 0) (struck_out c o) o;
    }

-- what an answer says of the order o
abbrev pub struck_as : Order → Result Order Reason → Struck
struck_as o (Ok s) = record { number = 0; order = s }
struck_as o (Err e) = record { number = number_of e; order = o }

-- the same of any order: one that has that name
abbrev pub outside : Strike → Order → Bool
outside s o = named s.name o && sticks_out s.over o

abbrev pub already : Strike → Order → Bool
already s o = named s.name o && is_struck s.over o

abbrev pub crowded : Strike → Order → Bool
crowded s o = named s.name o && makes_five s.over o

-- struck as a whole, and in part
abbrev pub is_whole : Order → Bool
is_whole o = is_struck (time_of o) o

abbrev pub is_partial : Order → Bool
is_partial o = not (are_none o.struck) && not (is_whole o)

-- ---- an empty place: all zero

abbrev pub empty_order : Order
empty_order = record { number = 0; layout = Market; start = 0; end = 0; first = pos 0; second = pos 0; struck = in_four [] }

abbrev pub is_zero : ℤ → Bool
is_zero v = eqb (nat_abs v) 0

unfoldable pub is_empty : Order → Bool
is_empty o =
    eqb o.number 0
    && (is_market o.layout
    && (eqb o.start 0 && (eqb o.end 0 && (is_zero o.first && (is_zero o.second && are_none o.struck)))))

-- ---- what some valid CB record gives (crate book_source: exactly these)

-- market: start before end, and two variations; mFRR: start and end are apart by two ramps of a second, and there is one variation
abbrev pub fits_layout : Layout → ℕ → ℤ → Bool
fits_layout Market apart second = ltb 0 apart && is_amount second
fits_layout Mfrr apart second = ltb 1 apart && is_zero second
fits_layout Revocation apart second = false
fits_layout Generic apart second = false
fits_layout Exclusion apart second = false
fits_layout Limitation apart second = false
fits_layout Secondary apart second = false
fits_layout VoltVar apart second = false
fits_layout Rejection apart second = false
fits_layout Reserve apart second = false

-- THE DEFINITION: number, layout, instants and variations are together what some valid CB record gives
unfoldable pub could_come : Order → Bool
could_come o =
    leb o.number most_number
    && (is_instant o.start
    && (is_instant o.end && (is_amount o.first && fits_layout o.layout (o.end - o.start) o.second)))

-- what a valid CB record brings: nothing of an order is struck when it comes
unfoldable pub is_brought : Order → Bool
is_brought o = could_come o && are_none o.struck

-- what may be held: some valid CB record gives it, and what is struck of it is well formed
abbrev pub could_hold : Order → Bool
could_hold o = could_come o && formed_in (time_of o) o.struck
