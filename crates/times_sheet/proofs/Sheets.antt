-- The unit sheet: the ways through its readers, and where the numbers of a good sheet stand. Assumes nothing.
use Rattle.std.specs.Prelude.{None, Option, Some}
use Prim.Native.Nat.{ℕ, ◌+◌, ◌-◌, ◌≤◌, ◌<◌}
use Rattle.text_keyline.specs.Keylines.{line_of, value_in, below}
use Rattle.value_number.specs.Number.{plus, unsigned_of, joined_digits, fraction_of, number_of}
use Rattle.times_sheet.proofs.Rests.{Rest, rest_all, rest_below}
use Rattle.times_sheet.specs.Sheet.{if_number, is_number, is_line, unit_line, number_line, good_numbers, is_for, after_key, sheet_part}
use Rattle.times_sheet.specs.declared.Part.{Part}
use Rattle.times_sheet.specs.declared.Which.TheVariants.{StartUp, Ramp}
use Rattle.times_sheet.specs.declared.Which.{Which}
use Rattle.text.proofs.Cuts.{part_from, upto_take, upto_length}
use Rattle.text.proofs.Tests.{by_test, and_parts, or_parts}
use Rattle.text.specs.Bytes.{bytes, is, any, part, same, starts, upto, first_of}
use Rattle.text.specs.Digits.{digits_of}
use borrow.Author.Tests.{eqb-true}
use lib.Dec.{eqb}
use lib.IntN.{ℤ}
use lib.ListN.{length, drop, take}
use mathlib.Core.Bool.{Bool, true, false, ◌&&◌, false≢true}
use mathlib.Core.List.{List, [], ◌∷◌}
use mathlib.Core.Path.{◌≡◌, refl, sym, ap, ◌∙◌}
use native.Mathlib.Omega.{arith}

-- ---- a number

module _ (s : List ℕ) (n : Option ℤ) (told : n ≡ number_of s) where
  pub number_yes : (v : ℤ) → n ≡ Some v → true ≡ is_number s
  number_yes v e = ap if_number (sym e ∙ told)

  pub number_no : n ≡ None → false ≡ is_number s
  number_no e = ap if_number (sym e ∙ told)

-- no number is empty
number_some : (s : List ℕ) → is_number s ≡ true → 1 ≤ length s
unfolding number_of unsigned_of joined_digits fraction_of digits_of plus upto
number_some [] e = absurd (false≢true e)
number_some (b ∷ s) e = omega arith

-- ---- a line

bad_not : {e : ℕ} → None ≡ Some e → ⊥
bad_not h = let z : ◌≡◌ {A = ℕ} 0 1 = cc in omega arith

module _ (key s : List ℕ) (l : Option ℕ) (told : l ≡ line_of key s) where
  no_line : l ≡ None → is_line key s ≡ false
  unfolding line_of
  no_line n =
      by_test (is_line key s) (λ e. let z : None ≡ Some (first_of 10 s) = sym n ∙ told ∙ rw e in absurd (bad_not z)) (λ e. e)

  a_line : (e : ℕ) → l ≡ Some e → is_line key s ≡ true
  unfolding line_of
  a_line e y =
      by_test (is_line key s) (λ t. t) (λ t. let z : Some e ≡ None = sym y ∙ told ∙ rw t in absurd (bad_not (sym z)))

  pub no_number_line : l ≡ None → false ≡ number_line key s
  unfolding number_line
  no_number_line n = rw (no_line n)

  pub number_line_lem : (e : ℕ) (v : List ℕ) (b : Bool) → l ≡ Some e → v ≡ value_in key s → b ≡ is_number v → b ≡ number_line key s
  unfolding number_line
  number_line_lem e v b y h u = u ∙ rw (a_line e y, h)

module _ (unit s : List ℕ) (l : Option ℕ) (told : l ≡ line_of (bytes "unit=") s) where
  pub no_unit_line : l ≡ None → false ≡ unit_line unit s
  unfolding unit_line
  no_unit_line n = rw (no_line (bytes "unit=") s l told n)

  pub unit_line_lem : (e : ℕ) (v : List ℕ) (b : Bool) → l ≡ Some e → v ≡ value_in (bytes "unit=") s → b ≡ same unit v → b ≡ unit_line unit s
  unfolding unit_line
  unit_line_lem e v b y h u = u ∙ rw (a_line (bytes "unit=") s l told e y, h)

-- ---- the sheet

module _ (unit s second third : List ℕ) (b₂ : second ≡ below s) (b₃ : third ≡ below second) (t : Bool) (first : t ≡ unit_line unit s) where
  pub other_unit : t ≡ false → false ≡ is_for unit s
  unfolding is_for
  other_unit n = rw (sym first, n)

  module _ (yes : t ≡ true) (u : Bool) (start : u ≡ number_line (bytes "avviamento=") second) where
    starts_as : u ≡ number_line (bytes "avviamento=") (below s)
    starts_as = start ∙ ap (number_line (bytes "avviamento=")) b₂

    pub no_start_up : u ≡ false → false ≡ is_for unit s
    unfolding is_for good_numbers
    no_start_up n = rw (sym first, yes, sym starts_as, n)

    module _ (yes₂ : u ≡ true) (v : Bool) (ramp : v ≡ number_line (bytes "rampa=") third) where
      third_is : third ≡ below (below s)
      third_is = b₃ ∙ ap (λ (x : List ℕ). below x) b₂

      ramps_as : v ≡ number_line (bytes "rampa=") (below (below s))
      ramps_as = ramp ∙ ap (number_line (bytes "rampa=")) third_is

      pub no_ramp : v ≡ false → false ≡ is_for unit s
      unfolding is_for good_numbers
      no_ramp n = rw (sym first, yes, sym starts_as, yes₂, sym ramps_as, n)

      pub good_sheet : (last : List ℕ) → v ≡ true → last ≡ below third → eqb (length last) 0 ≡ is_for unit s
      unfolding is_for good_numbers
      good_sheet last yes₃ e =
          let z : last ≡ below (below (below s)) = e ∙ ap (λ (x : List ℕ). below x) third_is in
          rw (sym first, yes, sym starts_as, yes₂, sym ramps_as, yes₃, z)

-- ---- where a number stands: after its key, up to the LF

-- a line is its key and its value
key_cut : (key t : List ℕ) → any (is 10) key ≡ false → starts key t ≡ true → first_of 10 t ≡ length key + length (value_in key t)
unfolding any starts upto
key_cut [] t n h = omega arith
key_cut (x ∷ key) [] n h = absurd (false≢true h)
key_cut (x ∷ key) (y ∷ t) n h =
    let o = or_parts (eqb x 10) (any (is 10) key) n in
    let a = and_parts (eqb x y) (starts key t) h in
    rw (sym (eqb-true x y a.0), o.0) (omega (arith, key_cut key t o.1 a.1))

module _ (key s t : List ℕ) (clean : any (is 10) key ≡ false) (rest : Rest s t) (h : number_line key t ≡ true) where
  is_line_lem : is_line key t ≡ true
  unfolding number_line
  is_line_lem = (and_parts (is_line key t) (is_number (value_in key t)) h).0

  is_number_lem : is_number (value_in key t) ≡ true
  unfolding number_line
  is_number_lem = (and_parts (is_line key t) (is_number (value_in key t)) h).1

  ends : first_of 10 t ≡ length key + length (value_in key t)
  ends = key_cut key t clean (and_parts (starts key t) (any (is 10) t) is_line_lem).0

  after_room : (length t ≤ length s) × (length key ≤ first_of 10 t)
  after_room = (rest.near, omega (arith, ends))

  -- from the end of the key to the end of the line there is the value, a number
  abbrev from : ℕ
  from = (after_key (length key) s t).from

  abbrev to : ℕ
  to = (after_key (length key) s t).to

  after_ordered : from < to
  after_ordered = omega (arith, ends, number_some (value_in key t) is_number_lem)

  after_inside : to ≤ length s
  after_inside = omega (arith, rest.near, upto_length (is 10) t)

  line_is : part (length s - length t) to s ≡ upto (is 10) t
  line_is =
      let n : length s - length t + first_of 10 t - (length s - length t) ≡ first_of 10 t = omega arith in
      ap (λ (k : ℕ). take k (drop (length s - length t) s)) n ∙ ap (λ (x : List ℕ). take (first_of 10 t) x) (sym rest.left) ∙ sym (upto_take (is 10) t)

  after_is : part from to s ≡ value_in key t
  after_is = sym (part_from s (length s - length t) to (length key)) ∙ ap (λ (x : List ℕ). drop (length key) x) line_is

  after_number : is_number (part from to s) ≡ true
  after_number = ap is_number after_is ∙ is_number_lem

-- ---- the part of a good sheet

-- a part of a text that is a number
pub record Numbered (s : List ℕ) (p : Part) : Type 0 where
  pub ordered : p.from < p.to
  pub inside : p.to ≤ length s
  pub number : is_number (part p.from p.to s) ≡ true

numbered : (key s t : List ℕ) → any (is 10) key ≡ false → Rest s t → number_line key t ≡ true → Numbered s (after_key (length key) s t)
numbered key s t n r h =
    record { ordered = after_ordered key s t n r h; inside = after_inside key s t n r h; number = after_number key s t n r h }

pub for_good : (unit s : List ℕ) → is_for unit s ≡ true → good_numbers (below s) ≡ true
unfolding is_for
for_good unit s e = (and_parts (unit_line unit s) (good_numbers (below s)) e).1

module _ (s : List ℕ) (good : good_numbers (below s) ≡ true) where
  both : number_line (bytes "avviamento=") (below s) && number_line (bytes "rampa=") (below (below s)) ≡ true
  unfolding good_numbers
  both =
      (and_parts (number_line (bytes "avviamento=") (below s) && number_line (bytes "rampa=") (below (below s))) (eqb (length (below (below (below s)))) 0)
      good).0

  start_up : number_line (bytes "avviamento=") (below s) ≡ true
  start_up = (and_parts (number_line (bytes "avviamento=") (below s)) (number_line (bytes "rampa=") (below (below s))) both).0

  ramp : number_line (bytes "rampa=") (below (below s)) ≡ true
  ramp = (and_parts (number_line (bytes "avviamento=") (below s)) (number_line (bytes "rampa=") (below (below s))) both).1

  second : Rest s (below s)
  second = rest_below s s (rest_all s)

  third : Rest s (below (below s))
  third = rest_below s (below s) second

  pub start_up_room : (t : List ℕ) → t ≡ below s → (length t ≤ length s) × (11 ≤ first_of 10 t)
  unfolding any
  start_up_room t e = rw e (after_room (bytes "avviamento=") s (below s) refl second start_up)

  pub ramp_room : (t u : List ℕ) → t ≡ below s → u ≡ below t → (length u ≤ length s) × (6 ≤ first_of 10 u)
  unfolding any
  ramp_room t u e f = rw (f, e) (after_room (bytes "rampa=") s (below (below s)) refl third ramp)

  pub sheet_part_lem : (w : Which) → Numbered s (sheet_part w s)
  unfolding any sheet_part
  sheet_part_lem StartUp = numbered (bytes "avviamento=") s (below s) refl second start_up
  sheet_part_lem Ramp = numbered (bytes "rampa=") s (below (below s)) refl third ramp

pub start_up_at : (w : Which) (s t : List ℕ) (p : Part) → w ≡ StartUp → t ≡ below s → p ≡ after_key 11 s t → p ≡ sheet_part w s
unfolding sheet_part
start_up_at w s t p y e f = f ∙ rw (y, e)

pub ramp_at : (w : Which) (s t u : List ℕ) (p : Part) → w ≡ Ramp → t ≡ below s → u ≡ below t → p ≡ after_key 6 s u → p ≡ sheet_part w s
unfolding sheet_part
ramp_at w s t u p y e f g = g ∙ rw (y, f, e)
