-- THE THEOREM: request A5. Assumes nothing.
use Rattle.std.specs.Prelude.{None, Some}
use Prim.Native.Nat.{ℕ, zero, suc, ◌+◌, ◌≤◌, ◌<◌}
use Rattle.demands.specs.Request5.{parts_read, Request5}
use Rattle.layout.specs.FieldNumbers.{h1_no}
use Rattle.layout.specs.Fields.{market, command, technical}
use Rattle.layout.specs.Layouts.{fields_of, kinds_of, type_of, no_kind}
use Rattle.layout.specs.declared.Layout.{Layout}
use Rattle.layout.specs.declared.Layout.TheVariants.{Market}
use Rattle.reader_theorems.proofs.Validity.{read_valid}
use Rattle.record.proofs.Fields.{field_value_at}
use Rattle.record.proofs.Places.{At}
use Rattle.record.specs.Records.{rooms_of}
use Rattle.record.specs.declared.Record.{Record}
use Rattle.record_rules.proofs.Profile.{profile_exactly}
use Rattle.record_rules.specs.Profiles.{h_line, OneToFour, HLists, Profile}
use Rattle.record_rules.specs.Rules.{rule, rules_of, lowest, in_order, updated, profiled, sloped, broken_in}
use Rattle.record_valid.proofs.Hold.{hold_length, hold_at}
use Rattle.record_valid.specs.Valid.{Valid}
use Rattle.text.proofs.Tests.{leb_tells, untold}
use Rattle.value.specs.Kinds.{shape_of}
use Rattle.value.specs.Texts.{Rooms, value_text}
use Rattle.value.specs.Valid.{Fits, Holds}
use Rattle.value.specs.Valid.Fits.{profile}
use Rattle.value.specs.Valid.Holds.{blank, filled}
use Rattle.value.specs.declared.Kind.{Kind}
use Rattle.value.specs.declared.Shape.{Shape}
use Rattle.value.specs.declared.Shape.TheVariants.{IsProfile}
use Rattle.value.specs.declared.Value.{Value}
use Rattle.value.specs.declared.Value.TheVariants.{List as Numbers}
use Rattle.value_ask.specs.Values.{is_filled, list_size}
use Rattle.value_list.specs.Forms.{numbers_of, list_of, numbers_in, numbers_text, ValidNumbers}
use Rattle.value_list.specs.Lists.{counted, some_of}
use Rattle.value_list.specs.declared.Numbers.{Numbers as Few}
use Rattle.value_name.specs.declared.MessageType.{MessageType}
use borrow.Author.Tests.{le-leb, ltb-true}
use lib.IntN.{ℤ}
use lib.ListN.{length, get_or}
use mathlib.Core.Bool.{Bool, true, false, true≢false, false≢true}
use mathlib.Core.List.{List, [], ◌∷◌}
use mathlib.Core.Logic.{◌↔◌}
use mathlib.Core.Path.{◌≡◌, refl, sym, subst, ◌∙◌}
use native.Mathlib.Omega.{arith}

-- ---- reading a line

few_back : (l : List ℤ) → length l ≤ 4 → list_of (numbers_of l) ≡ l
unfolding numbers_of
few_back [] h = refl
few_back (a ∷ []) h = refl
few_back (a ∷ b ∷ []) h = refl
few_back (a ∷ b ∷ c ∷ []) h = refl
few_back (a ∷ b ∷ c ∷ d ∷ []) h = refl
few_back (a ∷ b ∷ c ∷ d ∷ e ∷ l) h = absurd (omega (arith, h))

found : (s : List ℕ) (l : List ℤ) → parts_read s ≡ Some l → 1 ≤ length l → length l ≤ 4
    → (shape_of IsProfile s ≡ Some (Numbers (numbers_of l))) × (list_size (Numbers (numbers_of l)) ≡ length l) × (list_of (numbers_of l) ≡ l)
unfolding shape_of numbers_in some_of counted numbers_of
found s l e lo hi = (rw (e, le-leb 1 (length l) lo, le-leb (length l) 4 hi), refl, few_back l hi)

five : (s : List ℕ) (l : List ℤ) → parts_read s ≡ Some l → 5 ≤ length l → shape_of IsProfile s ≡ None
unfolding shape_of numbers_in some_of counted
five s l e many =
    rw (e, le-leb 1 (length l) (omega (arith, many)), untold (leb_tells (length l) 4) (λ q. absurd (omega (arith, q, many))))

no_number : (s : List ℕ) → parts_read s ≡ None → shape_of IsProfile s ≡ None
unfolding shape_of numbers_in some_of counted
no_number s e = rw e

-- ---- rule 3 among the four

third : (a b c d : Bool) → lowest (rule 1 a ∷ rule 2 b ∷ rule 3 c ∷ rule 4 d ∷ []) ≡ 3 ↔ (a ≡ true) × (b ≡ true) × (c ≡ false)
unfolding lowest
third false b c d = (λ e. absurd (omega (arith, e)), λ p. absurd (false≢true p.0))
third true false c d = (λ e. absurd (omega (arith, e)), λ p. absurd (false≢true p.1))
third true true false d = (λ e. (refl, refl, refl), λ p. refl)
third true true true true = (λ e. absurd (omega (arith, e)), λ p. absurd (true≢false p.2))
third true true true false = (λ e. absurd (omega (arith, e)), λ p. absurd (true≢false p.2))

unbroken : (a b c d : Bool) → lowest (rule 1 a ∷ rule 2 b ∷ rule 3 c ∷ rule 4 d ∷ []) ≡ 0 → c ≡ true
unfolding lowest
unbroken false b c d e = absurd (omega (arith, e))
unbroken true false c d e = absurd (omega (arith, e))
unbroken true true false d e = absurd (omega (arith, e))
unbroken true true true d e = refl

rule_three : (r : Record) → r.layout ≡ Market → HLists r.cells
    → broken_in r ≡ 3 ↔ (in_order r.cells ≡ true) × (updated r.cells ≡ true) × (Profile r.cells → ⊥)
unfolding broken_in rules_of
rule_three r m lists =
    let cells = r.cells in
    let p = profile_exactly cells lists in
    rw m (
      λ e. let q = (third (in_order cells) (updated cells) (profiled cells) (sloped cells r.gradients)).0 e in
          (q.0, q.1, λ whole. true≢false (sym (p.1 whole) ∙ q.2)),
      λ q. (third (in_order cells) (updated cells) (profiled cells) (sloped cells r.gradients)).1 (q.0, q.1, untold p q.2),
    )

-- ---- the lines of a valid record

module _ {t : MessageType} {r : Rooms} where
  list_fits : {x : Few} → Fits t r IsProfile (Numbers x) → ValidNumbers 1 4 x
  list_fits (profile v) = v

  sized_fits : {v : Value} → Fits t r IsProfile v → OneToFour v
  sized_fits (profile v) = (v.enough, v.few)

  -- a kind of lists that lets a blank stand too
  module _ (k : Kind) (s : k.shape ≡ IsProfile) where
    held_fits : {v : Value} → Holds t r k v → is_filled v ≡ true → Fits t r IsProfile v
    held_fits (blank e) f = absurd (false≢true f)
    held_fits {v} (filled h) f = subst (λ (a : Shape). Fits t r a v) s h

line_at : (k : ℕ) → k < 6 → At Market IsProfile (h1_no + k)
unfolding kinds_of fields_of market command technical
line_at zero h = record { place = 19; field_is = refl; inside = ltb-true _ _ refl; shape_is = refl }
line_at (suc zero) h = record { place = 20; field_is = refl; inside = ltb-true _ _ refl; shape_is = refl }
line_at (suc (suc zero)) h = record { place = 21; field_is = refl; inside = ltb-true _ _ refl; shape_is = refl }
line_at (suc (suc (suc zero))) h = record { place = 22; field_is = refl; inside = ltb-true _ _ refl; shape_is = refl }
line_at (suc (suc (suc (suc zero)))) h = record { place = 23; field_is = refl; inside = ltb-true _ _ refl; shape_is = refl }
line_at (suc (suc (suc (suc (suc zero))))) h = record { place = 24; field_is = refl; inside = ltb-true _ _ refl; shape_is = refl }
line_at (suc (suc (suc (suc (suc (suc k)))))) h = absurd (omega (arith, h))

module _ (r : Record) (w : Valid r) (m : r.layout ≡ Market) where
  line_fits : (k : ℕ) → k < 6 → is_filled (h_line r.cells k) ≡ true → Fits (type_of r.layout) (rooms_of r) IsProfile (h_line r.cells k)
  line_fits k few =
      let at : At r.layout IsProfile (h1_no + k) = rw m (line_at k few) in
      let j = at.place in
      let hold = w.valid.hold in
      let h : j < length w.values = omega (arith, at.inside, hold_length hold) in
      rw (w.valid.cells_are, at.field_is, field_value_at w.values j h)
      (held_fits (get_or (kinds_of r.layout) j no_kind) at.shape_is (hold_at hold j at.inside))

  valid_lists : HLists r.cells
  valid_lists k few f = sized_fits (line_fits k few f)

  valid_list : (k : ℕ) (x : Few) → k < 6 → h_line r.cells k ≡ Numbers x → ValidNumbers 1 4 x
  valid_list k x few e =
      list_fits (subst (Fits (type_of r.layout) (rooms_of r) IsProfile) e (line_fits k few (rw e refl)))

  -- no rule is broken, so 3 is not
  valid_profile : Profile r.cells
  unfolding broken_in rules_of
  valid_profile =
      let cells = r.cells in
      (profile_exactly cells valid_lists).0
      (unbroken (in_order cells) (updated cells) (profiled cells) (sloped cells r.gradients)
      (subst (λ (l : Layout). lowest (rules_of l cells r.gradients) ≡ 0) m w.valid.unbroken))

pub request_5 : Request5
unfolding value_text numbers_text
request_5 =
    record {
      found = found;
      five = five;
      no_number = no_number;
      profile_exactly = profile_exactly;
      rule_three = rule_three;
      valid_profile = λ r w m. (valid_lists r w m, valid_profile r w m);
      valid_list = valid_list;
      accepted_profile = λ ca ioa plan file h m. valid_profile _ (read_valid ca ioa plan file h) m;
      written = λ t r x. refl;
    }
