-- THE LAW: what is read of a trimmed text is valid where its kind stands. One line for each shape, then once for all kinds. Assumes nothing.
use Rattle.std.specs.Prelude.{None, Option, Some}
use Prim.Native.Nat.{ℕ, ◌-◌, ◌≤◌}
use Rattle.value_date.proofs.Back.{date_real}
use Rattle.value_date.specs.Date.{date_of}
use Rattle.value_date.specs.declared.Date.{Date}
use Rattle.value_list.proofs.RoundTrip.{numbers_valid, gradients_valid}
use Rattle.value_list.specs.Forms.{ValidGradients, profile_of, bands_of, gradients_in, kept_triples}
use Rattle.value_list.specs.declared.Gradients.{Gradients}
use Rattle.value_list.specs.declared.Numbers.{Numbers as Few}
use Rattle.value_list.specs.declared.Triple.{Triple}
use Rattle.value_name.proofs.RoundTrip.{identifier_range, sequence_range, unit_size}
use Rattle.value_name.specs.Names.{identifier_of, sequence_of, is_unit}
use Rattle.value_name.specs.declared.MessageType.{MessageType}
use Rattle.value_number.proofs.RoundTrip.{number_range}
use Rattle.value_number.specs.Number.{number_of}
use Rattle.text.proofs.Tests.{by_test, by_le, and_parts}
use Rattle.text.specs.Bytes.{tidy}
use Rattle.text.specs.Puts.{room_of}
use Rattle.value.specs.Kinds.{id_from, count_from, date_from, amount_from, got_word, list_from, setting_from, voltage, regulator, change, reactive, shape_of, triples_from}
use Rattle.value.specs.Kinds.{value_of}
use Rattle.value.specs.Texts.{Rooms}
use Rattle.value.specs.Valid.{Kept, Fits, Holds}
use Rattle.value.specs.Valid.Fits.{id, unit, when, amount, count, reason, note, chosen, profile, bands, triples, in_kv, kv_word, in_rat, rat_word}
use Rattle.value.specs.Valid.Fits.{in_change, in_mvar, mvar_word}
use Rattle.value.specs.Valid.Holds.{blank, filled}
use Rattle.value.specs.declared.Kind.{Kind}
use Rattle.value.specs.declared.Shape.{Shape}
use Rattle.value.specs.declared.Shape.TheVariants.{IsId, IsUnit, IsWhen, IsAmount, IsCount, IsReason, IsNote, IsWord, IsProfile, IsBands, IsTriples}
use Rattle.value.specs.declared.Shape.TheVariants.{IsVoltage, IsRegulator, IsChange, IsReactive}
use Rattle.value.specs.declared.Value.{Value}
use Rattle.value.specs.declared.Value.TheVariants.{Id, When, Amount, Count, Reason, Note, Word, List as Numbers, Triples, Unit as UnitOf}
use Rattle.value_word.proofs.RoundTrip.{word_range}
use Rattle.value_word.proofs.Volts.{volt_range}
use Rattle.value_word.specs.Words.{word_in, volt_in}
use borrow.Author.Tests.{leb-true, le-leb, lt-leb, eq-eqb}
use lib.Dec.{eqb, leb}
use lib.IntN.{ℤ}
use lib.ListN.{length, take, replicate, length-append, length-replicate}
use lib.Seq.{take-append_seam}
use mathlib.Core.Bool.{Bool, true, false, ◌&&◌, cond, false≢true}
use mathlib.Core.List.{List}
use mathlib.Core.Path.{◌≡◌, refl, sym, ap, subst, ◌∙◌}
use native.Mathlib.Omega.{arith}

-- ---- what is asked of the rooms and of the table, by shape

-- a room of n bytes: a text that is not too long stands at its front
pub record InRoom (n : ℕ) (room s : List ℕ) : Type 0 where
  pub sized : length room ≡ n
  pub front : length s ≤ n → take (length s) room ≡ s

-- The room that a shape uses has the text, an identifier is one of the message's type, and words are words of the table. A reason and a note
-- of no bytes would not be valid: where one stands, the blank must be allowed, and the empty text is read as that.
unfoldable pub StoredAs : MessageType → Rooms → Bool → Shape → List ℕ → Type 0
StoredAs t r b (IsId u) s = u ≡ t
StoredAs t r b IsUnit s = InRoom 16 r.unit s
StoredAs t r b IsWhen s = Unit
StoredAs t r b IsAmount s = Unit
StoredAs t r b IsCount s = Unit
StoredAs t r b IsReason s = (b ≡ true) × InRoom 128 r.reason s
StoredAs t r b IsNote s = (b ≡ true) × InRoom 256 r.note s
StoredAs t r b (IsWord first last) s = (1 ≤ first) × (last ≤ 31)
StoredAs t r b IsProfile s = Unit
StoredAs t r b IsBands s = Unit
StoredAs t r b IsTriples s = r.gradients ≡ kept_triples (gradients_in s)
StoredAs t r b IsVoltage s = Unit
StoredAs t r b IsRegulator s = Unit
StoredAs t r b IsChange s = Unit
StoredAs t r b IsReactive s = Unit

abbrev pub Stored : MessageType → Rooms → Kind → List ℕ → Type 0
Stored t r k s = StoredAs t r k.blank k.shape s

-- so it is in a room where a text that is too long is not kept, and zeros stand past one that is
pub in_room : (n : ℕ) (s : List ℕ) → InRoom n (cond (leb (length s) n) (room_of n s) (replicate n 0)) s
unfolding room_of
in_room n s =
    by_le (length s) n
    (λ h. rw (le-leb (length s) n h) record {
      sized = omega (arith, length-append {A = ℕ} s (replicate (n - length s) 0), length-replicate {A = ℕ} (n - length s) 0);
      front = λ i. take-append_seam s (replicate (n - length s) 0);
    })
    (λ h. rw (lt-leb (length s) n h) record { sized = length-replicate n 0; front = λ i. absurd (omega arith) })

-- ---- a value that was read came from what its leaf read

read_is : {a v : Value} → Some a ≡ Some v → a ≡ v
read_is e = cc

not_read : {v : Value} → None ≡ Some v → ⊥
not_read e = let z : ◌≡◌ {A = ℕ} 0 1 = cc in omega arith

module _ (P : Value → Type 0) (v : Value) where
  from_id : (d : Option ℕ) → id_from d ≡ Some v → ((n : ℕ) → d ≡ Some n → P (Id n)) → P v
  from_id (Some n) e f = subst P (read_is e) (f n refl)
  from_id None e f = absurd (not_read e)

  from_count : (d : Option ℕ) → count_from d ≡ Some v → ((n : ℕ) → d ≡ Some n → P (Count n)) → P v
  from_count (Some n) e f = subst P (read_is e) (f n refl)
  from_count None e f = absurd (not_read e)

  from_date : (d : Option Date) → date_from d ≡ Some v → ((x : Date) → d ≡ Some x → P (When x)) → P v
  from_date (Some x) e f = subst P (read_is e) (f x refl)
  from_date None e f = absurd (not_read e)

  from_amount : (d : Option ℤ) → amount_from d ≡ Some v → ((n : ℤ) → d ≡ Some n → P (Amount n)) → P v
  from_amount (Some n) e f = subst P (read_is e) (f n refl)
  from_amount None e f = absurd (not_read e)

  from_word : (d : Option ℕ) → got_word d ≡ Some v → ((w : ℕ) → d ≡ Some w → P (Word w)) → P v
  from_word (Some w) e f = subst P (read_is e) (f w refl)
  from_word None e f = absurd (not_read e)

  from_list : (d : Option Few) → list_from d ≡ Some v → ((x : Few) → d ≡ Some x → P (Numbers x)) → P v
  from_list (Some x) e f = subst P (read_is e) (f x refl)
  from_list None e f = absurd (not_read e)

  from_triples : (d : Option Gradients) → triples_from d ≡ Some v → ((g : Gradients) → d ≡ Some g → P (Triples g.count)) → P v
  from_triples (Some g) e f = subst P (read_is e) (f g refl)
  from_triples None e f = absurd (not_read e)

  -- a test that was met
  from_test : (b : Bool) (a : Value) → cond b (Some a) None ≡ Some v → (b ≡ true → P a) → P v
  from_test true a e f = subst P (read_is e) (f refl)
  from_test false a e f = absurd (not_read e)

  from_setting : (make : ℤ → Value) (d : Option ℤ) (other : Option Value) → setting_from make d other ≡ Some v
      → ((n : ℤ) → d ≡ Some n → P (make n)) → (other ≡ Some v → P v) → P v
  from_setting make (Some n) other e f g = subst P (read_is e) (f n refl)
  from_setting make None other e f g = g e

-- ---- a text that was read as a shape fits it

kept : (most : ℕ) (room s : List ℕ) → leb (length s) most ≡ true → 1 ≤ length s → tidy s ≡ true → InRoom most room s → Kept most room (length s)
kept most room s e h d i =
    let few : length s ≤ most = leb-true (length s) most e in
    record { some = h; few = few; inside = omega (arith, i.sized); is_tidy = ap tidy (i.front few) ∙ d }

module _ (t : MessageType) (r : Rooms) (b : Bool) (s : List ℕ) (v : Value) (d : tidy s ≡ true) (ne : b ≡ true → 1 ≤ length s) where
  shape_fits : (a : Shape) → shape_of a s ≡ Some v → StoredAs t r b a s → Fits t r a v
  unfolding shape_of StoredAs
  shape_fits (IsId u) e h =
      from_id (Fits t r (IsId u)) v (identifier_of u s) e
      (λ n q. subst (λ (w : MessageType). Fits t r (IsId w) (Id n)) (sym h) (id (identifier_range u s n q)))
  shape_fits IsUnit e h =
      from_test (Fits t r IsUnit) v (is_unit s) (UnitOf (length s)) e
      (λ q. let z = unit_size s q in unit (omega (arith, z.1, h.sized)) (ap is_unit (h.front z.1) ∙ q))
  shape_fits IsWhen e h = from_date (Fits t r IsWhen) v (date_of s) e (λ x q. when (date_real s x q))
  shape_fits IsAmount e h = from_amount (Fits t r IsAmount) v (number_of s) e (λ n q. amount (number_range s n q))
  shape_fits IsCount e h = from_count (Fits t r IsCount) v (sequence_of s) e (λ n q. count (sequence_range s n q))
  shape_fits IsReason e h =
      from_test (Fits t r IsReason) v (leb (length s) 128) (Reason (length s)) e (λ q. reason (kept 128 r.reason s q (ne h.0) d h.1))
  shape_fits IsNote e h =
      from_test (Fits t r IsNote) v (leb (length s) 256) (Note (length s)) e (λ q. note (kept 256 r.note s q (ne h.0) d h.1))
  shape_fits (IsWord first last) e h =
      from_word (Fits t r (IsWord first last)) v (word_in first last s) e (λ w q. let z = word_range first last s w q in chosen h.0 z.0 z.1 h.1)
  shape_fits IsProfile e h = from_list (Fits t r IsProfile) v (profile_of s) e (λ x q. profile (numbers_valid 59 1 4 s x (omega arith) q))
  shape_fits IsBands e h = from_list (Fits t r IsBands) v (bands_of s) e (λ x q. bands (numbers_valid 59 2 2 s x (omega arith) q))
  shape_fits IsTriples e h =
      from_triples (Fits t r IsTriples) v (gradients_in s) e
      (λ g q. triples (subst (λ (l : List Triple). ValidGradients l g.count) (sym (h ∙ ap kept_triples q)) (gradients_valid s g q)))
  shape_fits IsVoltage e h =
      from_setting (Fits t r IsVoltage) v voltage (number_of s) (got_word (volt_in s)) e (λ n q. in_kv (number_range s n q))
      (λ o. from_word (Fits t r IsVoltage) v (volt_in s) o (λ w q. let z = volt_range s w q in kv_word z.0 z.1))
  shape_fits IsRegulator e h =
      from_setting (Fits t r IsRegulator) v regulator (number_of s) (got_word (volt_in s)) e (λ n q. in_rat (number_range s n q))
      (λ o. from_word (Fits t r IsRegulator) v (volt_in s) o (λ w q. let z = volt_range s w q in rat_word z.0 z.1))
  shape_fits IsChange e h =
      from_setting (Fits t r IsChange) v change (number_of s) None e (λ n q. in_change (number_range s n q)) (λ o. absurd (not_read o))
  shape_fits IsReactive e h =
      from_setting (Fits t r IsReactive) v reactive (number_of s) (got_word (word_in 25 27 s)) e (λ n q. in_mvar (number_range s n q))
      (λ o. from_word (Fits t r IsReactive) v (word_in 25 27 s) o (λ w q. let z = word_range 25 27 s w q in mvar_word z.0 z.1))

-- ---- a text that was read as a kind is held by it

-- where no blank was read and one was allowed, there is a text
some_text : (b : Bool) (s : List ℕ) → (b && eqb (length s) 0) ≡ false → b ≡ true → 1 ≤ length s
some_text b s e h = by_le 1 (length s) (λ i. i) (λ i. absurd (false≢true (sym (rw (h, eq-eqb (length s) 0 (omega arith)) at e))))

pub value_fits : (t : MessageType) (r : Rooms) (k : Kind) (s : List ℕ) (v : Value) → value_of k s ≡ Some v → tidy s ≡ true → Stored t r k s → Holds t r k v
unfolding value_of
value_fits t r k s v e d h =
    by_test (k.blank && eqb (length s) 0)
    (λ q. subst (Holds t r k) (read_is (rw q at e)) (blank (and_parts k.blank (eqb (length s) 0) q).0))
    (λ q. filled (shape_fits t r k.blank s v d (some_text k.blank s q) k.shape (rw q at e) h))
