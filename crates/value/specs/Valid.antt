-- What a valid value is where a kind stands: one line for each shape. Document 01, "Values" and "Written form": a record is valid when its
-- fields obey the above and its texts are trimmed. No rule across fields stands here.
use Rattle.std.specs.Prelude.{ℕ, ◌^◌, ◌≤◌, ◌<◌, ℤ, length, take, true, List, ◌≡◌}
use Rattle.value_date.specs.Date.{is_real}
use Rattle.value_date.specs.declared.Date.{Date}
use Rattle.value_list.specs.Forms.{InRange, ValidNumbers, ValidGradients}
use Rattle.value_list.specs.declared.Numbers.{Numbers as Few}
use Rattle.value_name.specs.Names.{is_unit}
use Rattle.value_name.specs.declared.MessageType.{MessageType}
use Rattle.text.specs.Bytes.{tidy}
use Rattle.value.specs.Kinds.{voltage, regulator, change, reactive}
use Rattle.value.specs.Texts.{Rooms}
use Rattle.value.specs.declared.Kind.{Kind}
use Rattle.value.specs.declared.Shape.{Shape}
use Rattle.value.specs.declared.Shape.TheVariants.{IsId, IsUnit, IsWhen, IsAmount, IsCount, IsReason, IsNote, IsWord, IsProfile, IsBands, IsTriples}
use Rattle.value.specs.declared.Shape.TheVariants.{IsVoltage, IsRegulator, IsChange, IsReactive}
use Rattle.value.specs.declared.Value.{Value}
use Rattle.value.specs.declared.Value.TheVariants.{Blank, Id, Unit, When, Amount, Count, Reason, Note, Word, List as Numbers, Triples}
use Rattle.value_word.specs.Names.{w_v_max, w_v_min, w_q_zero, w_max_sottoeccitazione, w_fino_a_pmax}

-- n bytes of a room that hold a text: 1 to most of them, printable and trimmed
pub record Kept (most : ℕ) (room : List ℕ) (n : ℕ) : Type 0 where
  pub some : 1 ≤ n
  pub few : n ≤ most
  pub inside : n ≤ length room
  pub is_tidy : tidy (take n room) ≡ true

pub data Fits (t : MessageType) (r : Rooms) : Shape → Value → Type 0 where
  id : {n : ℕ} → n < 10 ^ 10 → Fits t r (IsId t) (Id n)
  unit : {n : ℕ} → n ≤ length r.unit → is_unit (take n r.unit) ≡ true → Fits t r IsUnit (Unit n)
  when : {d : Date} → is_real d ≡ true → Fits t r IsWhen (When d)
  amount : {v : ℤ} → InRange v → Fits t r IsAmount (Amount v)
  count : {n : ℕ} → n < 10 ^ 10 → Fits t r IsCount (Count n)
  reason : {n : ℕ} → Kept 128 r.reason n → Fits t r IsReason (Reason n)
  note : {n : ℕ} → Kept 256 r.note n → Fits t r IsNote (Note n)
  chosen : {first last w : ℕ} → 1 ≤ first → first ≤ w → w ≤ last → last ≤ w_fino_a_pmax → Fits t r (IsWord first last) (Word w)
  profile : {x : Few} → ValidNumbers 1 4 x → Fits t r IsProfile (Numbers x)
  bands : {x : Few} → ValidNumbers 2 2 x → Fits t r IsBands (Numbers x)
  triples : {n : ℕ} → ValidGradients r.gradients n → Fits t r IsTriples (Triples n)
  in_kv : {v : ℤ} → InRange v → Fits t r IsVoltage (voltage v)
  kv_word : {w : ℕ} → w_v_max ≤ w → w ≤ w_v_min → Fits t r IsVoltage (Word w)
  in_rat : {v : ℤ} → InRange v → Fits t r IsRegulator (regulator v)
  rat_word : {w : ℕ} → w_v_max ≤ w → w ≤ w_v_min → Fits t r IsRegulator (Word w)
  in_change : {v : ℤ} → InRange v → Fits t r IsChange (change v)
  in_mvar : {v : ℤ} → InRange v → Fits t r IsReactive (reactive v)
  mvar_word : {w : ℕ} → w_q_zero ≤ w → w ≤ w_max_sottoeccitazione → Fits t r IsReactive (Word w)

-- a value of a kind: blank where it may be, or one that fits its shape
pub data Holds (t : MessageType) (r : Rooms) (k : Kind) : Value → Type 0 where
  blank : k.blank ≡ true → Holds t r k Blank
  filled : {v : Value} → Fits t r k.shape v → Holds t r k v
