-- What the fields of a valid record hold that may not be blank: a number, an instant, an amount. Assumes nothing.
use Prim.Native.Nat.{ℕ, ◌≤◌, ◌<◌}
use Rattle.value_bounds.specs.Bounds.{is_amount, first_instant, last_instant, most_number}
use Rattle.value_ask.specs.Values.{is_filled, number_in, instant_in, amount_in, count_in}
use Rattle.value_fits.proofs.Ranges.{range_tells}
use Rattle.value_instants.proofs.Reach.{bounded}
use Rattle.layout.specs.Layouts.{kinds_of, no_kind, type_of}
use Rattle.value_name.specs.declared.MessageType.{MessageType}
use Rattle.record.proofs.Fields.{field_value_at}
use Rattle.record.proofs.Places.{Owed}
use Rattle.record.specs.Records.{field_of, rooms_of}
use Rattle.record.specs.declared.Record.{Record}
use Rattle.record_valid.proofs.Hold.{hold_length, hold_at}
use Rattle.record_valid.specs.Valid.{Valid}
use Rattle.value.specs.Texts.{Rooms}
use Rattle.value.specs.Valid.{Fits, Holds}
use Rattle.value.specs.Valid.Fits.{id, when, amount, count}
use Rattle.value.specs.Valid.Holds.{blank, filled}
use Rattle.value.specs.declared.Kind.{Kind}
use Rattle.value.specs.declared.Shape.{Shape}
use Rattle.value.specs.declared.Shape.TheVariants.{IsId, IsWhen, IsAmount, IsCount}
use Rattle.value.specs.declared.Value.{Value}
use lib.ListN.{length, get_or}
use mathlib.Core.Bool.{true, false, false≢true}
use mathlib.Core.Path.{◌≡◌, refl, sym, ◌∙◌, subst}
use native.Mathlib.Omega.{arith}

-- a value that is a date
pub record Dated (v : Value) : Type 0 where
  pub is_filled_so : is_filled v ≡ true
  pub from : first_instant ≤ instant_in v
  pub to : instant_in v ≤ last_instant

-- ---- one value

module _ {t : MessageType} {r : Rooms} where
  number_held : {u : MessageType} {v : Value} → Fits t r (IsId u) v → number_in v ≤ most_number
  number_held (id h) = omega arith

  date_held : {v : Value} → Fits t r IsWhen v → Dated v
  date_held (when {d} e) = let b = bounded d e in record { is_filled_so = refl; from = b.0; to = b.1 }

  amount_held : {v : Value} → Fits t r IsAmount v → is_amount (amount_in v) ≡ true
  unfolding is_amount
  amount_held (amount {v} h) = (range_tells v).1 h

  count_held : {v : Value} → Fits t r IsCount v → count_in v ≤ most_number
  count_held (count h) = omega arith

  -- a kind that lets no blank stand
  owed : (k : Kind) {a : Shape} {v : Value} → k.shape ≡ a → k.blank ≡ false → Holds t r k v → Fits t r a v
  owed k s b (blank e) = absurd (false≢true (sym b ∙ e))
  owed k {v = v} s b (filled h) = subst (λ (a : Shape). Fits t r a v) s h

-- ---- the field of a layout

module _ (r : Record) (w : Valid r) where
  field_held : {a : Shape} {k : ℕ} → Owed r.layout a k → Fits (type_of r.layout) (rooms_of r) a (field_of r.cells k)
  field_held o =
      let j = o.at.place in
      let hold = w.valid.hold in
      let h : j < length w.values = omega (arith, o.at.inside, hold_length hold) in
      rw (w.valid.cells_are, o.at.field_is, field_value_at w.values j h)
      (owed (get_or (kinds_of r.layout) j no_kind) o.at.shape_is o.owed (hold_at hold j o.at.inside))

  pub number_in_lem : {k : ℕ} → Owed r.layout (IsId (type_of r.layout)) k → number_in (field_of r.cells k) ≤ most_number
  number_in_lem o = number_held (field_held o)

  pub date_in : {k : ℕ} → Owed r.layout IsWhen k → Dated (field_of r.cells k)
  date_in o = date_held (field_held o)

  pub amount_in_lem : {k : ℕ} → Owed r.layout IsAmount k → is_amount (amount_in (field_of r.cells k)) ≡ true
  amount_in_lem o = amount_held (field_held o)

  pub count_in_lem : {k : ℕ} → Owed r.layout IsCount k → count_in (field_of r.cells k) ≤ most_number
  count_in_lem o = count_held (field_held o)
