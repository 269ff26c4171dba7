-- The texts of a record that stand in its rooms: the unit, the reason and the note are each the front of a room, as long as their value says, and the
-- gradients are triples of theirs. Assumes nothing.
use Prim.Native.Nat.{ℕ, ◌≤◌, ◌<◌}
use Rattle.value_ask.specs.Values.{size_in}
use Rattle.layout.proofs.Labels.{kinds_length}
use Rattle.layout.specs.Layouts.{kinds_of, size_of, type_of, no_kind}
use Rattle.layout.specs.Rows.{text_at}
use Rattle.layout.specs.declared.Layout.{Layout}
use Rattle.value_list.specs.Forms.{ValidGradients, gradients_text}
use Rattle.value_list.specs.declared.Triple.{Triple}
use Rattle.value_name.proofs.RoundTrip.{unit_size}
use Rattle.value_name.specs.declared.MessageType.{MessageType}
use Rattle.record.proofs.Places.{At, Owed, unit_at, reason_at, note_at}
use Rattle.layout.specs.FieldNumbers.{reason_field, note_field}
use Rattle.record.specs.Records.{field_of}
use Rattle.record.specs.declared.Cell.{Cell}
use Rattle.record_valid.proofs.Hold.{hold_at}
use Rattle.record_valid.specs.Valid.{HoldAll}
use Rattle.value.specs.Texts.{Rooms, value_text}
use Rattle.value.specs.Valid.{Fits, Holds}
use Rattle.value.specs.Valid.Fits.{unit, reason, note, triples}
use Rattle.value.specs.Valid.Holds.{blank, filled}
use Rattle.value.specs.declared.Kind.{Kind}
use Rattle.value.specs.declared.Shape.{Shape}
use Rattle.value.specs.declared.Shape.TheVariants.{IsUnit, IsReason, IsNote, IsTriples}
use Rattle.value.specs.declared.Value.{Value}
use Rattle.value.specs.declared.Value.TheVariants.{Blank}
use Rattle.writer_form.proofs.Columns.{field_at}
use Rattle.writer_form.specs.Written.{values_in}
use lib.ListN.{length, get_or, take, length-take, get_or-map}
use mathlib.Core.Bool.{false, false≢true}
use mathlib.Core.List.{List, map}
use mathlib.Core.Logic.{⊎_elim}
use mathlib.Core.Path.{◌≡◌, refl, sym, ap, ◌∙◌, subst}
use native.Mathlib.Omega.{arith}

-- a text that is the first n of a room, and no longer than it may be
pub record Front (most : ℕ) (room text : List ℕ) (n : ℕ) : Type 0 where
  pub text_is : text ≡ take n room
  pub few : n ≤ most
  pub inside : n ≤ length room

pub front_short : {most : ℕ} {room text : List ℕ} {n : ℕ} → Front most room text n → length text ≤ most
front_short {room = room} {n = n} f = omega (arith, ap length f.text_is, length-take n room, f.few)

-- the text of some triples of a room
pub record Listed (room : List Triple) (text : List ℕ) : Type 0 where
  pub count : ℕ
  pub text_is : text ≡ gradients_text room count
  pub are : ValidGradients room count

-- ---- one value, of a shape and of a kind

module _ (t : MessageType) (r : Rooms) where
  unit_front : (x : Value) → Fits t r IsUnit x → Front 16 r.unit (value_text t r x) (size_in x)
  unfolding value_text
  unit_front x (unit {n} h u) =
      record { text_is = refl; few = omega (arith, h, length-take n r.unit, (unit_size (take n r.unit) u).1); inside = h }

  reason_front : (x : Value) → Fits t r IsReason x → Front 128 r.reason (value_text t r x) (size_in x)
  unfolding value_text
  reason_front x (reason {n} k) = record { text_is = refl; few = k.few; inside = k.inside }

  note_front : (x : Value) → Fits t r IsNote x → Front 256 r.note (value_text t r x) (size_in x)
  unfolding value_text
  note_front x (note {n} k) = record { text_is = refl; few = k.few; inside = k.inside }

  -- the text of a blank is empty: the front of any room
  kind_front : (a : Shape) (most : ℕ) (room : List ℕ) → ((x : Value) → Fits t r a x → Front most room (value_text t r x) (size_in x))
      → (k : Kind) (x : Value) → k.shape ≡ a → Holds t r k x → Front most room (value_text t r x) (size_in x)
  unfolding value_text
  kind_front a most room f k x s (blank e) = record { text_is = refl; few = omega arith; inside = omega arith }
  kind_front a most room f k x s (filled h) = f x (subst (λ (b : Shape). Fits t r b x) s h)

  shape_listed : (x : Value) → Fits t r IsTriples x → Listed r.gradients (value_text t r x)
  unfolding value_text
  shape_listed x (triples {n} g) = record { count = n; text_is = refl; are = g }

  kind_listed : (k : Kind) (x : Value) → k.shape ≡ IsTriples → k.blank ≡ false → Holds t r k x → Listed r.gradients (value_text t r x)
  kind_listed k x s b (blank e) = absurd (false≢true (sym b ∙ e))
  kind_listed k x s b (filled h) = shape_listed x (subst (λ (a : Shape). Fits t r a x) s h)

-- ---- the value and the text of a field

module _ (l : Layout) (r : Rooms) (cells : List Cell) {vs : List Value} (are : values_in l cells ≡ vs) (hold : HoldAll (type_of l) r (kinds_of l) vs) where
  abbrev said : Value → List ℕ
  said = value_text (type_of l) r

  abbrev text_of : ℕ → List ℕ
  text_of k = text_at (map said vs) k

  held_at : {a : Shape} {k : ℕ} (w : At l a k) → Holds (type_of l) r (get_or (kinds_of l) w.place no_kind) (get_or vs w.place Blank)
  held_at w = hold_at hold w.place w.inside

  text_at_lem : {a : Shape} {k : ℕ} (w : At l a k) → text_of k ≡ said (get_or vs w.place Blank)
  unfolding value_text
  text_at_lem w = ap text_of w.field_is ∙ get_or-map said vs w.place Blank

  value_at : {a : Shape} {k : ℕ} (w : At l a k) → field_of cells k ≡ get_or vs w.place Blank
  value_at w =
      let h : w.place < size_of l = omega (arith, w.inside, kinds_length l) in
      ap (field_of cells) w.field_is ∙ field_at l cells w.place h ∙ ap (λ (us : List Value). get_or us w.place Blank) are

  -- where the layout has no such field, its text is empty
  none_front : (k most : ℕ) (room : List ℕ) → k ≡ 0 → Front most room (text_of k) (size_in (field_of cells k))
  unfolding field_of
  none_front k most room e = rw e (record { text_is = refl; few = omega arith; inside = omega arith })

  field_front : (a : Shape) (k most : ℕ) (room : List ℕ) → ((x : Value) → Fits (type_of l) r a x → Front most room (said x) (size_in x))
      → At l a k → Front most room (text_of k) (size_in (field_of cells k))
  field_front a k most room f w =
      rw (text_at_lem w, value_at w)
      (kind_front (type_of l) r a most room f (get_or (kinds_of l) w.place no_kind) (get_or vs w.place Blank) w.shape_is (held_at w))

  -- ---- the rooms

  pub unit_said : Front 16 r.unit (text_of 2) (size_in (field_of cells 2))
  unit_said = field_front IsUnit 2 16 r.unit (unit_front (type_of l) r) (unit_at l)

  pub reason_said : Front 128 r.reason (text_of (reason_field l)) (size_in (field_of cells (reason_field l)))
  reason_said =
      let k = reason_field l in
      ⊎_elim (none_front k 128 r.reason) (field_front IsReason k 128 r.reason (reason_front (type_of l) r)) (reason_at l)

  pub note_said : Front 256 r.note (text_of (note_field l)) (size_in (field_of cells (note_field l)))
  note_said =
      let k = note_field l in
      ⊎_elim (none_front k 256 r.note) (field_front IsNote k 256 r.note (note_front (type_of l) r)) (note_at l)

  pub triples_said : {k : ℕ} → Owed l IsTriples k → Listed r.gradients (text_of k)
  triples_said o =
      let w = o.at in
      rw (text_at_lem w)
      (kind_listed (type_of l) r (get_or (kinds_of l) w.place no_kind) (get_or vs w.place Blank) w.shape_is o.owed (held_at w))
