-- Where the unit, the reason, the note and the gradients of a layout stand, by tests that antt computes over the tables. Assumes nothing.
use Prim.Native.Nat.{ℕ, suc, ◌<◌}
use Rattle.layout.specs.FieldNumbers.{unit_no, reason_field, note_field, gradients_field}
use Rattle.layout.specs.Fields.{market, command, technical, mfrr, rc, mg, eb, lb, sr, vq, ri, qr}
use Rattle.layout.specs.Layouts.{fields_of, kinds_of, no_kind}
use Rattle.layout.specs.declared.Layout.{Layout}
use Rattle.layout.specs.declared.Layout.TheVariants.{Market, Mfrr, Revocation, Generic, Exclusion, Limitation, Secondary, VoltVar, Rejection, Reserve}
use Rattle.value.specs.declared.Shape.{Shape}
use Rattle.value.specs.declared.Shape.TheVariants.{IsUnit, IsReason, IsNote, IsTriples}
use borrow.Author.Tests.{ltb-true}
use lib.ListN.{length, get_or}
use mathlib.Core.Bool.{false}
use mathlib.Core.Logic.{◌⊎◌, inl, inr}
use mathlib.Core.Path.{◌≡◌, refl}

-- the field k of the layout is of the shape a
pub record At (l : Layout) (a : Shape) (k : ℕ) : Type 0 where
  pub place : ℕ
  pub field_is : k ≡ suc place
  pub inside : place < length (kinds_of l)
  pub shape_is : (get_or (kinds_of l) place no_kind).shape ≡ a

pub unit_at : (l : Layout) → At l IsUnit unit_no
unfolding kinds_of fields_of market command technical mfrr rc mg eb lb sr vq ri qr
unit_at Market = record { place = 1; field_is = refl; inside = ltb-true _ _ refl; shape_is = refl }
unit_at Mfrr = record { place = 1; field_is = refl; inside = ltb-true _ _ refl; shape_is = refl }
unit_at Revocation = record { place = 1; field_is = refl; inside = ltb-true _ _ refl; shape_is = refl }
unit_at Generic = record { place = 1; field_is = refl; inside = ltb-true _ _ refl; shape_is = refl }
unit_at Exclusion = record { place = 1; field_is = refl; inside = ltb-true _ _ refl; shape_is = refl }
unit_at Limitation = record { place = 1; field_is = refl; inside = ltb-true _ _ refl; shape_is = refl }
unit_at Secondary = record { place = 1; field_is = refl; inside = ltb-true _ _ refl; shape_is = refl }
unit_at VoltVar = record { place = 1; field_is = refl; inside = ltb-true _ _ refl; shape_is = refl }
unit_at Rejection = record { place = 1; field_is = refl; inside = ltb-true _ _ refl; shape_is = refl }
unit_at Reserve = record { place = 1; field_is = refl; inside = ltb-true _ _ refl; shape_is = refl }

pub reason_at : (l : Layout) → (reason_field l ≡ 0) ⊎ At l IsReason (reason_field l)
unfolding kinds_of fields_of market command technical mfrr rc mg eb lb sr vq ri qr
reason_at Market = inl refl
reason_at Mfrr = inl refl
reason_at Revocation = inl refl
reason_at Generic = inr (record { place = 4; field_is = refl; inside = ltb-true _ _ refl; shape_is = refl })
reason_at Exclusion = inr (record { place = 4; field_is = refl; inside = ltb-true _ _ refl; shape_is = refl })
reason_at Limitation = inr (record { place = 6; field_is = refl; inside = ltb-true _ _ refl; shape_is = refl })
reason_at Secondary = inr (record { place = 6; field_is = refl; inside = ltb-true _ _ refl; shape_is = refl })
reason_at VoltVar = inl refl
reason_at Rejection = inr (record { place = 4; field_is = refl; inside = ltb-true _ _ refl; shape_is = refl })
reason_at Reserve = inl refl

pub note_at : (l : Layout) → (note_field l ≡ 0) ⊎ At l IsNote (note_field l)
unfolding kinds_of fields_of market command technical mfrr rc mg eb lb sr vq ri qr
note_at Market = inl refl
note_at Mfrr = inl refl
note_at Revocation = inl refl
note_at Generic = inr (record { place = 5; field_is = refl; inside = ltb-true _ _ refl; shape_is = refl })
note_at Exclusion = inr (record { place = 5; field_is = refl; inside = ltb-true _ _ refl; shape_is = refl })
note_at Limitation = inr (record { place = 7; field_is = refl; inside = ltb-true _ _ refl; shape_is = refl })
note_at Secondary = inr (record { place = 7; field_is = refl; inside = ltb-true _ _ refl; shape_is = refl })
note_at VoltVar = inr (record { place = 11; field_is = refl; inside = ltb-true _ _ refl; shape_is = refl })
note_at Rejection = inr (record { place = 5; field_is = refl; inside = ltb-true _ _ refl; shape_is = refl })
note_at Reserve = inr (record { place = 7; field_is = refl; inside = ltb-true _ _ refl; shape_is = refl })

-- and may not be blank
pub record Owed (l : Layout) (a : Shape) (k : ℕ) : Type 0 where
  pub at : At l a k
  pub owed : (get_or (kinds_of l) at.place no_kind).blank ≡ false

pub gradients_at : (l : Layout) → (gradients_field l ≡ 0) ⊎ Owed l IsTriples (gradients_field l)
unfolding kinds_of fields_of market command technical mfrr rc mg eb lb sr vq ri qr
gradients_at Market = inr (record { at = record { place = 25; field_is = refl; inside = ltb-true _ _ refl; shape_is = refl }; owed = refl })
gradients_at Mfrr = inl refl
gradients_at Revocation = inl refl
gradients_at Generic = inl refl
gradients_at Exclusion = inl refl
gradients_at Limitation = inl refl
gradients_at Secondary = inl refl
gradients_at VoltVar = inl refl
gradients_at Rejection = inl refl
gradients_at Reserve = inl refl
