-- The fields that have a room of the record are fields of the layout. Assumes nothing.
use Prim.Native.Nat.{◌≤◌}
use Rattle.layout.proofs.Labels.{some_fields}
use Rattle.layout.specs.FieldNumbers.{unit_no, reason_field, note_field, gradients_field}
use Rattle.layout.specs.Fields.{command, technical, market, mfrr, rc, mg, eb, lb, sr, vq, ri, qr}
use Rattle.layout.specs.Layouts.{fields_of, size_of}
use Rattle.layout.specs.declared.Layout.TheVariants.{Market, Mfrr, Revocation, Generic, Exclusion, Limitation, Secondary, VoltVar, Rejection, Reserve}
use Rattle.layout.specs.declared.Layout.{Layout}
use borrow.Author.Tests.{leb-true}
use mathlib.Core.Path.{refl}
use native.Mathlib.Omega.{arith}

pub unit_in : (l : Layout) → unit_no ≤ size_of l
unit_in l = omega (arith, some_fields l)

pub reason_in : (l : Layout) → reason_field l ≤ size_of l
unfolding fields_of market command technical mfrr rc mg eb lb sr vq ri qr
reason_in Market = leb-true _ _ refl
reason_in Mfrr = leb-true _ _ refl
reason_in Revocation = leb-true _ _ refl
reason_in Generic = leb-true _ _ refl
reason_in Exclusion = leb-true _ _ refl
reason_in Limitation = leb-true _ _ refl
reason_in Secondary = leb-true _ _ refl
reason_in VoltVar = leb-true _ _ refl
reason_in Rejection = leb-true _ _ refl
reason_in Reserve = leb-true _ _ refl

pub note_in : (l : Layout) → note_field l ≤ size_of l
unfolding fields_of market command technical mfrr rc mg eb lb sr vq ri qr
note_in Market = leb-true _ _ refl
note_in Mfrr = leb-true _ _ refl
note_in Revocation = leb-true _ _ refl
note_in Generic = leb-true _ _ refl
note_in Exclusion = leb-true _ _ refl
note_in Limitation = leb-true _ _ refl
note_in Secondary = leb-true _ _ refl
note_in VoltVar = leb-true _ _ refl
note_in Rejection = leb-true _ _ refl
note_in Reserve = leb-true _ _ refl

pub gradients_in : (l : Layout) → gradients_field l ≤ size_of l
unfolding fields_of market command technical mfrr rc mg eb lb sr vq ri qr
gradients_in Market = leb-true _ _ refl
gradients_in Mfrr = leb-true _ _ refl
gradients_in Revocation = leb-true _ _ refl
gradients_in Generic = leb-true _ _ refl
gradients_in Exclusion = leb-true _ _ refl
gradients_in Limitation = leb-true _ _ refl
gradients_in Secondary = leb-true _ _ refl
gradients_in VoltVar = leb-true _ _ refl
gradients_in Rejection = leb-true _ _ refl
gradients_in Reserve = leb-true _ _ refl
