-- The triples of a record whose values are held: they are sixteen, and all zero where the layout has no gradients. Assumes nothing.
use Prim.Native.Nat.{◌<◌}
use Rattle.value_fits.proofs.Gradients.{unused_triples}
use Rattle.layout.specs.Layouts.{kinds_of, type_of}
use Rattle.layout.specs.declared.Layout.{Layout}
use Rattle.value_list.specs.Forms.{no_triple}
use Rattle.value_list.specs.declared.Triple.{Triple}
use Rattle.record.proofs.Places.{gradients_at}
use Rattle.layout.specs.FieldNumbers.{gradients_field}
use Rattle.record.specs.declared.Cell.{Cell}
use Rattle.record_valid.specs.Valid.{HoldAll}
use Rattle.record_check.specs.Validity.{no_triples}
use Rattle.value.specs.Texts.{Rooms}
use Rattle.writer_form.proofs.Texts.{triples_said}
use Rattle.writer_form.specs.Written.{values_in}
use borrow.Author.Tests.{lt-ltb}
use lib.ListN.{length, replicate}
use mathlib.Core.Bool.{true}
use mathlib.Core.List.{List}
use mathlib.Core.Logic.{◌↔◌, ⊎_elim}
use mathlib.Core.Path.{◌≡◌, refl}
use native.Mathlib.Omega.{arith}

-- what is tested, and what it tells
abbrev Told : Layout → List Triple → Type 0
Told l values = ((length values ≡ 16) × (no_triples l values ≡ true)) ↔ (gradients_field l ≡ 0 → values ≡ replicate 16 no_triple)

module _ (l : Layout) (values : List Triple) where
  without : gradients_field l ≡ 0 → Told l values
  unfolding no_triples
  without e = let u = unused_triples 0 values (omega arith) (omega arith) in rw e (λ p z. u.0 p, λ f. u.1 (f refl))

  -- then neither says anything
  with_some : 0 < gradients_field l → length values ≡ 16 → Told l values
  unfolding no_triples
  with_some h n = rw (lt-ltb 0 (gradients_field l) h) (λ p z. absurd (omega (arith, h, z)), λ f. (n, refl))

pub gradients_tell : (l : Layout) (r : Rooms) (cells : List Cell) → HoldAll (type_of l) r (kinds_of l) (values_in l cells) → Told l r.gradients
gradients_tell l r cells hold =
    ⊎_elim (without l r.gradients)
    (λ o. with_some l r.gradients (omega (arith, o.at.field_is)) (triples_said l r cells refl hold o).are.sixteen)
    (gradients_at l)
