-- The room that a record may leave unused: where its texts are told, whether it has triples, and that its arrays have their sizes. Assumes nothing.
use Prim.Native.Nat.{ℕ, ◌≤◌}
use Rattle.value_fits.specs.Fits.{is_no_triple}
use Rattle.layout.proofs.Labels.{few}
use Rattle.layout.specs.declared.Layout.{Layout}
use Rattle.value_list.specs.declared.Triple.{Triple}
use Rattle.record.proofs.Rooms.{reason_in, note_in}
use Rattle.layout.specs.FieldNumbers.{reason_field, note_field, gradients_field}
use Rattle.record.specs.declared.Record.{Record}
use Rattle.text.specs.Bytes.{all}
use Rattle.record_check.specs.Validity.{no_triples, is_sized}
use borrow.Author.Tests.{lt-ltb, le-ltb, eq-eqb}
use lib.Dec.{eqb}
use lib.ListN.{length}
use mathlib.Core.Bool.{true}
use mathlib.Core.List.{List}
use mathlib.Core.Path.{◌≡◌}
use native.Mathlib.Omega.{arith}

-- ---- the fields with the reason and the note have a cell

pub few_texts : (l : Layout) → (reason_field l ≤ 26) × (note_field l ≤ 26)
few_texts l = (omega (arith, reason_in l, few l), omega (arith, note_in l, few l))

-- ---- triples are asked for where no field has them

module _ (l : Layout) (values : List Triple) (k : ℕ) (e : k ≡ gradients_field l) where
  pub with_triples : (k ≡ 0 → ⊥) → true ≡ no_triples l values
  unfolding no_triples
  with_triples n = rw (lt-ltb 0 (gradients_field l) (omega (arith, n, e)))

  pub without_triples : k ≡ 0 → all is_no_triple values ≡ no_triples l values
  unfolding no_triples
  without_triples n = rw (le-ltb 0 (gradients_field l) (omega (arith, n, e)))

-- ---- the arrays of a record that a function is handed have their sizes

of_length : {A : Type 0} (l : List A) (n : ℕ) → length l ≡ n → eqb (length l) n ≡ true
of_length l n e = eq-eqb (length l) n e

pub sized : (r : Record) → length r.cells ≡ 26 → length r.unit ≡ 16 → length r.reason ≡ 128 → length r.note ≡ 256 → length r.gradients ≡ 16
    → is_sized r ≡ true
unfolding is_sized
sized r cells unit reason note gradients =
    rw (
      of_length r.cells 26 cells,
      of_length r.unit 16 unit,
      of_length r.reason 128 reason,
      of_length r.note 256 note,
      of_length r.gradients 16 gradients,
    )
