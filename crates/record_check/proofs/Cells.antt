-- The cells of a record whose values are held: they are those of its values exactly where there are 26 and the others are blank. Assumes nothing.
use Prim.Native.Nat.{ℕ, ◌-◌, ◌≤◌}
use Rattle.value_ask.specs.Values.{is_filled}
use Rattle.value_ask.proofs.Others.{blank_is}
use Rattle.value_fits.proofs.Unused.{unused_tells}
use Rattle.layout.proofs.Labels.{few, kinds_length}
use Rattle.layout.specs.Layouts.{kinds_of, size_of}
use Rattle.layout.specs.declared.Layout.{Layout}
use Rattle.value_name.specs.declared.MessageType.{MessageType}
use Rattle.record.specs.Records.{cell, cells_of}
use Rattle.record.specs.declared.Cell.{Cell}
use Rattle.text.proofs.Tests.{Tells}
use Rattle.text.specs.Bytes.{all}
use Rattle.record_valid.proofs.Hold.{hold_length}
use Rattle.record_valid.specs.Valid.{HoldAll}
use Rattle.record_check.specs.Validity.{is_blank_cell}
use Rattle.value.specs.Texts.{Rooms}
use Rattle.value.specs.declared.Value.TheVariants.{Blank}
use Rattle.writer_form.specs.Written.{values_in}
use borrow.Author.Tests.{not-true}
use lib.ListN.{length, take, drop, replicate, length-map, length-take}
use mathlib.Core.Bool.{true}
use mathlib.Core.List.{List, [], ◌∷◌, ◌++◌, map}
use mathlib.Core.Logic.{◌↔◌}
use mathlib.Core.Path.{◌≡◌, refl, ap, ap₂}
use native.Mathlib.Omega.{arith}

blank_tells : (c : Cell) → Tells (is_blank_cell c) (c ≡ cell Blank)
blank_tells c = (λ e. ap cell (blank_is c.value (not-true (is_filled c.value) e)), λ e. ap is_blank_cell e)

-- a cell has nothing but its value
cells_back : (cells : List Cell) → map cell (map (λ (c : Cell). c.value) cells) ≡ cells
cells_back [] = refl
cells_back (c ∷ cells) = ap (λ (l : List Cell). c ∷ l) (cells_back cells)

module _ (l : Layout) (cells : List Cell) where
  values_size : length (values_in l cells) ≡ length (take (size_of l) cells)
  unfolding values_in
  values_size = length-map (take (size_of l) cells) (λ (c : Cell). c.value)

  -- a cell for each field
  enough : {t : MessageType} {r : Rooms} → HoldAll t r (kinds_of l) (values_in l cells) → size_of l ≤ length cells
  enough hold = omega (arith, hold_length hold, kinds_length l, values_size, length-take (size_of l) cells)

  cells_of_lem : size_of l ≤ length cells → cells_of (values_in l cells) ≡ take (size_of l) cells ++ replicate (26 - size_of l) (cell Blank)
  unfolding cells_of values_in
  cells_of_lem h =
      let n : length (values_in l cells) ≡ size_of l = omega (arith, values_size, length-take (size_of l) cells, h) in
      ap₂ (λ (a : List Cell) (m : ℕ). a ++ replicate (26 - m) (cell Blank)) (cells_back (take (size_of l) cells)) n

  pub cells_tell : {t : MessageType} {r : Rooms} → HoldAll t r (kinds_of l) (values_in l cells)
      → ((length cells ≡ 26) × (all is_blank_cell (drop (size_of l) cells) ≡ true)) ↔ (cells ≡ cells_of (values_in l cells))
  cells_tell hold =
      rw (cells_of_lem (enough hold)) (unused_tells is_blank_cell (cell Blank) blank_tells 26 (size_of l) cells (few l) (enough hold))
