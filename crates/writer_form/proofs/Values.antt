-- The values of a valid record are those of its cells. Assumes nothing.
use Prim.Native.Nat.{ℕ, ◌-◌}
use Rattle.layout.proofs.Labels.{kinds_length}
use Rattle.layout.specs.Layouts.{size_of, type_of}
use Rattle.record.specs.Records.{cell, cells_of, rooms_of}
use Rattle.record.specs.declared.Cell.{Cell}
use Rattle.record.specs.declared.Record.{Record}
use Rattle.record_valid.proofs.Hold.{hold_length}
use Rattle.record_valid.specs.Valid.{ValidAs, texts_of}
use Rattle.value.specs.Texts.{value_text}
use Rattle.value.specs.declared.Value.{Value}
use Rattle.value.specs.declared.Value.TheVariants.{Blank}
use Rattle.writer_form.specs.Written.{written_of, values_in, message_text, file_of}
use lib.ListN.{length, take, replicate}
use mathlib.Core.List.{List, [], ◌∷◌, ◌++◌, map}
use mathlib.Core.Path.{◌≡◌, refl, sym, ap, ◌∙◌}

-- the front of a list of cells
pub cells_front : (vs : List Value) (rest : List Cell) → map (λ (c : Cell). c.value) (take (length vs) (map cell vs ++ rest)) ≡ vs
cells_front [] rest = refl
cells_front (v ∷ vs) rest = ap (λ (ws : List Value). v ∷ ws) (cells_front vs rest)

module _ {r : Record} {vs : List Value} (v : ValidAs r vs) where
  pub values_length : length vs ≡ size_of r.layout
  values_length = hold_length v.hold ∙ kinds_length r.layout

  pub values_are : values_in r.layout r.cells ≡ vs
  unfolding values_in cells_of
  values_are =
      ap (λ (cells : List Cell). map (λ (c : Cell). c.value) (take (size_of r.layout) cells)) v.cells_are
      ∙ ap (λ (n : ℕ). map (λ (c : Cell). c.value) (take n (cells_of vs))) (sym values_length)
      ∙ cells_front vs (replicate (26 - length vs) (cell Blank))

  -- so its file is that of their texts
  pub file_is : file_of r ≡ written_of r.layout (texts_of r vs)
  unfolding file_of message_text texts_of
  file_is = ap (λ (ws : List Value). written_of r.layout (map (value_text (type_of r.layout) (rooms_of r)) ws)) values_are
