-- The values of a layout's fields, one by one: what the loop that asks each of them goes by. Assumes nothing.
use Prim.Native.Nat.{ℕ, ◌+◌, ◌≤◌, ◌<◌}
use Rattle.value_fits.specs.Fits.{holds}
use Rattle.layout.proofs.Labels.{few, kinds_length, kind_at_lem}
use Rattle.layout.specs.Layouts.{kinds_of, size_of, type_of, kind_at, no_kind}
use Rattle.layout.specs.declared.Layout.{Layout}
use Rattle.value_name.specs.declared.MessageType.{MessageType}
use Rattle.record.specs.Records.{cell}
use Rattle.record.specs.declared.Cell.{Cell}
use Rattle.record_check.specs.Validity.{holds_all}
use Rattle.value.specs.Texts.{Rooms}
use Rattle.value.specs.declared.Kind.{Kind}
use Rattle.value.specs.declared.Value.TheVariants.{Blank}
use Rattle.writer_form.specs.Written.{values_in}
use borrow.Author.Tests.{not-true, not-false}
use lib.ListN.{length, get_or, take, drop, length-take, length-map, drop_of_length-le, get_or-map}
use lib.Seq.{drop-cons, get_or-take}
use mathlib.Core.Bool.{Bool, true, false, not, ◌&&◌}
use mathlib.Core.List.{List}
use mathlib.Core.Path.{◌≡◌, ap, ◌∙◌}
use native.Mathlib.Numerals.{add-one}
use native.Mathlib.Omega.{arith}

module _ (l : Layout) (cells : List Cell) (room : length cells ≡ 26) where
  values_length : length (values_in l cells) ≡ size_of l
  unfolding values_in
  values_length = omega (arith, few l, room, length-map (take (size_of l) cells) (λ (c : Cell). c.value), length-take (size_of l) cells)

  value_here : (k : ℕ) → k < size_of l → get_or (values_in l cells) k Blank ≡ (get_or cells k (cell Blank)).value
  unfolding values_in
  value_here k h =
      get_or-map (λ (c : Cell). c.value) (take (size_of l) cells) k (cell Blank)
      ∙ ap (λ (c : Cell). c.value) (get_or-take (size_of l) cells k (cell Blank) h)

-- all are asked where those from the field k on, from 0, are left to ask
pub record Rest (l : Layout) (r : Rooms) (cells : List Cell) (t : MessageType) (size k : ℕ) : Type 0 where
  pub type_is : t ≡ type_of l
  pub size_is : size ≡ size_of l
  pub room : length cells ≡ 26
  pub rest : holds_all (type_of l) r (kinds_of l) (values_in l cells) ≡ holds_all (type_of l) r (drop k (kinds_of l)) (drop k (values_in l cells))

module _ (l : Layout) (r : Rooms) (cells : List Cell) (t : MessageType) (size k : ℕ) (s : Rest l r cells t size k) where
  pub all_asked : size ≤ k → true ≡ holds_all (type_of l) r (kinds_of l) (values_in l cells)
  unfolding holds_all
  all_asked h =
      let a : length (kinds_of l) ≤ k = omega (arith, s.size_is, kinds_length l) in
      let b : length (values_in l cells) ≤ k = omega (arith, s.size_is, values_length l cells s.room) in
      rw (s.rest, drop_of_length-le (kinds_of l) a, drop_of_length-le (values_in l cells) b)

  module _ (h : k < size) where
    inside : k < size_of l
    inside = omega (arith, s.size_is)

    pub small : k < 26
    small = omega (arith, inside, few l)

    -- one more field
    module _ (d : Kind) (e : d ≡ kind_at l (k + 1)) (b : Bool) (a : b ≡ holds t r d (get_or cells k (cell Blank)).value) where
      next : holds_all (type_of l) r (kinds_of l) (values_in l cells) ≡ b && holds_all (type_of l) r (drop (k + 1) (kinds_of l)) (drop (k + 1) (values_in l cells))
      unfolding holds_all
      next =
          let f : k < length (kinds_of l) = omega (arith, inside, kinds_length l) in
          let g : k < length (values_in l cells) = omega (arith, inside, values_length l cells s.room) in
          rw (
            s.rest,
            a,
            s.type_is,
            e,
            add-one,
            kind_at_lem l k,
            drop-cons (kinds_of l) k no_kind f,
            drop-cons (values_in l cells) k Blank g,
            value_here l cells s.room k inside,
          )

      pub one_fails : not b ≡ true → false ≡ holds_all (type_of l) r (kinds_of l) (values_in l cells)
      one_fails n = rw (next, not-true b n)

      pub one_holds : not b ≡ false → Rest l r cells t size (k + 1)
      one_holds n = record { type_is = s.type_is; size_is = s.size_is; room = s.room; rest = rw (next, not-false b n) }
