-- The loop of `are_formed`: what is left to be seen answers for all of the list. Assumes nothing.
use Prim.Native.Nat.{ℕ, ◌+◌, ◌-◌, ◌≤◌, ◌<◌}
use Rattle.book_shelf.specs.Shelf.{thing}
use Rattle.book_stretch.proofs.Formed.{none_formed}
use Rattle.book_stretch.specs.Stretches.{no_stretch, is_none, are_none, fits_in, apart_from, formed_in}
use Rattle.book_stretch.specs.declared.Stretch.{Stretch}
use Rattle.text.proofs.Cuts.{tail}
use Rattle.text.specs.Bytes.{all}
use borrow.Author.Tests.{eq-eqb, not-true, not-false}
use lib.ListN.{length, take, drop, drop_of_length-le}
use lib.Seq.{drop-cons}
use mathlib.Core.Bool.{Bool, true, false, not}
use mathlib.Core.List.{List}
use mathlib.Core.Path.{◌≡◌, sym, ◌∙◌}
use native.Mathlib.Numerals.{add-one}
use native.Mathlib.Omega.{arith}

-- nothing is struck: the test's answer, and that it is true
pub none_told : (time : Stretch) (l : List Stretch) (none : Bool) → none ≡ are_none l → none ≡ true → true ≡ formed_in time l
none_told time l none tested e = sym (none_formed time l (sym tested ∙ e))

pub apart_first : (time : Stretch) (l : List Stretch) → length l ≡ 4 → apart_from time.from time.to (drop 0 l) ≡ formed_in time l
unfolding formed_in
apart_first time l h = rw (eq-eqb (length l) 4 h)

-- ---- i have passed, and the next may stand from `least` on

module _ (time : Stretch) (l : List Stretch) (least i : ℕ) (four : length l ≡ 4)
    (so_far : apart_from least time.to (drop i l) ≡ formed_in time l) where
  -- its tests of the next, `empty` and `fit`
  module _ (h : i < 4) (empty : Bool) (tested : empty ≡ is_none (thing no_stretch i l)) where
    within : i < length l
    within = omega (arith, h, four)

    -- the next is unused: `rest` says whether all from it on are
    pub none_here : empty ≡ true → (rest : Bool) → rest ≡ all is_none (take (4 - i) (drop i l)) → rest ≡ formed_in time l
    unfolding apart_from all
    none_here n rest e =
        let answers : formed_in time l ≡ all is_none (drop i l) = sym so_far ∙ rw (drop-cons l i no_stretch within, sym tested ∙ n) in
        rw answers (rw (tail l i) at (rw (sym four) at e))

    module _ (n : empty ≡ false) (fit : Bool) (fitted : fit ≡ fits_in least time.to (thing no_stretch i l)) where
      pub fits_on : not fit ≡ false → apart_from ((thing no_stretch i l).to + 1) time.to (drop (i + 1) l) ≡ formed_in time l
      unfolding apart_from
      fits_on f =
          rw (add-one i, add-one (thing no_stretch i l).to)
          (rw (drop-cons l i no_stretch within, sym tested ∙ n, sym fitted ∙ not-false fit f) at so_far)

      pub fits_not : not fit ≡ true → false ≡ formed_in time l
      unfolding apart_from
      fits_not f = rw (drop-cons l i no_stretch within, sym tested ∙ n, sym fitted ∙ not-true fit f) at so_far

  pub none_left : 4 ≤ i → true ≡ formed_in time l
  unfolding apart_from
  none_left h = rw (drop_of_length-le l {i = i} (omega (arith, h, four))) at so_far
