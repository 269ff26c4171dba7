-- Lists of four, one after another: a test of each, joined from the left, and what stands in the first four places. Assumes nothing.
use Rattle.book_shelf.specs.Shelf.{packed, thing}
use Rattle.book_stretch.specs.Stretches.{no_stretch, is_none, are_none, in_four}
use Rattle.book_stretch.specs.declared.Stretch.{Stretch}
use Rattle.text.specs.Bytes.{all}
use borrow.Author.Tests.{eq-eqb}
use lib.ListN.{length, take}
use mathlib.Core.Bool.{Bool, ◌&&◌, and_assoc, and-true}
use mathlib.Core.List.{List, [], ◌∷◌}
use mathlib.Core.Path.{◌≡◌, refl, sym, ap}
use native.Mathlib.Omega.{arith}

abbrev pub four_of : List Stretch → List Stretch
four_of l = thing no_stretch 0 l ∷ thing no_stretch 1 l ∷ thing no_stretch 2 l ∷ thing no_stretch 3 l ∷ []

pub four_is : (l : List Stretch) → length l ≡ 4 → l ≡ four_of l
four_is [] h = absurd (omega (arith, h))
four_is (w ∷ []) h = absurd (omega (arith, h))
four_is (w ∷ x ∷ []) h = absurd (omega (arith, h))
four_is (w ∷ x ∷ y ∷ []) h = absurd (omega (arith, h))
four_is (w ∷ x ∷ y ∷ z ∷ []) h = refl
four_is (w ∷ x ∷ y ∷ z ∷ v ∷ l) h = absurd (omega (arith, h))

-- the first four of five places are those of four
pub four_packed : (l : List Stretch) → four_of (packed no_stretch 5 l) ≡ take 4 (in_four l)
four_packed [] = refl
four_packed (w ∷ []) = refl
four_packed (w ∷ x ∷ []) = refl
four_packed (w ∷ x ∷ y ∷ []) = refl
four_packed (w ∷ x ∷ y ∷ z ∷ l) = refl

-- a test p, and its answer for each of the four
module _ (p : Stretch → Bool) (l : List Stretch) (h : length l ≡ 4) (a b c d : Bool)
    (first : a ≡ p (thing no_stretch 0 l)) (second : b ≡ p (thing no_stretch 1 l))
    (third : c ≡ p (thing no_stretch 2 l)) (fourth : d ≡ p (thing no_stretch 3 l)) where
  pub four_all : ((a && b) && c) && d ≡ all p l
  unfolding all
  four_all = rw (first, second, third, fourth) (simp and_assoc (sym (simp and-true at (ap (all p) (four_is l h)))))

module _ (l : List Stretch) (h : length l ≡ 4) (a b c d : Bool)
    (first : a ≡ is_none (thing no_stretch 0 l)) (second : b ≡ is_none (thing no_stretch 1 l))
    (third : c ≡ is_none (thing no_stretch 2 l)) (fourth : d ≡ is_none (thing no_stretch 3 l)) where
  pub four_none : ((a && b) && c) && d ≡ are_none l
  unfolding are_none
  four_none = rw (eq-eqb (length l) 4 h) (four_all is_none l h a b c d first second third fourth)
