-- ROUND TRIP of the message's lists: a valid list that is written reads back as itself, for every count, and what is read is valid.
-- Assumes nothing.
use Rattle.std.specs.Prelude.{None, Option, Some}
use Prim.Native.Nat.{ℕ, ◌-◌, ◌≤◌}
use Rattle.value_list.proofs.Back.{list_back, each_take, each_at, Known, list_known}
use Rattle.value_list.proofs.Lines.{places_of}
use Rattle.value_list.proofs.Texts.{triple_bytes}
use Rattle.value_list.specs.Forms.{amount_read, amount_of, numbers_of, list_of, listed, numbers_in, numbers_text, triple_of, one_of, one_in, triple_is, triple_in}
use Rattle.value_list.specs.Forms.{no_triple, gradients_of, gradients_read, gradients_in, triple_text, gradients_text, InRange, ValidNumbers, TripleRange, Each}
use Rattle.value_list.specs.Forms.{ValidGradients}
use Rattle.value_list.specs.Lists.{some_of, list_text}
use Rattle.value_list.specs.declared.Gradients.{Gradients}
use Rattle.value_list.specs.declared.Numbers.{Numbers}
use Rattle.value_list.specs.declared.Triple.{Triple}
use Rattle.value_number.proofs.RoundTrip.{number_back, number_range, number_bytes}
use Rattle.value_number.specs.Number.{number_of, number_text}
use Rattle.text.specs.Bytes.{within}
use lib.Dec.{lit≤, lit<}
use lib.IntN.{ℤ, pos}
use lib.ListN.{length, take, replicate, length-append, length-replicate}
use lib.Seq.{length-take-le, take-append_seam}
use mathlib.Core.Bool.{false}
use mathlib.Core.List.{List, [], ◌∷◌, ◌++◌}
use mathlib.Core.Path.{◌≡◌, refl, sym, ap, ◌∙◌}
use native.Mathlib.Omega.{arith}

-- ---- numbers

numbers_read : (sep least most : ℕ) (l : List ℤ) → within 45 57 sep ≡ false → 1 ≤ length l → least ≤ length l → length l ≤ most → Each InRange l
    → some_of amount_of sep least most (list_text number_text sep l) ≡ Some l
numbers_read sep least most l ns h lo hi g =
    list_back amount_of number_text InRange (within 45 57) sep ns refl number_bytes (λ v r. ap amount_read (number_back v r)) least most l h lo hi g

pub numbers_back : (least most : ℕ) (x : Numbers) → 1 ≤ least → most ≤ 4 → ValidNumbers least most x → numbers_in 59 least most (numbers_text 59 x) ≡ Some x
unfolding numbers_in numbers_text Each
numbers_back least most x low high v =
    let n : length (list_of x) ≡ x.count = length-take-le x.count (places_of x) (omega (arith, v.few)) in
    let places : Each InRange (places_of x) = (v.first_range, (v.second_range, (v.third_range, (v.fourth_range, tt)))) in
    ap listed (numbers_read 59 least most (list_of x) refl (omega (arith, v.enough)) (omega (arith, v.enough)) (omega (arith, v.few)) (each_take InRange x.count (places_of x) places))
    ∙ ap Some (sym v.zero_room)

-- ---- gradients

triple_back : (t : Triple) → TripleRange t → triple_in (triple_text t) ≡ Some t
unfolding triple_text one_in triple_of Each
triple_back t r =
    ap (λ (o : Option (List ℤ)). triple_is (one_of o))
    (numbers_read 44 3 3 (t.low ∷ t.high ∷ t.gradient ∷ []) refl (lit≤ tt) (lit≤ tt) (lit≤ tt) (r.low_range, (r.high_range, (r.gradient_range, tt))))

pub gradients_back : (values : List Triple) (n : ℕ) → ValidGradients values n → gradients_in (gradients_text values n) ≡ Some (record { count = n; values = values })
unfolding gradients_in gradients_text gradients_of
gradients_back values n v =
    let m : length (take n values) ≡ n = length-take-le n values (omega (arith, v.few, v.sixteen)) in
    ap gradients_read (list_back triple_in triple_text TripleRange (within 44 57) 59 refl refl triple_bytes triple_back 1 16 (take n values) (omega (arith, v.enough)) (omega (arith, v.enough)) (omega (arith, v.few)) v.ranged)
    ∙ rw m (λ i. Some (record { count = n; values = sym v.zero_room i }))

-- ---- what is read is valid

pub number_read : (t : List ℕ) (v : ℤ) → amount_of t ≡ Some v → number_of t ≡ Some v
number_read t v e = go (number_of t) e
  where
    go : (n : Option ℤ) → amount_read n ≡ Some v → n ≡ Some v
    go (Some w) e = let q : w ≡ v = cc in ap Some q
    go None e = let z : ◌≡◌ {A = ℕ} 0 1 = cc in absurd (omega arith)

number_good : (t : List ℕ) (v : ℤ) → amount_of t ≡ Some v → InRange v
number_good t v e = number_range t v (number_read t v e)

-- a list in a room is the list that the room holds
pub room_list : (l : List ℤ) → length l ≤ 4 → list_of (numbers_of l) ≡ l
unfolding numbers_of
room_list [] h = refl
room_list (a ∷ []) h = refl
room_list (a ∷ b ∷ []) h = refl
room_list (a ∷ b ∷ c ∷ []) h = refl
room_list (a ∷ b ∷ c ∷ d ∷ []) h = refl
room_list (a ∷ b ∷ c ∷ d ∷ e ∷ l) h = absurd (omega arith)

zero_range : InRange (pos 0)
zero_range = lit< tt

room_valid : (least most : ℕ) (l : List ℤ) → most ≤ 4 → Known amount_of InRange number_good least most l → ValidNumbers least most (numbers_of l)
unfolding numbers_of
room_valid least most l h k =
    record {
      enough = k.enough;
      few = k.few;
      zero_room = ap numbers_of (sym (room_list l (omega (arith, k.few))));
      first_range = each_at InRange l 0 (pos 0) k.each_good zero_range;
      second_range = each_at InRange l 1 (pos 0) k.each_good zero_range;
      third_range = each_at InRange l 2 (pos 0) k.each_good zero_range;
      fourth_range = each_at InRange l 3 (pos 0) k.each_good zero_range;
    }

pub numbers_valid : (sep least most : ℕ) (s : List ℕ) (x : Numbers) → most ≤ 4 → numbers_in sep least most s ≡ Some x → ValidNumbers least most x
unfolding numbers_in
numbers_valid sep least most s x h e = go (some_of amount_of sep least most s) refl e
  where
    go : (o : Option (List ℤ)) → some_of amount_of sep least most s ≡ o → listed o ≡ Some x → ValidNumbers least most x
    go None f e = let z : ◌≡◌ {A = ℕ} 0 1 = cc in absurd (omega arith)
    go (Some l) f e =
        let q : numbers_of l ≡ x = cc in
        rw (← q) (room_valid least most l h (list_known amount_of InRange number_good sep least most s l f))

triple_good : (t : List ℕ) (v : Triple) → triple_in t ≡ Some v → TripleRange v
unfolding one_in triple_of
triple_good t v e = go (some_of amount_of 44 3 3 t) refl e
  where
    ranged : (l : List ℤ) → Each InRange l → TripleRange (triple_of l)
    ranged l g = record {
      low_range = each_at InRange l 0 (pos 0) g zero_range;
      high_range = each_at InRange l 1 (pos 0) g zero_range;
      gradient_range = each_at InRange l 2 (pos 0) g zero_range;
    }

    go : (o : Option (List ℤ)) → some_of amount_of 44 3 3 t ≡ o → triple_is (one_of o) ≡ Some v → TripleRange v
    go None f e = let z : ◌≡◌ {A = ℕ} 0 1 = cc in absurd (omega arith)
    go (Some l) f e =
        let q : triple_of l ≡ v = cc in
        rw (← q) (ranged l (list_known amount_of InRange number_good 44 3 3 t l f).each_good)

pub gradients_valid : (s : List ℕ) (g : Gradients) → gradients_in s ≡ Some g → ValidGradients g.values g.count
unfolding gradients_in gradients_of
gradients_valid s g e = go (some_of triple_in 59 1 16 s) refl e
  where
    go : (o : Option (List Triple)) → some_of triple_in 59 1 16 s ≡ o → gradients_read o ≡ Some g → ValidGradients g.values g.count
    go None f e = let z : ◌≡◌ {A = ℕ} 0 1 = cc in absurd (omega arith)
    go (Some l) f e =
        let q : gradients_of l ≡ g = cc in
        rw (← q)
        let k = list_known triple_in TripleRange triple_good 59 1 16 s l f in
        let z = replicate (16 - length l) no_triple in
        let front : take (length l) (l ++ z) ≡ l = take-append_seam l z in
        record {
          enough = k.enough;
          few = k.few;
          zero_room = ap (λ (t : List Triple). t ++ z) (sym front);
          sixteen = omega (arith, length-append l z, length-replicate (16 - length l) no_triple, k.few);
          ranged = rw front k.each_good;
        }
