-- The laws of `Cuts.antt` at the lists of numbers and of triples: what the answer is at each way out of a loop.
-- Assumes nothing.
use Rattle.std.specs.Prelude.{None, Option, Some}
use Prim.Native.Nat.{ℕ, zero, suc, min, ◌+◌, ◌-◌, ◌≤◌, ◌<◌}
use Rattle.value_list.proofs.Cuts.{part_is, Sofar, read_count, all_read, all_room}
use Rattle.value_list.specs.Forms.{amount_read, amount_of, numbers_in, numbers_of, list_of, listed, triple_of, one_of, one_in, triple_in, no_triple, gradients_of}
use Rattle.value_list.specs.Forms.{gradients_read, gradients_in}
use Rattle.value_list.specs.Lists.{some_of}
use Rattle.value_list.specs.declared.Numbers.{Numbers}
use Rattle.value_list.specs.declared.Triple.{Triple}
use Rattle.value_number.proofs.Parts.{part_told, part_none}
use Rattle.value_number.specs.Parts.{part_number, number_at}
use Rattle.text.specs.Bytes.{part, first_of, trim}
use lib.IntN.{ℤ, pos}
use lib.ListN.{length, get_or, take, drop, set, replicate, length-take}
use lib.Seq.{get_or-take}
use mathlib.Core.List.{List, [], ◌∷◌, ◌++◌}
use mathlib.Core.Path.{◌≡◌, refl, sym, ap, ◌∙◌}
use native.Mathlib.Omega.{arith}

-- ---- numbers

pub no_numbers : (sep least most : ℕ) (s : List ℕ) → some_of amount_of sep least most s ≡ None → None ≡ numbers_in sep least most s
unfolding numbers_in
no_numbers sep least most s e = ap listed (sym e)

-- a part that `value_number::read_part` refused, and one that it read: where it ends, and what it holds
module _ (sep : ℕ) (s : List ℕ) (at : ℕ) (inside : at ≤ length s) where
  pub part_bad : None ≡ part_number sep s at → amount_of (trim (part at (at + first_of sep (drop at s)) s)) ≡ None
  part_bad q = rw (← part_is sep s at (at + first_of sep (drop at s)) inside refl) (ap amount_read (part_none sep s at q))

  pub part_read : (v : ℤ) (e : ℕ) → number_at v e ≡ part_number sep s at → (e ≡ at + first_of sep (drop at s)) × (amount_of (trim (part at e s)) ≡ Some v)
  part_read v e q =
      let t = part_told sep s at v e q in
      (t.0, rw (← part_is sep s at e inside t.0) (ap amount_read t.1))

-- zeros past a list change none of its places
zeros_at : {A : Type 0} (z : A) (l : List A) (k i : ℕ) → get_or (l ++ replicate k z) i z ≡ get_or l i z
zeros_at z [] zero i = refl
zeros_at z [] (suc k) zero = refl
zeros_at z [] (suc k) (suc i) = zeros_at z [] k i
zeros_at z (a ∷ l) k zero = refl
zeros_at z (a ∷ l) k (suc i) = zeros_at z l k i

-- four places of a room, as the numbers that stand in front of its zeros
four_places : (l values : List ℤ) (k n : ℕ) → l ++ replicate k (pos 0) ≡ values → length l ≡ n
    → Some (record { count = n; first = get_or values 0 (pos 0); second = get_or values 1 (pos 0); third = get_or values 2 (pos 0); fourth = get_or values 3 (pos 0) })
    ≡ listed (Some l)
unfolding numbers_of
four_places l values k n p e = λ i. Some (record { count = sym e i; first = place 0 i; second = place 1 i; third = place 2 i; fourth = place 3 i })
  where
    place : (i : ℕ) → get_or values i (pos 0) ≡ get_or l i (pos 0)
    place i = ap (λ (v : List ℤ). get_or v i (pos 0)) (sym p) ∙ zeros_at (pos 0) l k i

pub are_numbers : (sep least most : ℕ) (s : List ℕ) (at n : ℕ) (room : List ℤ) (e : ℕ) (a : ℤ) → length room ≡ 4 → Sofar amount_of sep (pos 0) s at n room
    → e ≡ at + first_of sep (drop at s) → amount_of (trim (part at e s)) ≡ Some a → e ≡ length s → n < 4 → least ≤ n + 1 → n + 1 ≤ most
    → Some (record { count = n + 1; first = get_or (set room n a) 0 (pos 0); second = get_or (set room n a) 1 (pos 0); third = get_or (set room n a) 2 (pos 0); fourth = get_or (set room n a) 3 (pos 0) }) ≡ numbers_in sep least most s
unfolding numbers_in
are_numbers sep least most s at n room e a four f ee h el low lo hi =
    let fits : n < length room = omega arith in
    four_places (take (n + 1) (set room n a)) (set room n a) (length room - (n + 1)) (n + 1)
    (all_room amount_of sep (pos 0) s at n room e f ee a fits h el) (read_count amount_of sep (pos 0) s at n room e f ee a fits h el)
    ∙ ap listed (sym (all_read amount_of sep (pos 0) s at n room e f ee a fits h el least most lo hi))

-- ---- the numbers that a record holds

-- its four places
abbrev pub places_of : Numbers → List ℤ
places_of x = x.first ∷ x.second ∷ x.third ∷ x.fourth ∷ []

pub held_are : (x : Numbers) → length (list_of x) ≡ min x.count 4
held_are x = length-take x.count (places_of x)

pub held_at : (x : Numbers) (i : ℕ) → i < length (list_of x) → get_or (places_of x) i (pos 0) ≡ get_or (list_of x) i (pos 0)
held_at x i h = sym (get_or-take x.count (places_of x) i (pos 0) (omega (arith, length-take x.count (places_of x))))

-- ---- a triple of three numbers

-- the first three numbers of a list, as a triple
abbrev pub triple_from : Option Numbers → Option Triple
triple_from (Some x) = Some (record { low = x.first; high = x.second; gradient = x.third })
triple_from None = None

pub one_from : (s : List ℕ) → triple_from (numbers_in 44 3 3 s) ≡ one_in s
unfolding numbers_in one_in numbers_of triple_of
one_from s = same_one (some_of amount_of 44 3 3 s)
  where
    same_one : (o : Option (List ℤ)) → triple_from (listed o) ≡ one_of o
    same_one None = refl
    same_one (Some l) = refl

-- ---- gradients

pub no_gradients : (s : List ℕ) → some_of triple_in 59 1 16 s ≡ None → None ≡ gradients_in s
unfolding gradients_in
no_gradients s e = ap gradients_read (sym e)

pub are_gradients : (s : List ℕ) (at n : ℕ) (room : List Triple) (e : ℕ) (a : Triple) → length room ≡ 16 → Sofar triple_in 59 no_triple s at n room
    → e ≡ at + first_of 59 (drop at s) → triple_in (trim (part at e s)) ≡ Some a → e ≡ length s → n < 16
    → Some (record { count = n + 1; values = set room n a }) ≡ gradients_in s
unfolding gradients_in gradients_of
are_gradients s at n room e a sixteen f ee h el low =
    let fits : n < length room = omega arith in
    good (take (n + 1) (set room n a)) (set room n a) (n + 1)
    (rw sixteen at (all_room triple_in 59 no_triple s at n room e f ee a fits h el)) (read_count triple_in 59 no_triple s at n room e f ee a fits h el)
    ∙ ap gradients_read (sym (all_read triple_in 59 no_triple s at n room e f ee a fits h el 1 16 (omega arith) (omega arith)))
  where
    good : (l values : List Triple) (m : ℕ) → l ++ replicate (16 - m) no_triple ≡ values → length l ≡ m
        → Some (record { count = m; values = values }) ≡ gradients_read (Some l)
    good l values m p e = rw e (λ i. Some (record { count = m; values = sym p i }))
