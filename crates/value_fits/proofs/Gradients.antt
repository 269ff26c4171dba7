-- Triples in their room: what their tests tell, and the steps of a loop over the first n. Assumes nothing.
use Prim.Native.Nat.{ℕ, ◌-◌, ◌≤◌, ◌<◌}
use Rattle.value_fits.proofs.Ranges.{range_tells}
use Rattle.text.proofs.Zeros.{zero_tells}
use Rattle.value_fits.proofs.Unused.{unused_tells}
use Rattle.value_fits.specs.Fits.{is_ranged, is_no_triple, are_triples}
use Rattle.value_list.specs.Forms.{TripleRange, Each, ValidGradients, no_triple}
use Rattle.value_list.specs.declared.Triple.{Triple}
use Rattle.text.proofs.Tests.{told, Tells, within_tells, eqb_tells, itself, ◌and◌, untold}
use Rattle.text.specs.Bytes.{all}
use borrow.Author.Tests.{le-leb, eq-eqb}
use lib.ListN.{length, take, drop, replicate}
use mathlib.Core.Bool.{Bool, true, false, ◌&&◌}
use mathlib.Core.List.{List, [], ◌∷◌, ◌++◌}
use mathlib.Core.Logic.{◌↔◌}
use mathlib.Core.Path.{◌≡◌, refl, sym, ap}
use native.Mathlib.Omega.{arith}

-- ---- one triple

ranged_tells : (x : Triple) → Tells (is_ranged x) (TripleRange x)
unfolding is_ranged
ranged_tells x =
    told
    (range_tells x.low and range_tells x.high and range_tells x.gradient)
    (λ p. record { low_range = p.0.0; high_range = p.0.1; gradient_range = p.1 })
    (λ r. ((r.low_range, r.high_range), r.gradient_range))

no_triple_tells : (x : Triple) → Tells (is_no_triple x) (x ≡ no_triple)
unfolding is_no_triple
no_triple_tells x =
    told
    (zero_tells x.low and zero_tells x.high and zero_tells x.gradient)
    (λ p. λ j. record { low = p.0.0 j; high = p.0.1 j; gradient = p.1 j })
    (λ e. ((ap (λ (y : Triple). y.low) e, ap (λ (y : Triple). y.high) e), ap (λ (y : Triple). y.gradient) e))

-- ---- a list of them

-- a test of each element tells what it tells of each
each_tells : {A : Type 0} (p : A → Bool) (P : A → Type 0) → ((a : A) → Tells (p a) (P a)) → (l : List A) → Tells (all p l) (Each P l)
unfolding all Each
each_tells p P f [] = (λ e. tt, λ h. refl)
each_tells p P f (a ∷ l) = f a and each_tells p P f l

-- the room of sixteen past the first n
pub unused_triples : (n : ℕ) (values : List Triple) → n ≤ 16 → n ≤ length values
    → ((length values ≡ 16) × (all is_no_triple (drop n values) ≡ true)) ↔ (values ≡ take n values ++ replicate (16 - n) no_triple)
unused_triples = unused_tells is_no_triple no_triple no_triple_tells 16

pub triples_tell : (values : List Triple) (n : ℕ) → Tells (are_triples values n) (ValidGradients values n)
unfolding are_triples
triples_tell values n =
    told
    (within_tells 1 16 n and eqb_tells (length values) 16 and each_tells is_ranged TripleRange ranged_tells (take n values) and itself (all is_no_triple (drop n values)))
    (λ p.
    let inside : n ≤ length values = omega (arith, p.0.0.0.1, p.0.0.1) in
    record {
      enough = p.0.0.0.0;
      few = p.0.0.0.1;
      zero_room = (unused_triples n values p.0.0.0.1 inside).0 (p.0.0.1, p.1);
      sixteen = p.0.0.1;
      ranged = p.0.1;
    })
    (λ v.
    let inside : n ≤ length values = omega (arith, v.few, v.sixteen) in
    ((((v.enough, v.few), v.sixteen), v.ranged), ((unused_triples n values v.few inside).1 v.zero_room).1))

-- as the code asks it: too few, too many, and as many as may be
module _ (values : List Triple) (n : ℕ) where
  pub few_triples : n < 1 → false ≡ are_triples values n
  few_triples h = sym (untold (triples_tell values n) (λ v. omega (arith, h, v.enough)))

  pub many_triples : 16 < n → false ≡ are_triples values n
  many_triples h = sym (untold (triples_tell values n) (λ v. omega (arith, h, v.few)))

  pub these_triples : 1 ≤ n → n ≤ 16 → length values ≡ 16 → all is_ranged (take n values) && all is_no_triple (drop n values) ≡ are_triples values n
  unfolding are_triples
  these_triples h k l = rw (le-leb 1 n h, le-leb n 16 k, eq-eqb (length values) 16 l)
