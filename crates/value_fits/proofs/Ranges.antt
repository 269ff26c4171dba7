-- Numbers that can be written, and lists of up to four: what their tests tell. Assumes nothing.
use Prim.Native.Nat.{ℕ, ◌-◌, ◌≤◌}
use Rattle.value_bounds.specs.Bounds.{most_amount, is_amount}
use Rattle.value_fits.specs.Fits.{is_spare, are_listed}
use Rattle.value_list.specs.Forms.{InRange, ValidNumbers, numbers_of}
use Rattle.value_list.specs.declared.Numbers.{Numbers as Few}
use Rattle.text.proofs.Tests.{told, Tells, leb_tells, itself, ◌and◌, by_le}
use Rattle.text.proofs.Zeros.{zero_tells}
use borrow.Author.Tests.{lt-ltb, le-ltb}
use lib.Dec.{eqb, ltb}
use lib.IntN.{ℤ, pos, negsuc, nat_abs}
use lib.ListN.{length, get_or, take, length-take, get_or-eq_default}
use lib.Seq.{get_or-take}
use mathlib.Core.Bool.{true, ◌||◌}
use mathlib.Core.List.{List, [], ◌∷◌}
use mathlib.Core.Path.{◌≡◌, refl, sym, ap, ◌∙◌}
use native.Mathlib.Omega.{arith}

-- ---- one number

pub range_tells : (v : ℤ) → Tells (is_amount v) (InRange v)
unfolding is_amount
range_tells (pos n) = told (leb_tells n most_amount) (λ h. omega (arith, h)) (λ h. omega (arith, h))
range_tells (negsuc n) =
    told (leb_tells n (most_amount - 1) and itself true) (λ h. omega (arith, h.0)) (λ h. (omega (arith, h), refl))

-- ---- lists of up to four

-- a test that asks nothing of the places before the end
ended : (c i : ℕ) (v : ℤ) → Tells (ltb i c || eqb (nat_abs v) 0) (c ≤ i → v ≡ pos 0)
ended c i v =
    by_le c i
    (λ h. rw (le-ltb i c h) (told (zero_tells v) (λ e k. e) (λ f. f h)))
    (λ h. rw (lt-ltb i c h) (λ e k. absurd (omega (arith, h, k)), λ f. refl))

spare_tells : (c i : ℕ) (v : ℤ) → Tells (is_spare c i v) (InRange v × (c ≤ i → v ≡ pos 0))
unfolding is_spare
spare_tells c i v = range_tells v and ended c i v

-- what stands at the place i is what stands there in the first c, if it is zero past them
module _ (l : List ℤ) (c i : ℕ) where
  past : c ≤ i → get_or (take c l) i (pos 0) ≡ pos 0
  past h = get_or-eq_default (take c l) (pos 0) (omega (arith, h, length-take c l))

  kept : (c ≤ i → get_or l i (pos 0) ≡ pos 0) → get_or l i (pos 0) ≡ get_or (take c l) i (pos 0)
  kept f = by_le c i (λ h. f h ∙ sym (past h)) (λ h. sym (get_or-take c l i (pos 0) h))

-- the four places of a list of c
abbrev four : Few → List ℤ
four x = x.first ∷ x.second ∷ x.third ∷ x.fourth ∷ []

pub listed_tells : (least most : ℕ) (x : Few) → most ≤ 4 → Tells (are_listed least most x) (ValidNumbers least most x)
unfolding are_listed numbers_of
listed_tells least most x hi =
    let c = x.count in
    told
    (
    leb_tells least c and leb_tells c most
    and spare_tells c 0 x.first and spare_tells c 1 x.second and spare_tells c 2 x.third and spare_tells c 3 x.fourth
    )
    (λ p.
    let n : x.count ≡ length (take c (four x)) = omega (arith, p.0.0.0.0.1, hi, length-take c (four x)) in
    let v0 = kept (four x) c 0 p.0.0.0.1.1 in
    let v1 = kept (four x) c 1 p.0.0.1.1 in
    let v2 = kept (four x) c 2 p.0.1.1 in
    let v3 = kept (four x) c 3 p.1.1 in
    record {
      enough = p.0.0.0.0.0;
      few = p.0.0.0.0.1;
      zero_room = λ j. record { count = n j; first = v0 j; second = v1 j; third = v2 j; fourth = v3 j };
      first_range = p.0.0.0.1.0;
      second_range = p.0.0.1.0;
      third_range = p.0.1.0;
      fourth_range = p.1.0;
    })
    (λ v.
    let z = v.zero_room in (
      (
        (
          ((v.enough, v.few), (v.first_range, λ h. ap (λ (y : Few). y.first) z ∙ past (four x) c 0 h)),
          (v.second_range, λ h. ap (λ (y : Few). y.second) z ∙ past (four x) c 1 h),
        ),
        (v.third_range, λ h. ap (λ (y : Few). y.third) z ∙ past (four x) c 2 h),
      ),
      (v.fourth_range, λ h. ap (λ (y : Few). y.fourth) z ∙ past (four x) c 3 h),
    ))
