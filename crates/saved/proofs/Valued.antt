-- The values of an order's lines as the code finds them, and the order that it makes of such values. Assumes nothing.
use Prim.Native.Nat.{ℕ, zero, suc, ◌+◌, ◌-◌, ◌≤◌, ◌<◌}
use Rattle.book_order.specs.Orders.{is_whole, could_come}
use Rattle.book_order.specs.declared.Order.{Order}
use Rattle.book_source.proofs.Bounds.{come_tells}
use Rattle.book_stretch.specs.declared.Stretch.{Stretch}
use Rattle.layout.specs.contracts.Layout.{the_type}
use Rattle.layout.specs.declared.Layout.{Layout}
use Rattle.layout.specs.declared.Layout.TheVariants.{Market, Mfrr, Revocation, Generic, Exclusion, Limitation, Secondary, VoltVar, Rejection, Reserve}
use Rattle.saved.proofs.Amounts.{amount_raised}
use Rattle.saved.proofs.Ordering.{kinds}
use Rattle.saved.proofs.Struck.{struck_to}
use Rattle.saved.specs.Orders.{kind_in, layout_from, raised, lowered, struck_in, struck_from, values_of, order_from}
use Rattle.saved_lines.proofs.Going.{small_zeros}
use Rattle.saved_lines.specs.Tables.{at}
use Rattle.saved_lines.specs.Values.{zero_amount, Small}
use Rattle.text.proofs.Tests.{and_parts}
use Rattle.text.specs.Puts.{room_of}
use Rattle.value_bounds.specs.Bounds.{most_number, most_amount, is_amount}
use borrow.Author.Tests.{lt-ltb, le-ltb, leb-true, ltb-true}
use denote.Enum.Declared.{tag_of}
use lib.Dec.{leb}
use lib.IntN.{ℤ, pos, negsuc, neg_ℤ, nat_abs}
use lib.ListN.{length, take, replicate}
use lib.Signed.{lt_z}
use mathlib.Core.Bool.{Bool, true, false, true≢false}
use mathlib.Core.List.{List, [], ◌∷◌, ◌++◌}
use mathlib.Core.Path.{◌≡◌, refl, ap, ◌∙◌}
use mir.Syntax.{w32}
use mir.Val.{SFits, of_z, to_z}
use mir.ValLaws.{to_z-of_z}
use native.Mathlib.Omega.{arith}
use types.Run.{OneOf, miss}

-- ---- the kind

abbrev not_mfrr : List ℕ
not_mfrr = 0 ∷ 2 ∷ 3 ∷ 4 ∷ 5 ∷ 6 ∷ 7 ∷ 8 ∷ 9 ∷ []

pub kind_other : (l : Layout) → OneOf not_mfrr (tag_of the_type l) → 0 ≡ kind_in l
kind_other Market h = refl
kind_other Mfrr h = absurd (miss not_mfrr 1 tt h)
kind_other Revocation h = refl
kind_other Generic h = refl
kind_other Exclusion h = refl
kind_other Limitation h = refl
kind_other Secondary h = refl
kind_other VoltVar h = refl
kind_other Rejection h = refl
kind_other Reserve h = refl

pub other_kind : (k : ℕ) → (k ≡ 0 → ⊥) → Mfrr ≡ layout_from k
other_kind zero h = absurd (h refl)
other_kind (suc k) h = refl

-- ---- an amount: the number without its sign, taken from that of the amount 0 or added to it

abs_small : (z : ℤ) → is_amount z ≡ true → nat_abs z ≤ 999999999
unfolding is_amount
abs_small (pos n) e = leb-true n most_amount e
abs_small (negsuc n) e = let h : n ≤ most_amount - 1 = leb-true n (most_amount - 1) (and_parts (leb n (most_amount - 1)) true e).0 in omega arith

module _ (z : ℤ) (f : SFits w32 z) (n : ℕ) (e : n ≡ nat_abs (to_z w32 (of_z w32 z))) where
  abs : n ≡ nat_abs z
  abs = e ∙ ap nat_abs (to_z-of_z w32 z f)

  pub amount_small : is_amount z ≡ true → n ≤ 999999999
  amount_small a = rw abs (abs_small z a)

  pub raised_below : lt_z (to_z w32 (of_z w32 z)) (pos 0) ≡ true → zero_amount - n ≡ raised z
  raised_below h = rw abs (signed z (rw (to_z-of_z w32 z f) at h))
    where
      signed : (y : ℤ) → lt_z y (pos 0) ≡ true → zero_amount - nat_abs y ≡ raised y
      signed (pos k) h = absurd (omega (arith, ltb-true k 0 h))
      signed (negsuc k) h = refl

  pub raised_from : lt_z (to_z w32 (of_z w32 z)) (pos 0) ≡ false → zero_amount + n ≡ raised z
  raised_from h = rw abs (plain z (rw (to_z-of_z w32 z f) at h))
    where
      plain : (y : ℤ) → lt_z y (pos 0) ≡ false → zero_amount + nat_abs y ≡ raised y
      plain (pos k) h = refl
      plain (negsuc k) h = absurd (true≢false h)

pub lowered_below : (v : ℕ) → v < zero_amount → neg_ℤ (pos (zero_amount - v)) ≡ lowered v
unfolding lowered
lowered_below v h = rw (lt-ltb v zero_amount h)

pub lowered_from : (v : ℕ) → zero_amount ≤ v → pos (v - zero_amount) ≡ lowered v
unfolding lowered
lowered_from v h = rw (le-ltb v zero_amount h)

-- ---- what an order that could come carries

-- values of at most ten digits, in their room
abbrev pub EachSmall : List ℕ → Type 0
EachSmall [] = Unit {0}
EachSmall (v ∷ vs) = (v ≤ most_number) × EachSmall vs

small_before : (vs ws : List ℕ) → EachSmall vs → Small ws → Small (vs ++ ws)
small_before [] ws h s i = s i
small_before (v ∷ vs) ws h s zero = h.0
small_before (v ∷ vs) ws h s (suc i) = small_before vs ws h.1 s i

pub small_room : (n : ℕ) (vs : List ℕ) → EachSmall vs → Small (room_of n vs)
unfolding room_of
small_room n vs h = small_before vs (replicate (n - length vs) 0) h (small_zeros (n - length vs))

module _ (o : Order) (come : could_come o ≡ true) where
  -- its two amounts, as they are handed on
  pub first_asked : SFits w32 o.first → is_amount (to_z w32 (of_z w32 o.first)) ≡ true
  first_asked f = rw (to_z-of_z w32 o.first f) ((come_tells o).0 come).first_amount

  pub second_asked : SFits w32 o.second → is_amount (to_z w32 (of_z w32 o.second)) ≡ true
  second_asked f = rw (to_z-of_z w32 o.second f) (kinds o.layout o.start o.end o.second ((come_tells o).0 come).fits).second_amount

  -- its values have at most ten digits
  pub values_small : (v : List ℕ) → v ≡ room_of 18 (values_of o) → Small v
  unfolding values_of
  values_small v e =
      let b = (come_tells o).0 come in
      let r = amount_raised o.first b.first_amount in
      let k = kinds o.layout o.start o.end o.second b.fits in
      let s = amount_raised o.second k.second_amount in
      let last_three : EachSmall (raised o.first ∷ raised o.second ∷ struck_in (is_whole o) ∷ []) =
      (omega (arith, r.to), (omega (arith, s.to), (omega (arith, struck_to (is_whole o)), tt))) in
      rw e (small_room 18 (values_of o) (b.number_to, (omega (arith, k.kind_to), (omega (arith, b.start_to), (omega (arith, b.end_to), last_three)))))

-- its seven lines are all that is put
pub seven_first : (o : Order) (v : List ℕ) → v ≡ room_of 18 (values_of o) → take 7 v ≡ values_of o
unfolding room_of values_of
seven_first o v e = rw e

-- ---- the seven values in their room, and the order that they give

pub values_are : (o : Order) → SFits w32 o.first → SFits w32 o.second → (k v w c : ℕ) (t : Bool) → k ≡ kind_in o.layout
    → v ≡ raised (to_z w32 (of_z w32 o.first)) → w ≡ raised (to_z w32 (of_z w32 o.second)) → t ≡ is_whole o → c ≡ struck_in t
    → o.number ∷ k ∷ o.start ∷ o.end ∷ v ∷ w ∷ c ∷ replicate 11 0 ≡ room_of 18 (values_of o)
unfolding room_of values_of
values_are o f g k v w c t ke ve we te ce = rw (ke, ve, we, ce, te, to_z-of_z w32 o.first f, to_z-of_z w32 o.second g)

pub order_is : (vs : List ℕ) (v w : ℤ) → SFits w32 v → SFits w32 w → v ≡ lowered (at 4 vs) → w ≡ lowered (at 5 vs)
    → (l : Layout) → l ≡ layout_from (at 1 vs) → (c : List Stretch) → c ≡ struck_from (at 6 vs) (at 2 vs) (at 3 vs)
    → record {
      number = at 0 vs;
      start = at 2 vs;
      end = at 3 vs;
      first = to_z w32 (of_z w32 v);
      second = to_z w32 (of_z w32 w);
      layout = l;
      struck = c;
    } ≡ order_from vs
unfolding order_from
order_is vs v w f g ve we l le c ce = rw (to_z-of_z w32 v f, to_z-of_z w32 w g, ve, we, le, ce)
