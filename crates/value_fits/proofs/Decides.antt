-- THE THEOREM: the test holds exactly where the kind may hold the value. Assumes nothing.
use Prim.Native.Nat.{ℕ, ◌^◌, ◌≤◌}
use Rattle.value_ask.proofs.Others.{blank_is}
use Rattle.value_ask.specs.Values.{is_filled}
use Rattle.value_date.specs.Date.{is_real}
use Rattle.value_fits.proofs.ByNumber.{shape_at, type_back, shape_is}
use Rattle.value_fits.proofs.Gradients.{triples_tell}
use Rattle.value_fits.proofs.Ranges.{range_tells, listed_tells}
use Rattle.value_bounds.specs.Bounds.{is_amount}
use Rattle.value_fits.specs.Fits.{type_number, shape_number, is_among, are_listed, numbers_fewest, numbers_most, is_kept, is_named, are_triples, fits, holds}
use Rattle.value_list.specs.declared.Numbers.{Numbers as Few}
use Rattle.value_name.specs.Names.{is_unit}
use Rattle.value_name.specs.declared.MessageType.{MessageType}
use Rattle.text.proofs.Tests.{told, Tells, leb_tells, itself, ◌and◌, and_parts, or_right}
use Rattle.text.specs.Bytes.{tidy}
use Rattle.value.specs.Texts.{Rooms}
use Rattle.value.specs.Valid.{Kept, Fits, Holds}
use Rattle.value.specs.Valid.Fits.{id, unit, when, amount, count, reason, note, chosen, profile, bands, triples, in_kv, kv_word, in_rat, rat_word, in_change}
use Rattle.value.specs.Valid.Fits.{in_mvar, mvar_word}
use Rattle.value.specs.Valid.Holds.{blank, filled}
use Rattle.value.specs.declared.Kind.{Kind}
use Rattle.value.specs.declared.Shape.{Shape}
use Rattle.value.specs.declared.Shape.TheVariants.{IsId, IsUnit, IsWhen, IsAmount, IsCount, IsReason, IsNote, IsWord, IsProfile, IsBands, IsTriples, IsVoltage}
use Rattle.value.specs.declared.Shape.TheVariants.{IsRegulator, IsChange, IsReactive}
use Rattle.value.specs.declared.Value.{Value}
use Rattle.value.specs.declared.Value.TheVariants.{Blank, Id, Unit as UnitOf, When, Amount, Count, Reason, Note, Word, List as Numbers, Triples, Voltage}
use Rattle.value.specs.declared.Value.TheVariants.{Regulator, Change, Reactive}
use borrow.Author.Tests.{lt-ltb, ltb-true, eq-eqb, eqb-true, not-true}
use lib.Dec.{eqb, ltb, leb, lit≤}
use lib.ListN.{length, take}
use mathlib.Core.Bool.{Bool, true, false, not, ◌&&◌, ◌||◌, false≢true}
use mathlib.Core.List.{List}
use mathlib.Core.Path.{◌≡◌, refl, sym, subst}
use native.Mathlib.Omega.{arith}

-- ---- texts

kept_tells : (most : ℕ) (room : List ℕ) (n : ℕ) → Tells (is_kept most room n) (Kept most room n)
unfolding is_kept
kept_tells most room n =
    told
    (leb_tells 1 n and leb_tells n most and leb_tells n (length room) and itself (tidy (take n room)))
    (λ p. record { some = p.0.0.0; few = p.0.0.1; inside = p.0.1; is_tidy = p.1 })
    (λ k. (((k.some, k.few), k.inside), k.is_tidy))

named_tells : (room : List ℕ) (n : ℕ) → Tells (is_named room n) ((n ≤ length room) × (is_unit (take n room) ≡ true))
unfolding is_named
named_tells room n = leb_tells n (length room) and itself (is_unit (take n room))

-- ---- words and lists

-- the test of `is_among`, of a first and a last word
among : (first last w : ℕ) → Tells (leb 1 first && leb first w && leb w last && leb last 31) ((((1 ≤ first) × (first ≤ w)) × (w ≤ last)) × (last ≤ 31))
among first last w = leb_tells 1 first and leb_tells first w and leb_tells w last and leb_tells last 31

-- no word is from 1 to 0, and no list has 1 to 0 numbers
none_among : (w : ℕ) → leb 1 1 && leb 1 w && leb w 0 && leb 0 31 ≡ true → ⊥
none_among w e = let p = (among 1 0 w).0 e in omega (arith, p.0.0.1, p.0.1)

none_listed : (x : Few) → are_listed 1 0 x ≡ true → ⊥
none_listed x e = let v = (listed_tells 1 0 x (lit≤ tt)).0 e in omega (arith, v.enough, v.few)

-- ---- a value and its shape

module _ (t : MessageType) (r : Rooms) where
  -- the two values whose shape is not told by its number: every shape is asked
  to_word : (s : Shape) (w : ℕ) → is_among s w ≡ true → Fits t r s (Word w)
  unfolding is_among
  to_word (IsId u) w e = absurd (none_among w e)
  to_word IsUnit w e = absurd (none_among w e)
  to_word IsWhen w e = absurd (none_among w e)
  to_word IsAmount w e = absurd (none_among w e)
  to_word IsCount w e = absurd (none_among w e)
  to_word IsReason w e = absurd (none_among w e)
  to_word IsNote w e = absurd (none_among w e)
  to_word (IsWord first last) w e = let p = (among first last w).0 e in chosen p.0.0.0 p.0.0.1 p.0.1 p.1
  to_word IsProfile w e = absurd (none_among w e)
  to_word IsBands w e = absurd (none_among w e)
  to_word IsTriples w e = absurd (none_among w e)
  to_word IsVoltage w e = let p = (among 23 24 w).0 e in kv_word p.0.0.1 p.0.1
  to_word IsRegulator w e = let p = (among 23 24 w).0 e in rat_word p.0.0.1 p.0.1
  to_word IsChange w e = absurd (none_among w e)
  to_word IsReactive w e = let p = (among 25 27 w).0 e in mvar_word p.0.0.1 p.0.1

  to_numbers : (s : Shape) (x : Few) → are_listed (numbers_fewest s) (numbers_most s) x ≡ true → Fits t r s (Numbers x)
  to_numbers (IsId u) x e = absurd (none_listed x e)
  to_numbers IsUnit x e = absurd (none_listed x e)
  to_numbers IsWhen x e = absurd (none_listed x e)
  to_numbers IsAmount x e = absurd (none_listed x e)
  to_numbers IsCount x e = absurd (none_listed x e)
  to_numbers IsReason x e = absurd (none_listed x e)
  to_numbers IsNote x e = absurd (none_listed x e)
  to_numbers (IsWord first last) x e = absurd (none_listed x e)
  to_numbers IsProfile x e = profile ((listed_tells 1 4 x (lit≤ tt)).0 e)
  to_numbers IsBands x e = bands ((listed_tells 2 2 x (lit≤ tt)).0 e)
  to_numbers IsTriples x e = absurd (none_listed x e)
  to_numbers IsVoltage x e = absurd (none_listed x e)
  to_numbers IsRegulator x e = absurd (none_listed x e)
  to_numbers IsChange x e = absurd (none_listed x e)
  to_numbers IsReactive x e = absurd (none_listed x e)

  -- the shape has the number that the value wants
  by_shape : (s : Shape) (n : ℕ) (v : Value) (b : Bool) → eqb n 7 ≡ false → eqb (shape_number s) n && b ≡ true → (b ≡ true → Fits t r (shape_at n) v)
      → Fits t r s v
  by_shape s n v b h e f =
      let p = and_parts (eqb (shape_number s) n) b e in
      subst (λ (u : Shape). Fits t r u v) (sym (shape_is s n h (eqb-true (shape_number s) n p.0))) (f p.1)

  to_fits : (s : Shape) (v : Value) → fits t r s v ≡ true → Fits t r s v
  unfolding fits
  to_fits s Blank e = absurd (false≢true e)
  to_fits s (Id n) e =
      by_shape s (type_number t) (Id n) (ltb n (10 ^ 10)) (type_back t).0 e
      (λ h. subst (λ (u : Shape). Fits t r u (Id n)) (sym (type_back t).1) (id (ltb-true n (10 ^ 10) h)))
  to_fits s (UnitOf n) e = by_shape s 1 (UnitOf n) (is_named r.unit n) refl e (λ h. let p = (named_tells r.unit n).0 h in unit p.0 p.1)
  to_fits s (When d) e = by_shape s 2 (When d) (is_real d) refl e when
  to_fits s (Amount v) e = by_shape s 3 (Amount v) (is_amount v) refl e (λ h. amount ((range_tells v).0 h))
  to_fits s (Count n) e = by_shape s 4 (Count n) (ltb n (10 ^ 10)) refl e (λ h. count (ltb-true n (10 ^ 10) h))
  to_fits s (Reason n) e = by_shape s 5 (Reason n) (is_kept 128 r.reason n) refl e (λ h. reason ((kept_tells 128 r.reason n).0 h))
  to_fits s (Note n) e = by_shape s 6 (Note n) (is_kept 256 r.note n) refl e (λ h. note ((kept_tells 256 r.note n).0 h))
  to_fits s (Word w) e = to_word s w e
  to_fits s (Numbers x) e = to_numbers s x e
  to_fits s (Triples n) e = by_shape s 10 (Triples n) (are_triples r.gradients n) refl e (λ h. triples ((triples_tell r.gradients n).0 h))
  to_fits s (Voltage v) e = by_shape s 11 (Voltage v) (is_amount v.0) refl e (λ h. in_kv ((range_tells v.0).0 h))
  to_fits s (Regulator v) e = by_shape s 12 (Regulator v) (is_amount v.0) refl e (λ h. in_rat ((range_tells v.0).0 h))
  to_fits s (Change v) e = by_shape s 13 (Change v) (is_amount v.0) refl e (λ h. in_change ((range_tells v.0).0 h))
  to_fits s (Reactive v) e = by_shape s 14 (Reactive v) (is_amount v.0) refl e (λ h. in_mvar ((range_tells v.0).0 h))

  from_fits : (s : Shape) (v : Value) → Fits t r s v → fits t r s v ≡ true
  unfolding fits is_among
  from_fits s v (id {n} h) = rw (eq-eqb (type_number t) (type_number t) refl) (lt-ltb n (10 ^ 10) h)
  from_fits s v (unit {n} a b) = (named_tells r.unit n).1 (a, b)
  from_fits s v (when h) = h
  from_fits s v (amount {v = x} h) = (range_tells x).1 h
  from_fits s v (count {n} h) = lt-ltb n (10 ^ 10) h
  from_fits s v (reason {n} h) = (kept_tells 128 r.reason n).1 h
  from_fits s v (note {n} h) = (kept_tells 256 r.note n).1 h
  from_fits s v (chosen {first} {last} {w} a b c d) = (among first last w).1 (((a, b), c), d)
  from_fits s v (profile {x} h) = (listed_tells 1 4 x (lit≤ tt)).1 h
  from_fits s v (bands {x} h) = (listed_tells 2 2 x (lit≤ tt)).1 h
  from_fits s v (triples {n} h) = (triples_tell r.gradients n).1 h
  from_fits s v (in_kv {v = x} h) = (range_tells x).1 h
  from_fits s v (kv_word {w} a b) = (among 23 24 w).1 (((lit≤ tt, a), b), lit≤ tt)
  from_fits s v (in_rat {v = x} h) = (range_tells x).1 h
  from_fits s v (rat_word {w} a b) = (among 23 24 w).1 (((lit≤ tt, a), b), lit≤ tt)
  from_fits s v (in_change {v = x} h) = (range_tells x).1 h
  from_fits s v (in_mvar {v = x} h) = (range_tells x).1 h
  from_fits s v (mvar_word {w} a b) = (among 25 27 w).1 (((lit≤ tt, a), b), lit≤ tt)

-- ---- a value and its kind

-- one half of a test by `||` holds
either : {A : Type 0} (a b : Bool) → (a || b) ≡ true → (a ≡ true → A) → (b ≡ true → A) → A
either true b e f g = f refl
either false b e f g = g e

module _ (t : MessageType) (r : Rooms) (k : Kind) where
  to_holds : (v : Value) → holds t r k v ≡ true → Holds t r k v
  unfolding holds
  to_holds v e =
      either (k.blank && not (is_filled v)) (fits t r k.shape v) e
      (λ h.
      let p = and_parts k.blank (not (is_filled v)) h in
      subst (Holds t r k) (sym (blank_is v (not-true (is_filled v) p.1))) (blank p.0))
      (λ h. filled (to_fits t r k.shape v h))

  from_holds : (v : Value) → Holds t r k v → holds t r k v ≡ true
  unfolding holds
  from_holds v (blank h) = rw h
  from_holds v (filled h) = or_right (k.blank && not (is_filled v)) (fits t r k.shape v) (from_fits t r k.shape v h)

pub holds_tells : (t : MessageType) (r : Rooms) (k : Kind) (v : Value) → Tells (holds t r k v) (Holds t r k v)
holds_tells t r k v = (to_holds t r k v, from_holds t r k v)
