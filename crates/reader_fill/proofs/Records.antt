-- What a caller knows of what was filled: the record that is made of it, that a bad field has a number, and where none is bad all the values.
-- Assumes nothing.
use Rattle.std.specs.Prelude.{None, Option, Some}
use Prim.Native.Nat.{ℕ, suc, ◌≤◌}
use Rattle.reader_fill.specs.Filled.{ahead, good_front, triples_of, record_with}
use Rattle.layout.specs.Rows.{text_at}
use Rattle.layout.specs.declared.Layout.{Layout}
use Rattle.value_list.specs.declared.Triple.{Triple}
use Rattle.layout.specs.FieldNumbers.{reason_field, note_field}
use Rattle.record.specs.Records.{Typed, joined, typed, cells_of, record_of}
use Rattle.record.specs.Records.Typed.{bad, good}
use Rattle.record.specs.declared.Cell.{Cell}
use Rattle.text_room.specs.Rooms.{kept_in}
use Rattle.value.specs.Kinds.{value_of}
use Rattle.value.specs.declared.Kind.{Kind}
use Rattle.value.specs.declared.Value.{Value}
use mathlib.Core.List.{List, [], ◌∷◌}
use mathlib.Core.Path.{◌≡◌, refl, ap, ◌∙◌}
use native.Mathlib.Omega.{arith}

pub record_with_lem : (l : Layout) (col : List (List ℕ)) (vs : List Value) → record_with l col (cells_of vs) (triples_of l col) ≡ record_of l col vs
unfolding record_with record_of triples_of
record_with_lem l col vs = refl

-- ---- a record from what its rooms hold

pub room_is : (n : ℕ) (col : List (List ℕ)) (room text : List ℕ) (k j : ℕ) → room ≡ kept_in n text → text ≡ text_at col k → k ≡ j → room ≡ kept_in n (text_at col j)
room_is n col room text k j e f g = e ∙ ap (kept_in n) (f ∙ ap (text_at col) g)

pub record_is : (l : Layout) (col : List (List ℕ)) (cells : List Cell) (u r n : List ℕ) (g : List Triple)
    → u ≡ kept_in 16 (text_at col 2) → r ≡ kept_in 128 (text_at col (reason_field l)) → n ≡ kept_in 256 (text_at col (note_field l))
    → record { layout = l; cells = cells; unit = u; reason = r; note = n; gradients = g } ≡ record_with l col cells g
unfolding record_with
record_is l col cells u r n g a b c = rw (a, b, c)

-- ---- a bad field has a number: 0 is none

good_not : {vs : List Value} {j : ℕ} → good vs ≡ bad j → ⊥
good_not e = let z : ◌≡◌ {A = ℕ} 0 1 = cc in omega arith

bad_is : {i j : ℕ} → bad i ≡ bad j → i ≡ j
bad_is e = cc

joined_bad : (k : ℕ) (g : Option Value) (t : Typed) (j : ℕ) → ((i : ℕ) → t ≡ bad i → 1 ≤ i) → joined (suc k) g t ≡ bad j → 1 ≤ j
unfolding joined
joined_bad k None t j f e = omega (arith, bad_is e)
joined_bad k (Some v) (bad i) j f e = f j e
joined_bad k (Some v) (good vs) j f e = absurd (good_not e)

pub typed_bad_some : (k : ℕ) (ks : List Kind) (col : List (List ℕ)) (j : ℕ) → typed (suc k) ks col ≡ bad j → 1 ≤ j
unfolding typed
typed_bad_some k [] col j e = absurd (good_not e)
typed_bad_some k (d ∷ ds) [] j e = omega (arith, bad_is e)
typed_bad_some k (d ∷ ds) (t ∷ ts) j e = joined_bad k (value_of d t) (typed (suc (suc k)) ds ts) j (λ i q. typed_bad_some (suc k) ds ts i q) e

-- ---- all that was read stands in front of the first bad field

pub not_good : {k : ℕ} {vs : List Value} → bad k ≡ good vs → ⊥
not_good e = let z : ◌≡◌ {A = ℕ} 0 1 = cc in omega arith

pub good_is : {vs ws : List Value} → good vs ≡ good ws → vs ≡ ws
good_is e = cc

front_joined : (k : ℕ) (g : Option Value) (y : Typed) (front vs : List Value) → joined k g y ≡ good vs → ((ws : List Value) → y ≡ good ws → front ≡ ws)
    → ahead g front ≡ vs
unfolding joined
front_joined k None y front vs e h = absurd (not_good e)
front_joined k (Some v) (bad j) front vs e h = absurd (not_good e)
front_joined k (Some v) (good ws) front vs e h = ap (λ (l : List Value). v ∷ l) (h ws refl) ∙ good_is e

pub front_good : (k : ℕ) (ds : List Kind) (col : List (List ℕ)) (vs : List Value) → typed k ds col ≡ good vs → good_front ds col ≡ vs
unfolding typed good_front
front_good k [] ts vs e = good_is e
front_good k (d ∷ ds) [] vs e = absurd (not_good e)
front_good k (d ∷ ds) (t ∷ ts) vs e =
    front_joined k (value_of d t) (typed (suc k) ds ts) (good_front ds ts) vs e (λ ws q. front_good (suc k) ds ts ws q)
