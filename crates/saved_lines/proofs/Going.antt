-- The loop that reads an item's lines: what is read so far, with what the rest gives after it, is the item. Assumes nothing.
use Rattle.std.specs.Prelude.{None, Option, Some}
use Prim.Native.Nat.{ℕ, suc, ◌+◌, ◌-◌, ◌≤◌, ◌<◌}
use Rattle.saved_lines.proofs.Exact.{says_in, met_only}
use Rattle.saved_lines.specs.Items.{Lines, good, bad, read_from, wrong_item, item_of}
use Rattle.saved_lines.specs.Values.{key_text, value_of, line_value, met_of, IsOf, MayBe, Small}
use Rattle.saved_lines.specs.Items.{Item}
use Rattle.saved_lines.specs.declared.Met.{Met}
use Rattle.saved_lines.specs.declared.Met.TheVariants.{Says, Wrong, Over}
use Rattle.saved_lines.specs.Values.{Next, Line, Done}
use Rattle.saved_lines.specs.declared.Sort.{Sort}
use Rattle.saved_lines.specs.declared.Sort.TheVariants.{Whole, Amount, Letter}
use Rattle.saved_lines.specs.declared.Key.{Key}
use Rattle.text.proofs.Tests.{by_eq, by_le}
use Rattle.text.specs.Bytes.{first_of}
use Rattle.text_keyline.proofs.Values.{upto_less, line_told, below_at}
use Rattle.text_keyline.specs.Keylines.{line_of, value_in, if_line, ranged, below}
use Rattle.value_bounds.specs.Bounds.{most_number}
use lib.ListN.{length, take, drop, set, replicate, length-drop, length-set, get_or-replicate, get_or-eq_default, length-replicate}
use lib.Seq.{take-length, take-suc-set, set_split, drop-drop, drop_at, length-take-le, get_or-set_same, get_or-set_other}
use mathlib.Core.Bool.{true}
use mathlib.Core.List.{List, [], ◌∷◌, ◌++◌, append_assoc}
use mathlib.Core.Path.{◌≡◌, refl, sym, ap, ◌∙◌}
use native.Mathlib.Numerals.{add-one}
use native.Mathlib.Omega.{arith}

-- ---- where a line that says something ends, and how great its value is

ended : (k : Key) (x : Sort) (lo hi : ℕ) (s : List ℕ) (v : ℕ) → line_value k x lo hi s ≡ Some v → first_of 10 s < length s
unfolding line_value
ended k x lo hi s v e = by_line (line_of (key_text k) s) refl e
  where
    by_line : (l : Option ℕ) → line_of (key_text k) s ≡ l → if_line l (ranged lo hi (value_of x (value_in (key_text k) s))) ≡ Some v → first_of 10 s < length s
    by_line None i e = let z : ◌≡◌ {A = ℕ} 0 1 = cc in absurd (omega arith)
    by_line (Some n) i e = upto_less s (line_told (key_text k) s n i).1

pub said_at : (x : Next) (s : List ℕ) (v e : ℕ) → met_of x s ≡ Says v e → (e ≡ first_of 10 s) × (e < length s)
said_at Done s v e h = let z : ◌≡◌ {A = ℕ} 0 1 = cc in absurd (omega arith)
said_at (Line k x lo hi) s v e h =
    let p = says_in s (line_value k x lo hi s) v e h in
    (p.1, omega (arith, p.1, ended k x lo hi s v p.0))

ten_digits : (x : Sort) (v : ℕ) → IsOf x v → v ≤ most_number
ten_digits Whole v h = h
ten_digits Amount v h = omega (arith, h.1)
ten_digits Letter v h = omega arith

may_be_small : (x : Next) (v : ℕ) → MayBe x v → v ≤ most_number
may_be_small Done v h = absurd h
may_be_small (Line k x lo hi) v h = ten_digits x v h.2

pub small_zeros : (n : ℕ) → Small (replicate n 0)
small_zeros n i =
    by_le n i
    (λ h. rw (get_or-eq_default {A = ℕ} (replicate n 0) 0 {n = i} (omega (arith, h, length-replicate {A = ℕ} n 0))) (omega arith))
    (λ h. rw (get_or-replicate {A = ℕ} n i 0 0 h) (omega arith))

small_set : (v : List ℕ) (n value : ℕ) → Small v → n < length v → value ≤ most_number → Small (set v n value)
small_set v n value s h k i =
    by_eq i n (λ e. rw (e, get_or-set_same v n value 0 h) k) (λ e. rw (get_or-set_other v n i value 0 e) (s i))

-- ---- the loop

pub record Going (next : List ℕ → Next) (s v : List ℕ) (n : ℕ) (rest : List ℕ) : Type 0 where
  pub few : n ≤ 18
  pub long : length v ≡ 18
  pub small : Small v
  pub room : v ≡ take n v ++ replicate (18 - n) 0
  pub fits : length rest ≤ length s
  pub rest_is : read_from next (18 - n) (take n v) rest ≡ read_from next 18 [] s

module _ (next : List ℕ → Next) where
  pub begin : (s : List ℕ) → Going next s (replicate 18 0) 0 s
  begin s = record { few = omega arith; long = refl; small = small_zeros 18; room = refl; fits = omega arith; rest_is = refl }

  module _ (s v : List ℕ) (n : ℕ) (rest : List ℕ) (g : Going next s v n rest) (m : Met) (met : m ≡ met_of (next (take n v)) rest) where
    met_here : (k : ℕ) → 18 - n ≡ k → read_from next 18 [] s ≡ read_from next k (take n v) rest
    met_here k e = sym g.rest_is ∙ ap (λ (j : ℕ). read_from next j (take n v) rest) e

    size : length (take n v) ≡ n
    size = length-take-le n v (omega (arith, g.few, g.long))

    zeros : n < 18 → drop (suc n) v ≡ replicate (18 - suc n) 0
    zeros h =
        let k : 18 - n ≡ suc (18 - suc n) = omega (arith, h) in
        sym (ap (λ (j : ℕ). drop j v) (add-one n))
        ∙ sym (drop-drop 1 n v)
        ∙ ap (drop 1) (ap (drop n) g.room ∙ drop_at (take n v) (replicate (18 - n) 0) n size)
        ∙ ap (λ (j : ℕ). drop 1 (replicate j 0)) k

    module _ (h : n < 18) where
      more : 18 - n ≡ suc (18 - suc n)
      more = omega (arith, h)

      pub wrong_here : m ≡ Wrong → (r : Item) → r ≡ wrong_item n → r ≡ item_of (read_from next 18 [] s) s
      unfolding read_from
      wrong_here w r e =
          let q : met_of (next (take n v)) rest ≡ Wrong = sym met ∙ w in
          let is : read_from next (suc (18 - suc n)) (take n v) rest ≡ bad (length (take n v)) = rw q in
          e ∙ ap wrong_item (sym size) ∙ sym (ap (λ (x : Lines). item_of x s) (met_here (suc (18 - suc n)) more ∙ is))

      pub over_here : m ≡ Over → record { good = true; lines = n; values = v; end = length s - length rest } ≡ item_of (read_from next 18 [] s) s
      unfolding read_from
      over_here w =
          let q : met_of (next (take n v)) rest ≡ Over = sym met ∙ w in
          let is : read_from next (suc (18 - suc n)) (take n v) rest ≡ good (take n v) rest = rw q in
          rw (met_here (suc (18 - suc n)) more ∙ is, size) (λ i. record { good = true; lines = n; values = g.room i; end = length s - length rest })

      pub says_here : (value e : ℕ) → m ≡ Says value e
          → (e < length rest) × Going next s (set v n value) (n + 1) (take (length rest - (e + 1)) (drop (e + 1) rest))
      unfolding read_from
      says_here value e w =
          let q : met_of (next (take n v)) rest ≡ Says value e = sym met ∙ w in
          let p = said_at (next (take n v)) rest value e q in
          let inside : n < length v = omega (arith, g.long, h) in
          let one : take (n + 1) (set v n value) ≡ take n v ++ (value ∷ []) = rw (add-one n) (take-suc-set v n value inside) in
          let j : 18 - (n + 1) ≡ 18 - suc n = omega arith in
          let is : read_from next (suc (18 - suc n)) (take n v) rest ≡ read_from next (18 - suc n) (take n v ++ (value ∷ [])) (below rest) = rw q in
          let whole : take (length rest - (e + 1)) (drop (e + 1) rest) ≡ drop (e + 1) rest =
          ap (λ (k : ℕ). take k (drop (e + 1) rest)) (sym (length-drop (e + 1) rest)) ∙ take-length (drop (e + 1) rest) in (
            p.1,
            rw whole (record {
              few = omega (arith, h);
              long = length-set v n value ∙ g.long;
              small = small_set v n value g.small inside (may_be_small (next (take n v)) value (met_only (next (take n v)) rest value e q).0);
              room =
                  rw (one, j)
                  (set_split v n value inside
                  ∙ ap (λ (l : List ℕ). take n v ++ (value ∷ l)) (zeros h)
                  ∙ sym (append_assoc (take n v) (value ∷ []) (replicate (18 - suc n) 0)));
              fits = omega (arith, g.fits, length-drop (e + 1) rest);
              rest_is = rw (one, j, below_at rest (drop (e + 1) rest) e p.0 refl) (sym (met_here (suc (18 - suc n)) more ∙ is));
            }),
          )

  -- after the last of them nothing is read
  pub full_here : (s v : List ℕ) (n : ℕ) (rest : List ℕ) → Going next s v n rest → 18 ≤ n → (r : Item) → r ≡ wrong_item 18
      → r ≡ item_of (read_from next 18 [] s) s
  unfolding read_from
  full_here s v n rest g h r e =
      let k : 18 - n ≡ 0 = omega arith in
      let all : 18 ≡ n = omega (arith, g.few) in
      let is : read_from next (18 - n) (take n v) rest ≡ bad (length (take n v)) = rw k in
      e ∙ ap wrong_item (all ∙ sym (length-take-le n v (omega (arith, g.few, g.long)))) ∙ sym (ap (λ (x : Lines). item_of x s) (sym g.rest_is ∙ is))
