-- The ways through the readers of an identifier and of a sequence. Assumes nothing.
use Rattle.std.specs.Prelude.{None, Option}
use Prim.Native.Nat.{ℕ, ◌-◌, ◌≤◌, ◌<◌}
use Rattle.value_name.specs.Names.{prefix_of, exactly, identifier_of, sequence_of}
use Rattle.value_name.specs.Types.{code_of}
use Rattle.value_name.specs.declared.MessageType.{MessageType}
use Rattle.value_name.specs.declared.MessageType.TheVariants.{Cb, Rc, Mg, Eb, Lb, Sr, Vq, Ri, Qr}
use Rattle.text.proofs.Cuts.{tail}
use Rattle.text.specs.Bytes.{same}
use Rattle.text.specs.Digits.{digits_of}
use borrow.Author.Tests.{eq-eqb, ne_eqb, lt-ltb, le-ltb}
use lib.ListN.{length, get_or, take, drop, length-drop}
use mathlib.Core.Bool.{Bool, true, false, cond, and-false}
use mathlib.Core.List.{List, [], ◌∷◌}
use mathlib.Core.Path.{◌≡◌, refl, sym, ap, ◌∙◌}
use native.Mathlib.Omega.{arith}

-- ---- identifier

dashed : (t : MessageType) → get_or (code_of t) 0 0 ∷ get_or (code_of t) 1 0 ∷ 45 ∷ [] ≡ prefix_of t
dashed Cb = refl
dashed Rc = refl
dashed Mg = refl
dashed Eb = refl
dashed Lb = refl
dashed Sr = refl
dashed Vq = refl
dashed Ri = refl
dashed Qr = refl

-- a type's code with its '-' (45)
pub with_dash : (t : MessageType) (c : List ℕ) → c ≡ code_of t → get_or c 0 0 ∷ get_or c 1 0 ∷ 45 ∷ [] ≡ prefix_of t
with_dash t c e = ap (λ (x : List ℕ). get_or x 0 0 ∷ get_or x 1 0 ∷ 45 ∷ []) e ∙ dashed t

cond_same : {A : Type 0} (t : Bool) (x : A) → x ≡ cond t x x
cond_same true x = refl
cond_same false x = refl

module _ (t : MessageType) (s : List ℕ) where
  pub identifier_sized : (length s ≡ 13 → ⊥) → None ≡ identifier_of t s
  unfolding identifier_of exactly
  identifier_sized n =
      let k : length (drop 3 s) ≡ 10 → ⊥ = λ e. n (omega (arith, length-drop 3 s)) in
      rw (ne_eqb (length (drop 3 s)) 10 k) (cond_same (same (take 3 s) (prefix_of t)) None)

  module _ (code : List ℕ) (b : Bool) (code_is : code ≡ prefix_of t) (told : b ≡ same (take 3 s) code) where
    pub identifier_other : b ≡ false → None ≡ identifier_of t s
    unfolding identifier_of
    identifier_other n = rw (sym code_is, sym told, n)

    pub identifier_read : (d : Option ℕ) → length s ≡ 13 → b ≡ true → d ≡ digits_of 10 (take (length s - 3) (drop 3 s)) → d ≡ identifier_of t s
    unfolding identifier_of exactly
    identifier_read d l y e =
        let k : length (drop 3 s) ≡ 10 = omega (arith, length-drop 3 s) in
        rw (sym code_is, sym told, y, eq-eqb (length (drop 3 s)) 10 k, e, tail s 3)

-- ---- sequence

module _ (s : List ℕ) where
  pub sequence_zero : 2 ≤ length s → get_or s 0 0 ≡ 48 → None ≡ sequence_of s
  unfolding sequence_of
  sequence_zero h e = rw (eq-eqb (get_or s 0 0) 48 e, lt-ltb 1 (length s) h)

  pub sequence_short : length s < 2 → digits_of 10 s ≡ sequence_of s
  unfolding sequence_of
  sequence_short h = rw (le-ltb 1 (length s) (omega arith))

  pub sequence_other : (get_or s 0 0 ≡ 48 → ⊥) → digits_of 10 s ≡ sequence_of s
  unfolding sequence_of
  sequence_other n = simp (ne_eqb (get_or s 0 0) 48 n, and-false)
