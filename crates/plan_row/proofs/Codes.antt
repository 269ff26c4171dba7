-- The ways through the readers of a type: its code, and the line `type=`, two bytes, LF (10).
-- Assumes nothing.
use Rattle.std.specs.Prelude.{None, Option, Some}
use Prim.Native.Nat.{ℕ, ◌≤◌, ◌<◌}
use Rattle.text_keyline.proofs.Lines.{line_any, line_value, line_first, ended_line}
use Rattle.plan_row.specs.Kept.{type_read_of}
use Rattle.plan_row.specs.Rows.{type_from, types, if_type, type_at}
use Rattle.text_keyline.proofs.Values.{other_key, upto_less, first_at, line_told}
use Rattle.text_keyline.specs.Keylines.{line_of, value_in}
use Rattle.value_name.specs.Types.{code_of}
use Rattle.value_name.specs.declared.MessageType.TheVariants.{Cb, Rc, Mg, Eb, Lb, Sr, Vq, Ri, Qr}
use Rattle.value_name.specs.declared.MessageType.{MessageType}
use Rattle.text.proofs.Cuts.{drop_step, any_seam, same_lengths}
use Rattle.text.proofs.Tests.{by_test, by_eq}
use Rattle.text.specs.Bytes.{bytes, same, starts, is, any, upto, first_of}
use borrow.Author.Tests.{eqb-true, eq-eqb, ne_eqb}
use lib.Dec.{eqb}
use lib.ListN.{length, get_or, drop, length-drop}
use lib.Seq.{get_or-drop}
use mathlib.Core.Bool.{Bool, true, false, ◌&&◌, cond}
use mathlib.Core.List.{List, [], ◌∷◌}
use mathlib.Core.Path.{◌≡◌, refl, sym, ap, ◌∙◌}
use native.Mathlib.Omega.{arith}

-- ---- the type whose code two bytes are, by the first and then the second

-- what the arm `_` knows of a byte (`c.match.rest`) that is none of these, the last first
abbrev pub Lacks : List ℕ → ℕ → Type 0
Lacks [] a = Unit
Lacks (x ∷ xs) a = Lacks xs a × (a ≡ x → ⊥)

module _ (a b : ℕ) where
  abbrev read : Option MessageType
  read = type_read_of (type_from types (a ∷ b ∷ []))

  pub code_is : (x y : ℕ) (t : MessageType) → a ≡ x → b ≡ y → Some t ≡ type_read_of (type_from types (x ∷ y ∷ [])) → Some t ≡ read
  code_is x y t e f g = rw (e, f) g

  -- the only code that begins with x, or the only one that is left, ends with y
  pub code_one : (x y : ℕ) (t : MessageType) {r : Option MessageType} → a ≡ x → type_from types (x ∷ b ∷ []) ≡ cond (eqb y b && true) (Some t) None
      → r ≡ type_read_of (cond (eqb b y) (Some t) None) → r ≡ read
  code_one x y t e only q =
      by_eq b y (λ h. q ∙ rw (e, only, eq-eqb b y h, eq-eqb y b (sym h)))
      (λ n. q ∙ rw (e, only, ne_eqb b y n, ne_eqb y b (λ h. n (sym h))))

  pub no_code : Lacks (86 ∷ 83 ∷ 82 ∷ 81 ∷ 77 ∷ 76 ∷ 69 ∷ 67 ∷ []) a → None ≡ read
  unfolding type_from same
  no_code ((((((((u, c), e), l), m), q), r), s), v) =
      rw (
        ne_eqb 67 a (λ h. c (sym h)),
        ne_eqb 82 a (λ h. r (sym h)),
        ne_eqb 77 a (λ h. m (sym h)),
        ne_eqb 69 a (λ h. e (sym h)),
        ne_eqb 76 a (λ h. l (sym h)),
        ne_eqb 83 a (λ h. s (sym h)),
        ne_eqb 86 a (λ h. v (sym h)),
        ne_eqb 81 a (λ h. q (sym h)),
      )

-- ---- the line

two_bytes : (t : MessageType) → length (code_of t) ≡ 2
two_bytes Cb = refl
two_bytes Rc = refl
two_bytes Mg = refl
two_bytes Eb = refl
two_bytes Lb = refl
two_bytes Sr = refl
two_bytes Vq = refl
two_bytes Ri = refl
two_bytes Qr = refl

other_length : (ts : List MessageType) (v : List ℕ) → (length v ≡ 2 → ⊥) → type_from ts v ≡ None
unfolding type_from
other_length [] v n = refl
other_length (t ∷ ts) v n =
    let d : length (code_of t) ≡ length v → ⊥ = λ e. n (sym e ∙ two_bytes t) in
    rw (sym (same_lengths (code_of t) v d)) (other_length ts v n)

-- two bytes up to LF are the value, and where LF is one of the two there is no type either way
two_then : (a b : ℕ) (r : List ℕ) → type_from types (upto (is 10) (a ∷ b ∷ 10 ∷ r)) ≡ type_from types (a ∷ b ∷ [])
unfolding type_from upto same
two_then a b r =
    by_test (eqb a 10) (λ e. let n = eqb-true a 10 e in rw n)
    (λ e. by_test (eqb b 10) (λ f. let n = eqb-true b 10 f in rw (e, n)) (λ f. rw (e, f)))

type_clean : any (is 10) (bytes "type=") ≡ false
unfolding any
type_clean = refl

no_type_in : (l : Option ℕ) → None ≡ type_read_of (if_type l None)
no_type_in (Some e) = refl
no_type_in None = refl

module _ (s : List ℕ) (b : Bool) (told : b ≡ starts (bytes "type=") s) where
  pub type_key : b ≡ false → None ≡ type_read_of (type_at s)
  unfolding type_at
  type_key n = rw (sym (other_key (bytes "type=") s b told n))

  module _ (yes : b ≡ true) where
    begins : starts (bytes "type=") s ≡ true
    begins = sym told ∙ yes

    value_is : value_in (bytes "type=") s ≡ upto (is 10) (drop 5 s)
    value_is = line_value (bytes "type=") s type_clean begins

    not_two : (any (is 10) (drop 5 s) ≡ true → first_of 10 (drop 5 s) ≡ 2 → ⊥) → None ≡ type_read_of (type_at s)
    unfolding type_at line_of
    not_two n =
        by_test (any (is 10) (drop 5 s))
        (λ y. rw (value_is, other_length types (upto (is 10) (drop 5 s)) (n y)) (no_type_in (line_of (bytes "type=") s)))
        (λ o. let z = line_any (bytes "type=") s type_clean begins ∙ o in rw (begins, z))

    pub type_short : length s < 8 → None ≡ type_read_of (type_at s)
    type_short h = not_two (λ y e. omega (arith, upto_less (drop 5 s) y, length-drop 5 s))

    pub type_open : (get_or s 7 0 ≡ 10 → ⊥) → None ≡ type_read_of (type_at s)
    type_open g =
        not_two (λ y e. g (sym (get_or-drop 5 s 2 0) ∙ ap (λ (k : ℕ). get_or (drop 5 s) k 0) (sym e) ∙ first_at (drop 5 s) y))

    module _ (h : 8 ≤ length s) (g : get_or s 7 0 ≡ 10) where
      three : drop 5 s ≡ get_or s 5 0 ∷ get_or s 6 0 ∷ 10 ∷ drop 8 s
      three =
          drop_step s 5 (omega arith)
          ∙ ap (λ (l : List ℕ). get_or s 5 0 ∷ l)
          (drop_step s 6 (omega arith) ∙ ap (λ (l : List ℕ). get_or s 6 0 ∷ l) (drop_step s 7 h ∙ ap (λ (b : ℕ). b ∷ drop 8 s) g))

      pub type_line : (t : Option MessageType) → t ≡ type_read_of (type_from types (get_or s 5 0 ∷ get_or s 6 0 ∷ [])) → t ≡ type_read_of (type_at s)
      unfolding type_at
      type_line t e =
          let y : any (is 10) (drop 5 s) ≡ true = ap (any (is 10)) three ∙ any_seam (is 10) (get_or s 5 0 ∷ get_or s 6 0 ∷ []) 10 (drop 8 s) refl in
          e ∙ rw (ended_line (bytes "type=") s type_clean begins y, value_is, three, two_then (get_or s 5 0) (get_or s 6 0) (drop 8 s))

-- a type that was read tells how long its line is
pub type_told : (s : List ℕ) (t : MessageType) → type_at s ≡ Some t → (first_of 10 s ≡ 7) × (7 < length s)
unfolding type_at
type_told s t e = at_line (line_of (bytes "type=") s) refl e
  where
    two : type_from types (value_in (bytes "type=") s) ≡ Some t → length (value_in (bytes "type=") s) ≡ 2
    two f =
        by_eq (length (value_in (bytes "type=") s)) 2 (λ y. y)
        (λ n. let o : None ≡ Some t = sym (other_length types (value_in (bytes "type=") s) n) ∙ f in let z : ◌≡◌ {A = ℕ} 0 1 = cc in absurd (omega arith))

    at_line : (l : Option ℕ) → line_of (bytes "type=") s ≡ l → if_type l (type_from types (value_in (bytes "type=") s)) ≡ Some t → (first_of 10 s ≡ 7) × (7 < length s)
    at_line None i f = let z : ◌≡◌ {A = ℕ} 0 1 = cc in absurd (omega arith)
    at_line (Some k) i f =
        let w = line_told (bytes "type=") s k i in
        let n : first_of 10 s ≡ 7 =
        omega (arith, line_first (bytes "type=") s type_clean w.0, ap length (line_value (bytes "type=") s type_clean w.0), two f) in
        (n, omega (arith, n, upto_less s w.1))
