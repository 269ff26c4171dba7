-- Tests: proofs by cases of one, and a test by `&&` with the facts that it tells, both ways at once.
-- Assumes nothing.
use Prim.Native.Nat.{ℕ, ◌≤◌, ◌<◌}
use borrow.Author.Tests.{lt-ltb, le-leb, leb-true, leb-false, ltb-true, eq-eqb, eqb-true, eqb-false}
use lib.Dec.{eqb, leb, ltb}
use mathlib.Core.Bool.{Bool, true, false, ◌&&◌, ◌||◌, beq, cond, false≢true}
use mathlib.Core.Logic.{◌↔◌}
use mathlib.Core.Path.{◌≡◌, refl, sym}

-- ---- a proof in two cases, in the line where it is needed

pub by_test : {A : Type 0} (t : Bool) → (t ≡ true → A) → (t ≡ false → A) → A
by_test true p q = p refl
by_test false p q = q refl

pub by_le : {A : Type 0} (a b : ℕ) → (a ≤ b → A) → (b < a → A) → A
by_le a b p q = by_test (leb a b) (λ e. p (leb-true a b e)) (λ e. q (leb-false a b e))

pub by_eq : {A : Type 0} (a b : ℕ) → (a ≡ b → A) → ((a ≡ b → ⊥) → A) → A
by_eq a b p q = by_test (eqb a b) (λ e. p (eqb-true a b e)) (λ e. q (eqb-false a b e))

pub cond_le : (t : Bool) {a b n : ℕ} → a ≤ n → b ≤ n → cond t a b ≤ n
cond_le true h k = h
cond_le false h k = k

-- ---- a test, and the fact that it tells

-- `t` tells A
abbrev pub Tells : Bool → Type 0 → Type 0
Tells t A = t ≡ true ↔ A

pub leb_tells : (a b : ℕ) → Tells (leb a b) (a ≤ b)
leb_tells a b = (leb-true a b, le-leb a b)

pub ltb_tells : (a b : ℕ) → Tells (ltb a b) (a < b)
ltb_tells a b = (ltb-true a b, lt-ltb a b)

pub eqb_tells : (a b : ℕ) → Tells (eqb a b) (a ≡ b)
eqb_tells a b = (eqb-true a b, eq-eqb a b)

pub same_tells : (a b : Bool) → Tells (beq a b) (a ≡ b)
same_tells true true = (λ e. refl, λ e. refl)
same_tells true false = (λ e. absurd (false≢true e), λ e. sym e)
same_tells false true = (λ e. absurd (false≢true e), λ e. e)
same_tells false false = (λ e. refl, λ e. refl)

-- a test that tells itself
pub itself : (t : Bool) → Tells t (t ≡ true)
itself t = (λ e. e, λ e. e)

infixl 5 ◌and◌
pub ◌and◌ : {A B : Type 0} {a b : Bool} → Tells a A → Tells b B → Tells (a && b) (A × B)
◌and◌ {a = true} p q = (λ e. (p.0 refl, q.0 e), λ h. q.1 h.1)
◌and◌ {a = false} p q = (λ e. absurd (false≢true e), λ h. absurd (false≢true (p.1 h.0)))

pub within_tells : (lo hi b : ℕ) → Tells (leb lo b && leb b hi) ((lo ≤ b) × (b ≤ hi))
within_tells lo hi b = leb_tells lo b and leb_tells b hi

-- two tests that tell the same are equal
pub same_if : {A B : Type 0} {a b : Bool} → Tells a A → Tells b B → (A → B) → (B → A) → a ≡ b
same_if {a = true} p q f g = sym (q.1 (f (p.0 refl)))
same_if {a = false} {b = true} p q f g = p.1 (g (q.0 refl))
same_if {a = false} {b = false} p q f g = refl

-- a test that tells a fact tells each that says the same
pub told : {A B : Type 0} {t : Bool} → Tells t A → (A → B) → (B → A) → Tells t B
told p f g = (λ e. f (p.0 e), λ b. p.1 (g b))

-- a test that is not told is false
pub untold : {A : Type 0} {t : Bool} → Tells t A → (A → ⊥) → t ≡ false
untold {t = true} p h = absurd (h (p.0 refl))
untold {t = false} p h = refl

-- both halves of a test by `&&`
pub and_parts : (a b : Bool) → a && b ≡ true → (a ≡ true) × (b ≡ true)
and_parts true b e = (refl, e)
and_parts false b e = absurd (false≢true e)

-- both halves of a test by `||` that fails
pub or_parts : (a b : Bool) → (a || b) ≡ false → (a ≡ false) × (b ≡ false)
or_parts true b e = absurd (false≢true (sym e))
or_parts false b e = (refl, e)

pub or_right : (a b : Bool) → b ≡ true → (a || b) ≡ true
or_right true b e = refl
or_right false b e = e

-- a choice by a test, told by its answer
pub chosen : {A : Type 0} (t : Bool) (x y : A) → (x ≡ y → ⊥) → cond t x y ≡ x → t ≡ true
chosen true x y n e = refl
chosen false x y n e = absurd (n (sym e))
