-- Two answers that satisfy a contract are equal: once of an equation, once of two and of three, once of a text. A crate cites these for each of its functions.
-- Assumes nothing.
use Prim.Native.Nat.{ℕ}
use Rattle.text.specs.Shapes.{Determines}
use mathlib.Core.List.{List}
use mathlib.Core.Path.{◌≡◌, sym, ◌∙◌}

module _ {E : Type 0} where
  -- the result is what a definition gives
  pub equation : {A : Type 0} (d : A) → Determines (λ (x : A). (e : E) × (x ≡ d))
  equation d x y p q = p.1 ∙ sym q.1

  -- and the buffer too
  pub equations : {A : Type 0} (buffer : E → List ℕ) (d : A) (o : List ℕ)
      → Determines (λ (x : A × List ℕ). (e : E) × (x.1 ≡ buffer e) × ((x.0 ≡ d) × (buffer e ≡ o)))
  equations buffer d o x y p q = λ i. ((p.2.0 ∙ sym q.2.0) i, (p.1 ∙ p.2.1 ∙ sym q.2.1 ∙ sym q.1) i)

  -- and two buffers
  pub three_equations : {A : Type 0} (first second : E → List ℕ) (d : A) (o r : List ℕ)
      → Determines (λ (x : A × List ℕ × List ℕ). (e : E) × (x.1 ≡ first e) × (x.2 ≡ second e) × ((x.0 ≡ d) × (first e ≡ o) × (second e ≡ r)))
  three_equations first second d o r x y p q =
      λ i. ((p.3.0 ∙ sym q.3.0) i, (p.1 ∙ p.3.1 ∙ sym q.3.1 ∙ sym q.1) i, (p.2 ∙ p.3.2 ∙ sym q.3.2 ∙ sym q.2) i)

  -- the buffer alone, where nothing is answered
  pub buffer_equation : (buffer : E → List ℕ) (o : List ℕ) → Determines (λ (x : Unit {0} × List ℕ). (e : E) × (x.1 ≡ buffer e) × (buffer e ≡ o))
  buffer_equation buffer o x y p q = λ i. (tt, (p.1 ∙ p.2 ∙ sym q.2 ∙ sym q.1) i)

  -- the text of the result is what a definition gives
  pub text_equation : {Z : Type 0} (text : Z → List ℕ) (d : List ℕ) → Determines (λ (t : List ℕ). (z : Z) × (e : E) × (t ≡ text z) × (text z ≡ d))
  text_equation text d x y p q = p.2 ∙ p.3 ∙ sym q.3 ∙ sym q.2
