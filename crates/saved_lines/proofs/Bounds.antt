-- A text does not depend on what the items above leave: bounds are for reading alone. Assumes nothing.
use Prim.Native.Nat.{ℕ}
use Rattle.saved_lines.specs.Items.{text_from}
use Rattle.saved_lines.specs.Tables.{next_of}
use Rattle.saved_lines.specs.Values.{next_text}
use Rattle.saved_lines.specs.declared.Above.{Above}
use Rattle.saved_lines.specs.declared.Table.{Table}
use Rattle.saved_lines.specs.declared.Table.TheVariants.{Form, Head, Order}
use mathlib.Core.List.{List, [], ◌∷◌, ◌++◌}
use mathlib.Core.Path.{◌≡◌, refl, ap₂}

module _ (a b : Above) where
  line_alike : (t : Table) (vs : List ℕ) (v : ℕ) → next_text (next_of t a vs) v ≡ next_text (next_of t b vs) v
  line_alike Form vs v = refl
  line_alike Head vs v = refl
  line_alike Order [] v = refl
  line_alike Order (p ∷ []) v = refl
  line_alike Order (p ∷ q ∷ []) v = refl
  line_alike Order (p ∷ q ∷ r ∷ []) v = refl
  line_alike Order (p ∷ q ∷ r ∷ s ∷ []) v = refl
  line_alike Order (p ∷ q ∷ r ∷ s ∷ t ∷ []) v = refl
  line_alike Order (p ∷ q ∷ r ∷ s ∷ t ∷ u ∷ []) v = refl
  line_alike Order (p ∷ q ∷ r ∷ s ∷ t ∷ u ∷ w ∷ vs) v = refl

  -- THE LAW
  pub text_alike : (t : Table) (vs ws : List ℕ) → text_from (next_of t a) vs ws ≡ text_from (next_of t b) vs ws
  unfolding text_from
  text_alike t vs [] = refl
  text_alike t vs (v ∷ ws) = ap₂ (λ (l m : List ℕ). l ++ m) (line_alike t vs v) (text_alike t (vs ++ (v ∷ [])) ws)
