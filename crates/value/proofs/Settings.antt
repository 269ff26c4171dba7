-- What a setting and the gradients are read as, from what their leaves answer. Assumes nothing.
use Rattle.std.specs.Prelude.{None, Option, Some}
use Rattle.value.specs.Kinds.{setting_from}
use Rattle.value.specs.declared.Value.{Value}
use lib.IntN.{ℤ}
use mathlib.Core.Path.{◌≡◌, sym, ap, ◌∙◌}

module _ (make : ℤ → Value) (r d : Option ℤ) (other : Option Value) where
  pub is_number : {v : ℤ} → r ≡ Some v → r ≡ d → Some (make v) ≡ setting_from make d other
  is_number e f = ap (λ (n : Option ℤ). setting_from make n other) (sym e ∙ f)

  pub is_word : r ≡ None → r ≡ d → other ≡ setting_from make d other
  is_word e f = ap (λ (n : Option ℤ). setting_from make n other) (sym e ∙ f)
